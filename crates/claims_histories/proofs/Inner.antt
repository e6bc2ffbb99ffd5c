-- What carries `Along` from event to event: the same facts, and that the roster has its 64 places and holds only servers of 4 bytes.
use Prim.Native.Nat.{◌^◌}
use Rattle.roster.proofs.Form.{Sized}
use Rattle.roster.proofs.Bounds.{Below}
use Rattle.rules.specs.Rules.{World}
use Rattle.claims_histories.specs.Histories.{Along}

pub record Inner (w : World) : Type 0 where
  pub along : Along w
  pub places : Sized w.state.roster
  pub below : Below (2 ^ 32) w.state.roster.servers
