-- A refused event leaves the world as it was.
use Prim.Native.Nat.{ℕ}
use mathlib.Core.Bool.{false}
use mathlib.Core.List.{List}
use mathlib.Core.Path.{◌≡◌}
use Rattle.rules.specs.Rules.{World, event_of}
use Rattle.rules.proofs.Refusals.{refused_changes_nothing}

pub refused-leaves_world : (w : World) (bytes : List ℕ) → (event_of bytes w).answer.accepted ≡ false
    → (event_of bytes w).world ≡ w
refused-leaves_world w bytes a = (refused_changes_nothing bytes w a).world
