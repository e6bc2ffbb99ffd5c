-- The entries of the first i servers in order are laid out, and the places behind them are blank.
use mathlib.Core.Path.{◌≡◌}
use lib.ListN.{length}
use Rattle.sets.specs.Sets.{in_state}
use Rattle.ringplan.proofs.Planning.{LaidOut}
use Rattle.ringplan.proofs.plan.Given as goal

abbrev pub invariant-loop-i : goal.invariant-loop-i
invariant-loop-i l = (length l.plan ≡ 64) × LaidOut l.movers.servers.now (in_state 1 l.movers.servers.now l.movers.states.now) l.plan l.i
