-- The keys of the first i servers stand in the first i places.
use mathlib.Core.List.{map}
use mathlib.Core.Path.{◌≡◌}
use lib.ListN.{take, length}
use Rattle.ringplan.specs.Keys.{key_of}
use Rattle.ringplan.proofs.arrange.Given as goal

abbrev pub invariant-loop-i : goal.invariant-loop-i
invariant-loop-i l = (take l.i l.order ≡ map key_of (take l.i l.servers)) × (length l.order ≡ 64)
