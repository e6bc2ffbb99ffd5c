-- A chain of tests as code runs it, each where those before it hold, and as the definition of a sound roster nests them.
use mathlib.Core.Bool.{Bool, true, false, cond}
use mathlib.Core.Path.{◌≡◌, refl}
use Rattle.sets.proofs.Cases.{clash}

-- those before the last hold, and all are followed by one that holds
pub all_hold : (r s a z v : Bool) → cond (cond r s false) a false ≡ true → v ≡ true → z ≡ cond r (cond s (cond a (cond z v false) false) false) false
all_hold true true true true v e o = rw o
all_hold true true true false v e o = refl
all_hold true true false z v e o = clash e refl
all_hold true false a z v e o = clash e refl
all_hold false s a z v e o = clash e refl

-- one of those before the last fails
pub one_fails : (r s a z v : Bool) → cond (cond r s false) a false ≡ false → false ≡ cond r (cond s (cond a (cond z v false) false) false) false
one_fails true true true z v e = clash refl e
one_fails true true false z v e = refl
one_fails true false a z v e = refl
one_fails false s a z v e = refl
