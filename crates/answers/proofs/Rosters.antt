-- Whether some server works, by the states alone.
use Prim.Native.Nat.{ℕ, suc, min}
use mathlib.Core.List.{List, [], ◌∷◌}
use mathlib.Core.Path.{◌≡◌}
use native.Mathlib.Omega.{arith}
use lib.Dec.{eqb}
use lib.ListN.{length, take}
use Rattle.std.specs.List.{list_any}
use Rattle.sets.specs.Sets.{in_state}
use Rattle.sets.proofs.Cases.{both}
use Rattle.ringplan.specs.Plan.{some}

-- some server is in a state where the state stands at one of the places that both lists have
pub some_stated : (k : ℕ) (ss xs : List ℕ) → list_any (λ (x : ℕ). eqb x k) (take (min (length ss) (length xs)) xs) ≡ some (in_state k ss xs)
unfolding in_state
some_stated k [] xs = let e : min 0 (length xs) ≡ 0 = omega arith in rw e
some_stated k (s ∷ ss) [] = let e : min (suc (length ss)) 0 ≡ 0 = omega arith in rw e
some_stated k (s ∷ ss) (x ∷ xs) =
    let e : min (suc (length ss)) (suc (length xs)) ≡ suc (min (length ss) (length xs)) = omega arith in
    both (eqb x k) (λ q. rw (e, q)) (λ q. rw (e, q) (some_stated k ss xs))
