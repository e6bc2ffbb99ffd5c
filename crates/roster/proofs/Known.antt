-- A server that a sound roster knows is in one of its two sets, whatever the lengths of its lists.
use Prim.Native.Nat.{ℕ}
use mathlib.Core.Bool.{true}
use mathlib.Core.List.{List, [], ◌∷◌}
use mathlib.Core.Logic.{◌≢◌, ◌⊎◌, inl, inr}
use mathlib.Core.Path.{◌≡◌, refl, ◌∙◌}
use lib.Dec.{eqb}
use borrow.Author.Tests.{eqb-true, eq-eqb}
use Rattle.sets.specs.Sets.{member}
use Rattle.sets.proofs.Cases.{both, clash}
use Rattle.lists.specs.Lists.{all_stated}
use Rattle.lists.proofs.OfStates.{stated_tail}
use Rattle.roster.specs.declared.Roster.{Roster}
use Rattle.roster.specs.Roster.{sound, state_in, state_of, working_set, horizon}
use Rattle.roster.proofs.Form.{sound_parts}
use Rattle.roster.proofs.Sets.{working_state, horizon_state}

known_in : {C : Type 0} (x : ℕ) (ys xs : List ℕ) → all_stated xs ≡ true → (state_in x ys xs ≡ 0 → ⊥)
    → (state_in x ys xs ≡ 1 → C) → (state_in x ys xs ≡ 2 → C) → C
unfolding state_in all_stated
known_in x [] xs a n f g = absurd (n refl)
known_in x (y ∷ ys) [] a n f g = absurd (n refl)
known_in x (y ∷ ys) (z ∷ xs) a n f g =
    both (eqb y x)
    (λ t.
    both (eqb z 1) (λ u. f (rw t (eqb-true z 1 u))) (λ u.
    both (eqb z 2) (λ v. g (rw t (eqb-true z 2 v))) (λ v. clash (rw (u, v) at a) refl)))
    (λ t. known_in x ys xs (stated_tail z xs a) (rw t at n) (λ q. f (rw t q)) (λ q. g (rw t q)))

pub known_sets : (r : Roster) → sound r ≡ true → (x : ℕ) → state_of x r ≢ 0 → (member x (working_set r) ≡ true) ⊎ (member x (horizon r) ≡ true)
known_sets r so x n =
    known_in x _ _ (sound_parts r so).stated n
    (λ q. inl (working_state r so x ∙ eq-eqb (state_of x r) 1 q))
    (λ q. inr (horizon_state r so x ∙ eq-eqb (state_of x r) 2 q))
