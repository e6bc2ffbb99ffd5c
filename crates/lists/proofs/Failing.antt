-- Where a list of servers fails to rise, and a list of states has something else; and what one that passes excludes.
use Prim.Native.Nat.{ℕ, ◌≤◌}
use mathlib.Core.Bool.{true, false}
use mathlib.Core.List.{List, [], ◌∷◌, ◌++◌}
use mathlib.Core.Logic.{◌≢◌}
use mathlib.Core.Path.{◌≡◌, refl, ap}
use lib.Dec.{eqb, ltb}
use borrow.Author.Tests.{ltb-false, eqb-true, eqb-false}
use Rattle.sets.specs.Sets.{member}
use Rattle.sets.proofs.Cases.{both, clash}
use Rattle.sets.proofs.Members.{member_head, member_tail, member-cases}
use Rattle.lists.specs.Lists.{rising, all_stated}
use Rattle.lists.proofs.Order.{rise_tail}
use Rattle.lists.proofs.OfStates.{stated_tail}

-- a list that doesn't rise: its first is not above `last`, or one of the others is not above the one before it
pub falls : {C : Type 0} (last : ℕ) (l : List ℕ) → rising last l ≡ false
    → ((x : ℕ) (back : List ℕ) → l ≡ x ∷ back → x ≤ last → C)
    → ((front : List ℕ) (a b : ℕ) (back : List ℕ) → l ≡ front ++ (a ∷ b ∷ back) → b ≤ a → C)
    → C
unfolding rising
falls last [] e first later = clash refl e
falls last (x ∷ l) e first later =
    both (ltb last x)
    (λ t.
    falls x l (rw t at e)
    (λ y back q low. later [] x y back (ap (λ (k : List ℕ). x ∷ k) q) low)
    (λ front a b back q low. later (x ∷ front) a b back (ap (λ (k : List ℕ). x ∷ k) q) low))
    (λ t. first x l refl (ltb-false last x t))

-- behind each server of a rising list the list rises from it
pub rise_behind : (last : ℕ) (front : List ℕ) (a : ℕ) (back : List ℕ) → rising last (front ++ (a ∷ back)) ≡ true → rising a back ≡ true
rise_behind last [] a back e = rise_tail last a back e
rise_behind last (x ∷ front) a back e = rise_behind x front a back (rise_tail last x (front ++ (a ∷ back)) e)

-- each of a list of states is working or standby
pub stated_each : {C : Type 0} (x : ℕ) (xs : List ℕ) → all_stated xs ≡ true → member x xs ≡ true → (x ≡ 1 → C) → (x ≡ 2 → C) → C
unfolding all_stated
stated_each x [] a m f g = clash m refl
stated_each x (y ∷ xs) a m f g =
    member-cases x y xs m
    (λ q.
    both (eqb y 1) (λ t. f (rw q (eqb-true y 1 t))) (λ t.
    both (eqb y 2) (λ u. g (rw q (eqb-true y 2 u))) (λ u. clash (rw (t, u) at a) refl)))
    (λ m. stated_each x xs (stated_tail y xs a) m f g)

-- of a list that isn't one of states, one is neither
abbrev Neither : List ℕ → Type 0
Neither xs = (x : ℕ) × (member x xs ≡ true) × (x ≢ 1) × (x ≢ 2)

neither_behind : (y : ℕ) (xs : List ℕ) → Neither xs → Neither (y ∷ xs)
neither_behind y xs (x, m, one, two) = (x, member_tail x y xs m, one, two)

pub unstated : (xs : List ℕ) → all_stated xs ≡ false → (x : ℕ) × (member x xs ≡ true) × (x ≢ 1) × (x ≢ 2)
unfolding all_stated
unstated [] e = clash refl e
unstated (y ∷ xs) e =
    both (eqb y 1) (λ t. neither_behind y xs (unstated xs (rw t at e))) (λ t.
    both (eqb y 2) (λ u. neither_behind y xs (unstated xs (rw (t, u) at e))) (λ u.
    (y, member_head y xs, eqb-false y 1 t, eqb-false y 2 u)))
