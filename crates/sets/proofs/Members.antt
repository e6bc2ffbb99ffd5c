-- The laws of membership.
use Prim.Native.Nat.{ℕ}
use mathlib.Core.Bool.{true, ◌||◌}
use mathlib.Core.List.{List, [], ◌∷◌, ◌++◌}
use mathlib.Core.Path.{◌≡◌, refl}
use lib.Dec.{eqb}
use borrow.Author.Tests.{eqb-true, eq-eqb}
use Rattle.sets.specs.Sets.{member}
use Rattle.sets.proofs.Cases.{both, either, or_right}

pub member_head : (x : ℕ) (l : List ℕ) → member x (x ∷ l) ≡ true
member_head x l = rw (eq-eqb x x refl)

pub member_tail : (x y : ℕ) (l : List ℕ) → member x l ≡ true → member x (y ∷ l) ≡ true
member_tail x y l e = or_right (eqb x y) e

pub member-append : (x : ℕ) (l m : List ℕ) → member x (l ++ m) ≡ member x l || member x m
member-append x [] m = refl
member-append x (y ∷ l) m = both (eqb x y) (λ e. rw e) (λ e. rw e (member-append x l m))

pub member_left : (x : ℕ) (l m : List ℕ) → member x l ≡ true → member x (l ++ m) ≡ true
member_left x l m e = rw (member-append, e)

pub member_right : (x : ℕ) (l m : List ℕ) → member x m ≡ true → member x (l ++ m) ≡ true
member_right x l m e = rw member-append (or_right (member x l) e)

module _ {ℓ} {C : Type ℓ} where
  -- a member of a list with a head is the head or one of the rest
  pub member-cases : (x y : ℕ) (l : List ℕ) → member x (y ∷ l) ≡ true → (x ≡ y → C) → (member x l ≡ true → C) → C
  member-cases x y l e f g = either (eqb x y) (member x l) e (λ q. f (eqb-true x y q)) g

  -- a member of two lists together is in the first or in the second
  pub member_split : (x : ℕ) (l m : List ℕ) → member x (l ++ m) ≡ true → (member x l ≡ true → C) → (member x m ≡ true → C) → C
  member_split x l m e f g = either (member x l) (member x m) (rw member-append at e) f g
