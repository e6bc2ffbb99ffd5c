-- Lists of states: each is working or in the horizon, and stays so where one is put in or taken out.
use Prim.Native.Nat.{ℕ, zero, suc}
use mathlib.Core.Bool.{true}
use mathlib.Core.List.{List, [], ◌∷◌, ◌++◌}
use mathlib.Core.Path.{◌≡◌, refl}
use lib.Dec.{eqb}
use lib.ListN.{take, drop}
use Rattle.sets.proofs.Cases.{both, clash}
use Rattle.lists.specs.Lists.{all_stated}

module _ (x : ℕ) (xs : List ℕ) (e : all_stated (x ∷ xs) ≡ true) where
  pub stated_head : x ≡ 0 → ⊥
  unfolding all_stated
  stated_head q = clash e (rw q)

  pub stated_tail : all_stated xs ≡ true
  unfolding all_stated
  stated_tail = both (eqb x 1) (λ t. rw t at e) (λ t. both (eqb x 2) (λ u. rw (t, u) at e) (λ u. clash (rw (t, u) at e) refl))

-- each place in use keeps a state; k is one
module _ (k : ℕ) (ok : all_stated (k ∷ []) ≡ true) where
  pub stated_cons : (xs : List ℕ) → all_stated xs ≡ true → all_stated (k ∷ xs) ≡ true
  unfolding all_stated
  stated_cons xs a = both (eqb k 1) (λ t. rw t a) (λ t. both (eqb k 2) (λ u. rw (t, u) a) (λ u. clash (rw (t, u) at ok) refl))

pub stated_alone : (x : ℕ) (xs : List ℕ) → all_stated (x ∷ xs) ≡ true → all_stated (x ∷ []) ≡ true
unfolding all_stated
stated_alone x xs a = both (eqb x 1) (λ t. rw t) (λ t. both (eqb x 2) (λ u. rw (t, u)) (λ u. clash (rw (t, u) at a) refl))

pub stated_in : (k p : ℕ) (xs : List ℕ) → all_stated (k ∷ []) ≡ true → all_stated xs ≡ true → all_stated (take p xs ++ (k ∷ drop p xs)) ≡ true
stated_in k zero xs o a = stated_cons k o xs a
stated_in k (suc p) [] o a = o
stated_in k (suc p) (x ∷ xs) o a = stated_cons x (stated_alone x xs a) (take p xs ++ (k ∷ drop p xs)) (stated_in k p xs o (stated_tail x xs a))

pub stated_out : (p : ℕ) (xs : List ℕ) → all_stated xs ≡ true → all_stated (take p xs ++ drop (suc p) xs) ≡ true
stated_out zero [] a = a
stated_out (suc p) [] a = a
stated_out zero (x ∷ xs) a = stated_tail x xs a
stated_out (suc p) (x ∷ xs) a = stated_cons x (stated_alone x xs a) (take p xs ++ drop (suc p) xs) (stated_out p xs (stated_tail x xs a))
