-- The places in use, and those behind them, after a held server's state was set.
use Prim.Native.Nat.{ℕ, zero, suc}
use mathlib.Core.Bool.{true}
use mathlib.Core.List.{List, [], ◌∷◌}
use mathlib.Core.Path.{◌≡◌, refl, ap}
use lib.Dec.{eqb}
use lib.ListN.{length, take, drop}
use Rattle.sets.proofs.Cases.{both}
use Rattle.lists.specs.Lists.{all_stated}
use Rattle.lists.proofs.OfStates.{stated_tail, stated_cons, stated_alone}
use Rattle.roster.specs.Roster.{restated}

pub held_restated : (s k n : ℕ) (ss xs : List ℕ) → take n (restated s k (take n ss) xs) ≡ restated s k (take n ss) (take n xs)
unfolding restated
held_restated s k zero ss xs = refl
held_restated s k (suc n) [] xs = refl
held_restated s k (suc n) (y ∷ ss) [] = refl
held_restated s k (suc n) (y ∷ ss) (x ∷ xs) =
    both (eqb y s) (λ t. rw t) (λ t. rw t (ap (λ (l : List ℕ). x ∷ l) (held_restated s k n ss xs)))

pub rest-restated : (s k n : ℕ) (ss xs : List ℕ) → drop n (restated s k (take n ss) xs) ≡ drop n xs
unfolding restated
rest-restated s k zero ss xs = refl
rest-restated s k (suc n) [] xs = refl
rest-restated s k (suc n) (y ∷ ss) [] = refl
rest-restated s k (suc n) (y ∷ ss) (x ∷ xs) = both (eqb y s) (λ t. rw t) (λ t. rw t (rest-restated s k n ss xs))

pub length-restated : (s k : ℕ) (ys xs : List ℕ) → length (restated s k ys xs) ≡ length xs
unfolding restated
length-restated s k [] xs = refl
length-restated s k (y ∷ ys) [] = refl
length-restated s k (y ∷ ys) (x ∷ xs) = both (eqb y s) (λ t. rw t) (λ t. rw t (ap suc (length-restated s k ys xs)))

-- each place in use keeps a state
pub stated_restated : (s k : ℕ) (ys xs : List ℕ) → all_stated (k ∷ []) ≡ true → all_stated xs ≡ true → all_stated (restated s k ys xs) ≡ true
unfolding restated
stated_restated s k [] xs o a = a
stated_restated s k (y ∷ ys) [] o a = a
stated_restated s k (y ∷ ys) (x ∷ xs) o a =
    both
    (eqb y s)
    (λ t. rw t (stated_cons k o xs (stated_tail x xs a)))
    (λ t. rw t (stated_cons x (stated_alone x xs a) (restated s k ys xs) (stated_restated s k ys xs o (stated_tail x xs a))))
