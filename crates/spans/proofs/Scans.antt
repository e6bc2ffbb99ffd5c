-- What the tests of whole spans mean.
use Prim.Native.Nat.{ℕ, zero, suc}
use mathlib.Core.Bool.{true}
use mathlib.Core.List.{List, [], ◌∷◌}
use mathlib.Core.Path.{◌≡◌, refl}
use lib.Dec.{eqb}
use lib.ListN.{length, replicate}
use borrow.Author.Tests.{eq-eqb, eqb-true}
use Rattle.std.specs.List.{list_all}
use Rattle.sets.proofs.Cases.{both, clash}
use Rattle.spans.specs.Spans.{same, all_zero}

-- that all places hold 0, as a library's test of each place and as a definition of this crate
pub all_are_zero : (s : List ℕ) → list_all (λ y. eqb y 0) s ≡ all_zero s
unfolding all_zero
all_are_zero [] = refl
all_are_zero (x ∷ xs) = both (eqb x 0) (λ t. rw t (all_are_zero xs)) (λ t. rw t)

-- the tests mean what they say
pub same_equal : (a b : List ℕ) → same a b ≡ true → a ≡ b
unfolding same
same_equal [] [] e = refl
same_equal [] (y ∷ ys) e = clash e refl
same_equal (x ∷ xs) [] e = clash e refl
same_equal (x ∷ xs) (y ∷ ys) e =
    both
    (eqb x y)
    (λ t. let h : x ≡ y = eqb-true x y t in let k : xs ≡ ys = same_equal xs ys (rw t at e) in cc)
    (λ t. clash (rw t at e) refl)

pub same_self : (a : List ℕ) → same a a ≡ true
unfolding same
same_self [] = refl
same_self (x ∷ xs) = rw (eq-eqb x x refl) (same_self xs)

pub all_zero_zeros : (s : List ℕ) → all_zero s ≡ true → s ≡ replicate (length s) 0
unfolding all_zero
all_zero_zeros [] e = refl
all_zero_zeros (x ∷ xs) e =
    both
    (eqb x 0)
    (λ t. let h : x ≡ 0 = eqb-true x 0 t in let k : xs ≡ replicate (length xs) 0 = all_zero_zeros xs (rw t at e) in cc)
    (λ t. clash (rw t at e) refl)

pub zeros_all_zero : (n : ℕ) → all_zero (replicate n 0) ≡ true
unfolding all_zero
zeros_all_zero zero = refl
zeros_all_zero (suc n) = zeros_all_zero n
