-- The servers' keys, sorted, are the keys of the servers in the ring's order: two lists that don't fall, with each number as often in the
-- one as in the other, are the same.
use Prim.Native.Nat.{ℕ, suc, ◌+◌, ◌^◌, ◌<◌, ◌≤◌}
use mathlib.Core.Bool.{true, false, cond}
use mathlib.Core.List.{List, [], ◌∷◌, map}
use mathlib.Core.Path.{◌≡◌, refl, sym, ap, ◌∙◌}
use native.Mathlib.Omega.{arith}
use lib.Dec.{eqb, ltb}
use lib.ListN.{length, get_or}
use borrow.Author.Tests.{eqb-true, eqb-false, eq-eqb, ne_eqb, ltb-true, ltb-false}
use Rattle.std.proofs.Common.{suc-le-suc}
use Rattle.std.specs.List.{sum_by}
use Rattle.std.specs.List.Sorted.{IsPermutation, IsNonDecreasing}
use Rattle.std.proofs.lemmas.List.Sums.{sum_by-cons}
use Rattle.std.proofs.lemmas.List.Sorted.{sum_by-IsPermutation}
use Rattle.sets.specs.Sets.{member}
use Rattle.sets.proofs.Cases.{both, clash}
use Rattle.sets.proofs.Members.{member_head, member-cases}
use Rattle.ringplan.specs.Plan.{stands_before, placed, arranged}
use Rattle.ringplan.specs.Keys.{Fit, Rising, key_of}
use Rattle.ringplan.proofs.Order.{Ordered, ordered}
use Rattle.ringplan.proofs.Keys.{key_before, fit_arranged}

-- how often a number stands in a list
abbrev times : ℕ → List ℕ → ℕ
times k [] = 0
times k (x ∷ l) = cond (eqb x k) 1 0 + times k l

times_sum : (k : ℕ) (l : List ℕ) → sum_by (λ (x : ℕ). cond (eqb x k) 1 0) l ≡ times k l
times_sum k [] = refl
times_sum k (x ∷ l) = sum_by-cons (λ (y : ℕ). cond (eqb y k) 1 0) x l ∙ ap (λ (n : ℕ). cond (eqb x k) 1 0 + n) (times_sum k l)

times_permuted : (k : ℕ) (xs ys : List ℕ) → IsPermutation xs ys → times k ys ≡ times k xs
times_permuted k xs ys p = sym (times_sum k ys) ∙ sum_by-IsPermutation (λ (x : ℕ). cond (eqb x k) 1 0) xs ys p ∙ times_sum k xs

below : (k b : ℕ) (l : List ℕ) → k < b → Rising b l → times k l ≡ 0
below k b [] h r = refl
below k b (x ∷ l) h r =
    let n : eqb x k ≡ false = ne_eqb x k (λ e. omega (arith, r.0)) in
    let m : k < x = omega (arith, r.0) in
    rw n (omega (arith, below k x l m r.1))

head_once : (x : ℕ) (l : List ℕ) → 0 < times x (x ∷ l)
head_once x l = rw (eq-eqb x x refl) (omega arith)

same_rising : (b c : ℕ) (xs ys : List ℕ) → Rising b xs → Rising c ys → ((k : ℕ) → times k xs ≡ times k ys) → xs ≡ ys
same_rising b c [] [] p q e = refl
same_rising b c [] (y ∷ ys) p q e = absurd (omega (arith, e y, head_once y ys))
same_rising b c (x ∷ xs) [] p q e = absurd (omega (arith, e x, head_once x xs))
same_rising b c (x ∷ xs) (y ∷ ys) p q e =
    both
    (eqb x y)
    (λ t.
    let z : x ≡ y = eqb-true x y t in
    let rest : (k : ℕ) → times k xs ≡ times k ys = λ k. omega (arith, e k, ap {B = ℕ} (λ (n : ℕ). cond (eqb n k) 1 0) z) in
    ap (λ (n : ℕ). n ∷ xs) z ∙ ap (λ (l : List ℕ). y ∷ l) (same_rising x y xs ys p.1 q.1 rest))
    (λ t.
    let n : x ≡ y → ⊥ = eqb-false x y t in
    both
    (ltb x y)
    (λ u. absurd (omega (arith, e x, head_once x xs, below x y (y ∷ ys) (ltb-true x y u) (omega arith, q.1))))
    (λ u.
    let h : y < x = omega (arith, ltb-false x y u) in
    absurd (omega (arith, e y, head_once y ys, below y x (x ∷ xs) h (omega arith, p.1)))))

-- the servers in the ring's order have the same keys, as often each, and these don't fall
module _ (k : ℕ) where
  times_placed : (s : ℕ) (l : List ℕ) → times k (map key_of (placed s l)) ≡ times k (map key_of (s ∷ l))
  unfolding placed
  times_placed s [] = refl
  times_placed s (x ∷ l) =
      both
      (stands_before x s)
      (λ t. rw t (omega (arith, times_placed s l)))
      (λ t. rw t (omega (arith, times_placed x l)))

  times_arranged : (l : List ℕ) → times k (map key_of (arranged l)) ≡ times k (map key_of l)
  unfolding arranged
  times_arranged [] = refl
  times_arranged (s ∷ l) = times_placed s (arranged l) ∙ omega (arith, times_arranged l)

fit_member : (x : ℕ) (l : List ℕ) → member x l ≡ true → Fit l → x < 2 ^ 32
fit_member x [] m f = clash m refl
fit_member x (s ∷ l) m f = member-cases x s l m (λ q. rw q f.0) (λ q. fit_member x l q f.1)

rising_keys : (b : ℕ) (l : List ℕ) → ((x : ℕ) → member x l ≡ true → b ≤ key_of x) → Ordered l → Fit l → Rising b (map key_of l)
rising_keys b [] h o f = tt
rising_keys b (s ∷ l) h o f =
    let behind : (x : ℕ) → member x l ≡ true → key_of s ≤ key_of x =
    λ x m. ltb-false (key_of x) (key_of s) (sym (key_before x s (fit_member x l m f.1) f.0) ∙ o.0 x m) in
    (h s (member_head s l), rising_keys (key_of s) l behind o.1 f.1)

-- what a sort ensures of numbers
rising_from : (b : ℕ) (l : List ℕ) → (0 < length l → b ≤ get_or l 0 0) → IsNonDecreasing l → Rising b l
rising_from b [] h n = tt
rising_from b (x ∷ l) h n =
    (h (omega arith), rising_from x l (λ q. n 0 1 0 (omega arith) (omega arith)) (λ i j d p q. n (suc i) (suc j) d (suc-le-suc p) (suc-le-suc q)))

pub sorted_keys : (ss order : List ℕ) → Fit ss → IsPermutation (map key_of ss) order → IsNonDecreasing order → order ≡ map key_of (arranged ss)
sorted_keys ss order f p n =
    same_rising 0 0 order (map key_of (arranged ss)) (rising_from 0 order (λ q. omega arith) n)
    (rising_keys 0 (arranged ss) (λ x m. omega arith) (ordered ss) (fit_arranged ss f))
    (λ k. times_permuted k (map key_of ss) order p ∙ sym (times_arranged k ss))
