-- Rising lists of servers: each server stands once, above the last; one put in at its place or taken out leaves them rising.
use Prim.Native.Nat.{ℕ, zero, suc, ◌<◌, ◌≤◌}
use mathlib.Core.Bool.{true, false}
use mathlib.Core.List.{List, [], ◌∷◌, ◌++◌}
use mathlib.Core.Path.{◌≡◌, refl}
use native.Mathlib.Omega.{arith}
use lib.Dec.{eqb, ltb}
use lib.ListN.{take, drop}
use borrow.Author.Tests.{ltb-true, ltb-false, lt-ltb, eq-eqb}
use Rattle.sets.specs.Sets.{member, in_state}
use Rattle.sets.proofs.Cases.{both, clash, not_so}
use Rattle.sets.proofs.Members.{member-cases}
use Rattle.lists.specs.Lists.{rising, before}

module _ (last y : ℕ) (ys : List ℕ) (e : rising last (y ∷ ys) ≡ true) where
  pub rise_head : last < y
  unfolding rising
  rise_head = both (ltb last y) (λ t. ltb-true last y t) (λ t. clash (rw t at e) refl)

  pub rise_tail : rising y ys ≡ true
  unfolding rising
  rise_tail = both (ltb last y) (λ t. rw t at e) (λ t. clash (rw t at e) refl)

pub rise_cons : (last y : ℕ) (ys : List ℕ) → last < y → rising y ys ≡ true → rising last (y ∷ ys) ≡ true
unfolding rising
rise_cons last y ys h e = rw (lt-ltb last y h) e

pub rise_lower : (a b : ℕ) (ys : List ℕ) → a ≤ b → rising b ys ≡ true → rising a ys ≡ true
unfolding rising
rise_lower a b [] h e = refl
rise_lower a b (y ∷ ys) h e =
    let k : b < y = rise_head b y ys e in
    rise_cons a y ys (omega arith) (rise_tail b y ys e)

pub rise_above : (last x : ℕ) (ys : List ℕ) → rising last ys ≡ true → member x ys ≡ true → last < x
rise_above last x [] e m = clash m refl
rise_above last x (y ∷ ys) e m =
    let k : last < y = rise_head last y ys e in
    member-cases x y ys m (λ q. rw q k) (λ q. omega (arith, k, rise_above y x ys (rise_tail last y ys e) q))

-- none at or below the last
pub rise_none : (last x : ℕ) (ys : List ℕ) → rising last ys ≡ true → x ≤ last → member x ys ≡ false
rise_none last x ys e h = not_so (λ m. let k : last < x = rise_above last x ys e m in absurd (omega arith))

pub rise_in : (last s : ℕ) (ys : List ℕ) → rising last ys ≡ true → last < s → member s ys ≡ false
    → rising last (take (before s ys) ys ++ (s ∷ drop (before s ys) ys)) ≡ true
unfolding rising before
rise_in last s [] e h m = rise_cons last s [] h refl
rise_in last s (y ∷ ys) e h m =
    both
    (ltb y s)
    (λ t.
    rw t
    (rise_cons last y (take (before s ys) ys ++ (s ∷ drop (before s ys) ys)) (rise_head last y ys e)
    (rise_in y s ys (rise_tail last y ys e) (ltb-true y s t) (both (eqb s y) (λ u. clash (rw u) m) (λ u. rw u at m)))))
    (λ t.
    let k : s ≤ y = ltb-false y s t in
    let n : s ≡ y → ⊥ = λ q. clash (rw (eq-eqb s y q)) m in
    let g : s < y = omega (arith, n) in
    rw t (rise_cons last s (y ∷ ys) h (rise_cons s y ys g (rise_tail last y ys e))))

pub rise_out : (last p : ℕ) (ys : List ℕ) → rising last ys ≡ true → rising last (take p ys ++ drop (suc p) ys) ≡ true
rise_out last zero [] e = e
rise_out last (suc p) [] e = e
rise_out last zero (y ∷ ys) e =
    let k : last < y = rise_head last y ys e in
    rise_lower last y ys (omega arith) (rise_tail last y ys e)
rise_out last (suc p) (y ∷ ys) e =
    rise_cons last y (take p ys ++ drop (suc p) ys) (rise_head last y ys e) (rise_out y p ys (rise_tail last y ys e))

-- the servers of a state rise too
pub rise_in_state : (last k : ℕ) (ys xs : List ℕ) → rising last ys ≡ true → rising last (in_state k ys xs) ≡ true
unfolding in_state rising
rise_in_state last k [] xs e = refl
rise_in_state last k (y ∷ ys) [] e = refl
rise_in_state last k (y ∷ ys) (x ∷ xs) e =
    let h : last < y = rise_head last y ys e in
    let t : rising y (in_state k ys xs) ≡ true = rise_in_state y k ys xs (rise_tail last y ys e) in
    both (eqb x k) (λ u. rw u (rise_cons last y (in_state k ys xs) h t)) (λ u. rw u (rise_lower last y (in_state k ys xs) (omega arith) t))
