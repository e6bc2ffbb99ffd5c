-- The state of every server, over a list of servers and the list of their states, after each change of the two.
use Prim.Native.Nat.{ℕ, suc, ◌<◌}
use mathlib.Core.Bool.{Bool, true, false, cond}
use mathlib.Core.List.{List, [], ◌∷◌, ◌++◌}
use mathlib.Core.Path.{◌≡◌, refl, sym, ◌∙◌}
use native.Mathlib.Omega.{arith}
use lib.Dec.{eqb, ltb}
use lib.ListN.{length, take, drop}
use borrow.Author.Tests.{ltb-true, eq-eqb, ne_eqb, eqb-true, eqb-false}
use Rattle.sets.specs.Sets.{member}
use Rattle.sets.proofs.Cases.{both, clash}
use Rattle.lists.specs.Lists.{rising, all_stated, before, place_in}
use Rattle.lists.proofs.Order.{rise_tail, rise_none}
use Rattle.lists.proofs.OfStates.{stated_head, stated_tail}
use Rattle.roster.specs.Roster.{working, standby, state_in, restated}

-- two tests of the same numbers, the other way round
eqb_swap : (a b : ℕ) (t : Bool) → eqb a b ≡ t → eqb b a ≡ t
eqb_swap a b true e = eq-eqb b a (sym (eqb-true a b e))
eqb_swap a b false e = ne_eqb b a (λ q. eqb-false a b e (sym q))

-- a server y, compared with s and with x: how the three tests go together
compared : {C : Type 0} (x y s : ℕ)
    → (eqb y s ≡ true → eqb x s ≡ true → eqb y x ≡ true → C)
    → (eqb y s ≡ true → eqb x s ≡ false → eqb y x ≡ false → C)
    → (eqb y s ≡ false → eqb x s ≡ false → eqb y x ≡ true → C)
    → (eqb y s ≡ false → eqb y x ≡ false → C)
    → C
compared x y s all only-s only_x neither =
    both
    (eqb y s)
    (λ t.
    both
    (eqb x s)
    (λ u. all t u (eq-eqb y x (eqb-true y s t ∙ sym (eqb-true x s u))))
    (λ u. only-s t u (ne_eqb y x (λ q. eqb-false x s u (sym q ∙ eqb-true y s t)))))
    (λ t.
    both
    (eqb y x)
    (λ u. only_x t (ne_eqb x s (λ q. eqb-false y s t (eqb-true y x u ∙ q))) u)
    (λ u. neither t u))

pub state_absent : (x : ℕ) (ys xs : List ℕ) → member x ys ≡ false → state_in x ys xs ≡ 0
unfolding state_in
state_absent x [] xs m = refl
state_absent x (y ∷ ys) [] m = refl
state_absent x (y ∷ ys) (z ∷ xs) m =
    both
    (eqb x y)
    (λ t. clash (rw t) m)
    (λ t. rw (eqb_swap x y false t) (state_absent x ys xs (rw t at m)))

pub absent_state : (x : ℕ) (ys xs : List ℕ) → length ys ≡ length xs → all_stated xs ≡ true → state_in x ys xs ≡ 0 → member x ys ≡ false
unfolding state_in
absent_state x [] xs l a e = refl
absent_state x (y ∷ ys) [] l a e = absurd (omega arith)
absent_state x (y ∷ ys) (z ∷ xs) l a e =
    both
    (eqb x y)
    (λ t. absurd (stated_head z xs a (rw (eqb_swap x y true t) at e)))
    (λ t. rw t (absent_state x ys xs (omega arith) (stated_tail z xs a) (rw (eqb_swap x y false t) at e)))

-- a held server is working or in the horizon
pub state_held : {C : Type 0} (x : ℕ) (ys xs : List ℕ) → length ys ≡ length xs → all_stated xs ≡ true → member x ys ≡ true
    → (state_in x ys xs ≡ working → C) → (state_in x ys xs ≡ standby → C) → C
unfolding state_in all_stated
state_held x [] xs l a m f g = clash m refl
state_held x (y ∷ ys) [] l a m f g = absurd (omega arith)
state_held x (y ∷ ys) (z ∷ xs) l a m f g =
    both
    (eqb x y)
    (λ t.
    let h : eqb y x ≡ true = eqb_swap x y true t in
    both
    (eqb z 1)
    (λ u. f (rw h (eqb-true z 1 u)))
    (λ u. both (eqb z 2) (λ v. g (rw h (eqb-true z 2 v))) (λ v. clash (rw (u, v) at a) refl)))
    (λ t.
    let h : eqb y x ≡ false = eqb_swap x y false t in
    state_held x ys xs (omega arith) (stated_tail z xs a) (rw t at m) (λ q. f (rw h q)) (λ q. g (rw h q)))

-- a held server's state set to k
pub state_restated : (x s k : ℕ) (ys xs : List ℕ) → (state_in s ys xs ≡ 0 → ⊥)
    → state_in x ys (restated s k ys xs) ≡ cond (eqb x s) k (state_in x ys xs)
unfolding state_in restated
state_restated x s k [] xs n = absurd (n refl)
state_restated x s k (y ∷ ys) [] n = absurd (n refl)
state_restated x s k (y ∷ ys) (z ∷ xs) n =
    compared x y s
    (λ t u h. rw (t, u, h))
    (λ t u h. rw (t, u, h))
    (λ t u h. rw (t, u, h))
    (λ t h. rw (t, h) (state_restated x s k ys xs (rw t at n)))

-- a new server, put in at its place with state k
pub state_in_lem : (x s k : ℕ) (ys xs : List ℕ) → length ys ≡ length xs
    → state_in x (take (before s ys) ys ++ (s ∷ drop (before s ys) ys)) (take (before s ys) xs ++ (k ∷ drop (before s ys) xs))
    ≡ cond (eqb x s) k (state_in x ys xs)
unfolding state_in before
state_in_lem x s k [] [] l = both (eqb x s) (λ t. rw (t, eqb_swap x s true t)) (λ t. rw (t, eqb_swap x s false t))
state_in_lem x s k [] (z ∷ xs) l = absurd (omega arith)
state_in_lem x s k (y ∷ ys) [] l = absurd (omega arith)
state_in_lem x s k (y ∷ ys) (z ∷ xs) l =
    both
    (ltb y s)
    (λ t.
    let o : y < s = ltb-true y s t in
    both
    (eqb y x)
    (λ u.
    let h : eqb x s ≡ false = ne_eqb x s (λ q. omega (arith, o, q, eqb-true y x u)) in
    rw (t, u, h))
    (λ u. rw (t, u) (state_in_lem x s k ys xs (omega arith))))
    (λ t. both (eqb x s) (λ u. rw (t, u, eqb_swap x s true u)) (λ u. rw (t, u, eqb_swap x s false u)))

-- a server taken out at its place
pub state_out : (last x s : ℕ) (ys xs : List ℕ) → rising last ys ≡ true → length ys ≡ length xs
    → state_in x (take (place_in s ys) ys ++ drop (suc (place_in s ys)) ys) (take (place_in s ys) xs ++ drop (suc (place_in s ys)) xs)
    ≡ cond (eqb x s) 0 (state_in x ys xs)
unfolding state_in place_in
state_out last x s [] xs e l = both (eqb x s) (λ t. rw t) (λ t. rw t)
state_out last x s (y ∷ ys) [] e l = absurd (omega arith)
state_out last x s (y ∷ ys) (z ∷ xs) e l =
    compared x y s
    (λ t u h.
    let q : y ≡ x = eqb-true y x h in
    rw (t, u) (state_absent x ys xs (rise_none y x ys (rise_tail last y ys e) (omega arith))))
    (λ t u h. rw (t, u, h))
    (λ t u h. rw (t, u, h))
    (λ t h. rw (t, h) (state_out y x s ys xs (rise_tail last y ys e) (omega arith)))
