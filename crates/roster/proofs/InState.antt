-- The servers of a state: which they are, how many, and what a change of another state leaves as it was.
use Prim.Native.Nat.{ℕ, zero, suc, ◌+◌}
use mathlib.Core.Bool.{true, false}
use mathlib.Core.List.{List, [], ◌∷◌, ◌++◌}
use mathlib.Core.Path.{◌≡◌, refl, sym, ◌∙◌}
use native.Mathlib.Omega.{arith}
use lib.Dec.{eqb}
use lib.ListN.{length, take, drop}
use borrow.Author.Tests.{eq-eqb, ne_eqb, eqb-true, eqb-false}
use Rattle.sets.specs.Sets.{member, Within, in_state}
use Rattle.sets.proofs.Cases.{both, clash}
use Rattle.sets.proofs.Members.{member-cases, member_tail}
use Rattle.lists.specs.Lists.{rising, all_stated, place_in}
use Rattle.roster.specs.Roster.{working, standby, state_in}
use Rattle.lists.proofs.Order.{rise_tail, rise_none}
use Rattle.lists.proofs.OfStates.{stated_tail}
use Rattle.roster.proofs.States.{state_absent}

-- they are among the servers
pub in_state_within : (k : ℕ) (ys xs : List ℕ) → Within (in_state k ys xs) ys
unfolding in_state
in_state_within k [] xs x m = m
in_state_within k (y ∷ ys) [] x m = clash m refl
in_state_within k (y ∷ ys) (z ∷ xs) x m =
    both
    (eqb z k)
    (λ t.
    member-cases x y (in_state k ys xs) (rw t at m)
    (λ q. rw (eq-eqb x y q))
    (λ q. member_tail x y ys (in_state_within k ys xs x q)))
    (λ t. member_tail x y ys (in_state_within k ys xs x (rw t at m)))

-- and those whose state is k
pub member-in_state : (last x k : ℕ) (ys xs : List ℕ) → eqb 0 k ≡ false → rising last ys ≡ true
    → member x (in_state k ys xs) ≡ eqb (state_in x ys xs) k
unfolding in_state state_in
member-in_state last x k [] xs z e = sym z
member-in_state last x k (y ∷ ys) [] z e = sym z
member-in_state last x k (y ∷ ys) (v ∷ xs) z e =
    let i : member x (in_state k ys xs) ≡ eqb (state_in x ys xs) k = member-in_state y x k ys xs z (rise_tail last y ys e) in
    both
    (eqb x y)
    (λ t.
    let q : x ≡ y = eqb-true x y t in
    let h : eqb y x ≡ true = eq-eqb y x (sym q) in
    let n : member x (in_state k ys xs) ≡ false =
    i ∙ rw (state_absent x ys xs (rise_none y x ys (rise_tail last y ys e) (omega arith))) z in
    both (eqb v k) (λ u. rw (u, h, t, u)) (λ u. rw (u, h, u) n))
    (λ t.
    let h : eqb y x ≡ false = ne_eqb y x (λ q. eqb-false x y t (sym q)) in
    both (eqb v k) (λ u. rw (u, h, t) i) (λ u. rw (u, h) i))

-- every server is of one of the two states
pub in_state-count : (ys xs : List ℕ) → length ys ≡ length xs → all_stated xs ≡ true
    → length (in_state working ys xs) + length (in_state standby ys xs) ≡ length ys
unfolding in_state all_stated
in_state-count [] xs l a = refl
in_state-count (y ∷ ys) [] l a = absurd (omega arith)
in_state-count (y ∷ ys) (z ∷ xs) l a =
    let i : length (in_state working ys xs) + length (in_state standby ys xs) ≡ length ys = in_state-count ys xs (omega arith) (stated_tail z xs a) in
    both
    (eqb z 1)
    (λ t. rw (eqb-true z 1 t) (omega arith))
    (λ t. both (eqb z 2) (λ u. rw (eqb-true z 2 u) (omega arith)) (λ u. clash (rw (t, u) at a) refl))

-- a server put in with another state
pub in_state_in : (k s m p : ℕ) (ys xs : List ℕ) → eqb m k ≡ false → length ys ≡ length xs
    → in_state k (take p ys ++ (s ∷ drop p ys)) (take p xs ++ (m ∷ drop p xs)) ≡ in_state k ys xs
unfolding in_state
in_state_in k s m zero ys xs e l = rw e
in_state_in k s m (suc p) [] [] e l = rw e
in_state_in k s m (suc p) [] (z ∷ xs) e l = absurd (omega arith)
in_state_in k s m (suc p) (y ∷ ys) [] e l = absurd (omega arith)
in_state_in k s m (suc p) (y ∷ ys) (z ∷ xs) e l = rw (in_state_in k s m p ys xs e (omega arith))

-- a server of another state taken out
pub in_state_out : (k s : ℕ) (ys xs : List ℕ) → eqb (state_in s ys xs) k ≡ false → length ys ≡ length xs
    → in_state k (take (place_in s ys) ys ++ drop (suc (place_in s ys)) ys) (take (place_in s ys) xs ++ drop (suc (place_in s ys)) xs)
    ≡ in_state k ys xs
unfolding in_state place_in state_in
in_state_out k s [] xs e l = refl
in_state_out k s (y ∷ ys) [] e l = absurd (omega arith)
in_state_out k s (y ∷ ys) (z ∷ xs) e l =
    both
    (eqb y s)
    (λ t. let h : eqb z k ≡ false = rw t at e in rw (t, h))
    (λ t. rw (t, in_state_out k s ys xs (rw t at e) (omega arith)))
