-- The scans of the roster's lists: what a library's search or fold of a list finds is what the definitions give.
use Prim.Native.Nat.{ℕ, zero, suc, ◌<◌, ◌≤◌}
use mathlib.Core.Bool.{Bool, true, false, cond}
use mathlib.Core.List.{List, [], ◌∷◌, ◌++◌}
use mathlib.Core.Path.{◌≡◌, refl, sym}
use native.Mathlib.Numerals.{add-one}
use native.Mathlib.Omega.{arith}
use lib.Dec.{eqb, ltb}
use lib.ListN.{length}
use borrow.Author.Tests.{eq-eqb, ne_eqb, lt-ltb, le-ltb, ltb-true, ltb-false}
use Rattle.std.specs.Prelude.{Option, None, Some}
use Rattle.std.specs.Option.{MatchOption, unwrap_or}
use Rattle.std.specs.List.{AllWithin, HoldsAt, IsAllAdjacentAnswer, starts_with}
use Rattle.std.proofs.lemmas.Iterator.{index_from_first}
use Rattle.sets.proofs.Cases.{both, clash}
use Rattle.lists.specs.Lists.{rising, all_stated, place_in, found_in, before}

-- what a search for the first place where Yes holds finds
abbrev First : (Yes No : ℕ → Type 0) → List ℕ → Option ℕ → Type 0
First Yes No l r = MatchOption r (AllWithin No l 0 (length l)) (λ i. (i < length l) × HoldsAt Yes l i × AllWithin No l 0 i)

pub before-first : (x : ℕ) (l : List ℕ) (r : Option ℕ) → First (λ y. x ≤ y) (λ y. y < x) l r → before x l ≡ unwrap_or r (length l)
unfolding before
before-first x l r h =
    index_from_first (before x) (λ y. x ≤ y) (λ y. y < x) refl
    (λ y ys e. rw (le-ltb y x e)) (λ y ys e. rw (lt-ltb y x e, add-one)) l r h

place-first_lem : (x : ℕ) (l : List ℕ) (r : Option ℕ) → First (λ y. y ≡ x) (λ y. y ≡ x → ⊥) l r → place_in x l ≡ unwrap_or r (length l)
unfolding place_in
place-first_lem x l r h =
    index_from_first (place_in x) (λ y. y ≡ x) (λ y. y ≡ x → ⊥) refl
    (λ y ys e. rw (eq-eqb y x e)) (λ y ys n. rw (ne_eqb y x n, add-one)) l r h

pub place-first : (x : ℕ) (l : List ℕ) (r : Option ℕ) → First (λ y. y ≡ x) (λ y. y ≡ x → ⊥) l r → r ≡ found_in x l
place-first x l None h = let e : place_in x l ≡ length l = place-first_lem x l None h in rw (le-ltb (place_in x l) (length l) (omega arith))
place-first x l (Some i) h =
    let e : place_in x l ≡ i = place-first_lem x l (Some i) h in
    rw (lt-ltb (place_in x l) (length l) (omega (arith, h.0)), e)

-- what it means of a server's place
pub found_some : (x p : ℕ) (l : List ℕ) → Some p ≡ found_in x l → (place_in x l ≡ p) × (p < length l)
found_some x p l e =
    both (ltb (place_in x l) (length l))
    (λ t.
    let q : Some p ≡ Some (place_in x l) = rw t at e in
    let r : place_in x l ≡ p = cc in
    (r, omega (arith, r, ltb-true (place_in x l) (length l) t)))
    (λ t. let q : Some p ≡ None = rw t at e in cc)

pub found_none : (x : ℕ) (l : List ℕ) → None ≡ found_in x l → length l ≤ place_in x l
found_none x l e =
    both (ltb (place_in x l) (length l))
    (λ t. let q : None ≡ Some (place_in x l) = rw t at e in cc)
    (λ t. ltb-false (place_in x l) (length l) t)

-- what a library's test of each server and the next finds
climbs : (last x : ℕ) (l : List ℕ) (r : Bool) → last < x → IsAllAdjacentAnswer (λ x y b. b ≡ ltb x y) (x ∷ l) r → r ≡ rising last (x ∷ l)
unfolding rising
climbs last x [] true h a = rw (lt-ltb last x h)
climbs last x [] false h (k, q, e) = absurd (omega arith)
climbs last x (y ∷ l) true h a =
    let up : ltb x y ≡ true = sym (a 0 0 (omega arith)) in
    rw (lt-ltb last x h) (climbs x y l true (ltb-true x y up) (λ k d q. rw add-one (rw add-one at (a (suc k) d (omega arith)))))
climbs last x (y ∷ l) false h (zero, q, e) = let down : ltb x y ≡ false = sym (e 0) in rw (lt-ltb last x h, down)
climbs last x (y ∷ l) false h (suc k, q, e) =
    rw (lt-ltb last x h) (both (ltb x y) (λ t. climbs x y l false (ltb-true x y t) (k, omega arith, λ d. rw add-one (rw add-one at (e d)))) (λ f. rw f))

pub rises : (l : List ℕ) (r : Bool) → false ≡ starts_with eqb l (0 ∷ []) → IsAllAdjacentAnswer (λ x y b. b ≡ ltb x y) l r → r ≡ rising 0 l
unfolding rising
rises [] true z a = refl
rises [] false z (k, q, e) = absurd (omega arith)
rises (zero ∷ l) r z a = clash refl (sym z)
rises (suc x ∷ l) r z a = climbs 0 (suc x) l r (omega arith) a

pub rises_not : (l : List ℕ) → true ≡ starts_with eqb l (0 ∷ []) → rising 0 l ≡ false
unfolding rising
rises_not [] z = clash (sym z) refl
rises_not (zero ∷ l) z = refl
rises_not (suc x ∷ l) z = let n : eqb 0 (suc x) ≡ false = ne_eqb 0 (suc x) (λ q. absurd (omega arith)) in clash refl (rw n at z)

-- one state more
pub all_stated_more : (l : List ℕ) (x : ℕ) → all_stated (l ++ x ∷ []) ≡ cond (all_stated l) (all_stated (x ∷ [])) false
unfolding all_stated
all_stated_more [] x = refl
all_stated_more (y ∷ l) x = both (eqb y 1) (λ t. rw t (all_stated_more l x)) (λ t. both (eqb y 2) (λ u. rw (t, u) (all_stated_more l x)) (λ u. rw (t, u)))

-- no server's place is behind the list's end
pub before-le : (x : ℕ) (l : List ℕ) → before x l ≤ length l
unfolding before
before-le x [] = omega arith
before-le x (y ∷ ys) = both (ltb y x) (λ t. rw t (omega (arith, before-le x ys))) (λ t. rw t (omega arith))
