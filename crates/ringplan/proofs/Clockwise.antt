-- Distances clockwise from a point: reading the servers in order of position finds the choice at the point, and a server that nothing of a
-- set outranks there has, at its own position, the same choice over the set.
use Prim.Native.Nat.{ℕ, ◌+◌, ◌-◌, ◌^◌, ◌≤◌, ◌<◌}
use mathlib.Core.Bool.{Bool, true, false, cond, ◌||◌}
use mathlib.Core.List.{List, [], ◌∷◌}
use mathlib.Core.Path.{◌≡◌, refl, sym, subst}
use native.Mathlib.Omega.{arith}
use lib.Dec.{eqb, leb}
use borrow.Author.Tests.{leb-true, leb-false, eqb-true, eqb-false, ltb-false, le-ltb}
use Rattle.hash.specs.Hash.{position, distance}
use Rattle.hash.proofs.Bounds.{position_fits, distance-ahead, distance-behind}
use Rattle.sets.specs.Sets.{member}
use Rattle.sets.proofs.Cases.{both, clash}
use Rattle.sets.proofs.Members.{member_head, member_tail, member-cases}
use Rattle.ranking.specs.Ranking.{choice}
use Rattle.ranking.specs.Methods.{by_distance, ring}
use Rattle.ranking.proofs.Instances.{ring_strict}
use Rattle.ranking.proofs.Choice.{choice-member, choice_tops, choice_only}
use Rattle.ringplan.specs.Plan.{stands_before}
use Rattle.ringplan.proofs.Order.{Ordered}

module _ {ℓ} {C : Type ℓ} where
  -- a distance is one of two differences
  by_side : (q p : ℕ) → q < 2 ^ 32 → p < 2 ^ 32 → (p ≤ q → distance q p ≡ q - p → C) → (q < p → distance q p ≡ q + 2 ^ 32 - p → C) → C
  by_side q p hq hp f g =
      both
      (leb p q)
      (λ t. let h : p ≤ q = leb-true p q t in f h (distance-ahead q p hq hp h))
      (λ t. let h : q < p = leb-false p q t in g h (distance-behind q p hq hp h))

-- past a nearer place the distances shrink alike
shrinks : (p q r : ℕ) → p < 2 ^ 32 → q < 2 ^ 32 → r < 2 ^ 32 → distance q p ≤ distance r p → distance r q ≡ distance r p - distance q p
shrinks p q r hp hq hr h =
    by_side
    q
    p
    hq
    hp
    (
    λ a1 e1. by_side
    r
    p
    hr
    hp
    (λ a2 e2. by_side r q hr hq (λ a3 e3. omega arith) (λ a3 e3. omega arith))
    (λ a2 e2. by_side r q hr hq (λ a3 e3. omega arith) (λ a3 e3. omega arith)))
    (
    λ a1 e1. by_side
    r
    p
    hr
    hp
    (λ a2 e2. by_side r q hr hq (λ a3 e3. omega arith) (λ a3 e3. omega arith))
    (λ a2 e2. by_side r q hr hq (λ a3 e3. omega arith) (λ a3 e3. omega arith)))

-- what it says of two servers that one doesn't outrank the other by a distance, and back
module _ (d : ℕ → ℕ) (x y : ℕ) where
  pub under : by_distance d x y ≡ false → (d y ≤ d x) × (d x ≡ d y → x ≤ y)
  under e =
      both
      (eqb (d x) (d y))
      (λ t. let h : x ≤ y = ltb-false y x (rw t at e) in (omega (arith, eqb-true (d x) (d y) t), λ q. h))
      (λ t. let h : d y ≤ d x = ltb-false (d x) (d y) (rw t at e) in (h, λ q. absurd (eqb-false _ _ t q)))

  pub under_by : d y ≤ d x → (d x ≡ d y → x ≤ y) → by_distance d x y ≡ false
  under_by l f =
      both (eqb (d x) (d y)) (λ t. rw t (le-ltb y x (f (eqb-true _ _ t)))) (λ t. rw t (le-ltb (d x) (d y) l))

-- the distance of a server from a point
abbrev pub from : ℕ → ℕ → ℕ
from p s = distance (position s) p

-- the order of positions, seen from a point: it stays among those ahead of it and among those behind it
later : (p b a : ℕ) → p < 2 ^ 32 → stands_before b a ≡ false → (p ≤ position b → p ≤ position a) → ring p b a ≡ false
later p b a hp e f =
    let (u, v) = under position b a e in
    by_side
    (position a)
    p
    (position_fits a)
    hp
    (
    λ la ea. by_side
    (position b)
    p
    (position_fits b)
    hp
    (λ lb eb. under_by (from p) b a (omega arith) (λ q. v (omega arith)))
    (
    λ lb eb. under_by
    (from p)
    b
    a
    (omega (arith, position_fits a))
    (λ q. absurd (omega (arith, position_fits a)))))
    (
    λ la ea. by_side
    (position b)
    p
    (position_fits b)
    hp
    (λ lb eb. absurd (omega (arith, f lb)))
    (λ lb eb. under_by (from p) b a (omega arith) (λ q. v (omega arith))))

behind : (p s y : ℕ) → p < 2 ^ 32 → position s < p → p ≤ position y → ring p s y ≡ false
behind p s y hp a b =
    let u = distance-behind (position s) p (position_fits s) hp a in
    let v = distance-ahead (position y) p (position_fits y) hp b in
    under_by (from p) s y (omega (arith, position_fits y)) (λ q. absurd (omega (arith, position_fits y)))

-- the owner that a point reads: the first not below it, else d
unfoldable pub seek : ℕ → List ℕ → ℕ → ℕ
seek p [] d = d
seek p (s ∷ l) d = cond (leb p (position s)) s (seek p l d)

unfoldable pub front : List ℕ → ℕ
front [] = 0
front (s ∷ l) = s

-- some server of a list is not below the point
ahead : ℕ → List ℕ → Bool
ahead p [] = false
ahead p (s ∷ l) = leb p (position s) || ahead p l

-- what is found there
Nearest : ℕ → List ℕ → ℕ → Type 0
Nearest p l v = (member v l ≡ true) × (p ≤ position v) × ((x : ℕ) → member x l ≡ true → ring p x v ≡ false)

found : (p : ℕ) (l : List ℕ) (d : ℕ) → p < 2 ^ 32 → Ordered l → ahead p l ≡ true → Nearest p l (seek p l d)
unfolding ahead seek Nearest
found p [] d hp o e = clash e refl
found p (s ∷ l) d hp o e =
    both
    (leb p (position s))
    (
    λ t. let h : p ≤ position s = leb-true p (position s) t in
    subst
    (λ b. Nearest p (s ∷ l) (cond b s (seek p l d)))
    (sym t) (
      member_head s l,
      h,
      λ x m. member-cases
          x
          s
          l
          m
          (λ q. rw q ((ring_strict p).irreflexive s))
          (λ q. later p x s hp (o.0 x q) (λ z. h)),
    ))
    (
    λ t. let (a, b, c) = found p l d hp o.1 (rw t at e) in
    subst
    (λ b. Nearest p (s ∷ l) (cond b s (seek p l d)))
    (sym t) (
      member_tail _ s l a,
      b,
      λ x m. member-cases x s l m (λ q. rw q (behind p s _ hp (leb-false p (position s) t) b)) (c x),
    ))

absent : (p : ℕ) (l : List ℕ) (d : ℕ) → ahead p l ≡ false → (seek p l d ≡ d) × ((x : ℕ) → member x l ≡ true → position x < p)
unfolding ahead seek
absent p [] d e = (refl, λ x m. clash m refl)
absent p (s ∷ l) d e =
    both
    (leb p (position s))
    (λ t. clash (rw t) e)
    (
    λ t. let (a, b) = absent p l d (rw t at e) in
    rw t (a, λ x m. member-cases x s l m (λ q. rw q (leb-false p (position s) t)) (b x)))

-- reading the servers in order is choosing
pub seek-choice : (p s : ℕ) (l : List ℕ) → p < 2 ^ 32 → Ordered l → member s l ≡ true → choice (ring p) l ≡ seek p l (front l)
unfolding front Nearest
seek-choice p s [] hp o m = clash m refl
seek-choice p s (y ∷ l) hp o m =
    both
    (ahead p (y ∷ l))
    (λ t. let (a, b, c) = found p (y ∷ l) y hp o t in choice_only (ring p) (ring_strict p) _ (y ∷ l) a c)
    (
    λ t. let (a, b) = absent p (y ∷ l) y t in
    rw
    a
    (choice_only
    (ring p)
    (ring_strict p)
    y
    (y ∷ l)
    (member_head y l)
    (
    λ x q. member-cases
    x
    y
    l
    q
    (λ r. rw r ((ring_strict p).irreflexive y))
    (λ r. later p x y hp (o.0 x r) (λ z. absurd (omega (arith, b x q)))))))

-- the substitute in a horizon server's entry is the choice for the points that read the entry
pub substitute : (p y s : ℕ) (w : List ℕ) → p < 2 ^ 32 → member s w ≡ true → ((x : ℕ) → member x w ≡ true → ring p x y ≡ false)
    → choice (ring (position y)) w ≡ choice (ring p) w
substitute p y s w hp m top =
    let c = choice (ring p) w in
    let cm : member c w ≡ true = choice-member (ring p) (ring_strict p) s w m in
    let (u, _) = under (from p) c y (top c cm) in
    let fc = shrinks p (position y) (position c) hp (position_fits y) (position_fits c) u in
    choice_only
    (ring (position y))
    (ring_strict (position y))
    c
    w
    cm
    (
    λ x q. let (a, b) = under (from p) x c (choice_tops (ring p) (ring_strict p) x w q) in
    let (v, _) = under (from p) x y (top x q) in
    let fx = shrinks p (position y) (position x) hp (position_fits y) (position_fits x) v in
    under_by (from (position y)) x c (omega arith) (λ z. b (omega arith)))
