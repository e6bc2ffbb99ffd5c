-- Servers put in order of the ring: the same servers, as many, and none stands before an earlier one.
use Prim.Native.Nat.{ℕ, suc}
use mathlib.Core.Bool.{true, false}
use mathlib.Core.List.{List, [], ◌∷◌}
use mathlib.Core.Path.{◌≡◌, refl, ap, ◌∙◌}
use lib.Dec.{eqb}
use lib.ListN.{length}
use Rattle.sets.specs.Sets.{member}
use Rattle.sets.proofs.Cases.{both, clash, not_so, or_swap}
use Rattle.sets.proofs.Members.{member-cases}
use Rattle.hash.specs.Hash.{position}
use Rattle.ranking.specs.Ranking.{Ranking, Strict}
use Rattle.ranking.proofs.Instances.{by_distance_strict}
use Rattle.ringplan.specs.Plan.{stands_before, placed, arranged}

strict : Strict stands_before
strict = by_distance_strict position

-- no later one stands before an earlier one
abbrev pub Ordered : List ℕ → Type 0
Ordered [] = Unit {0}
Ordered (s ∷ l) = ((x : ℕ) → member x l ≡ true → stands_before x s ≡ false) × Ordered l

-- two facts of any strict ranking
module _ (R : Ranking) (S : Strict R) where
  pub over_under : (a b : ℕ) → R a b ≡ true → R b a ≡ false
  over_under a b e = not_so (λ t. clash (S.transitive a b a e t) (S.irreflexive a))

  pub under_under : (a b c : ℕ) → R a b ≡ false → R b c ≡ false → R a c ≡ false
  under_under a b c p q =
      not_so (λ t. both (R b a) (λ u. clash (S.transitive b a c u t) q) (λ u. clash (rw (S.total a b p u) at t) q))

pub member-placed : (x s : ℕ) (l : List ℕ) → member x (placed s l) ≡ member x (s ∷ l)
unfolding placed
member-placed x s [] = refl
member-placed x s (y ∷ l) =
    both
    (stands_before y s)
    (λ t. rw (t, member-placed x s l) (or_swap (eqb x y) (eqb x s) (member x l)))
    (λ t. rw (t, member-placed x y l))

pub member-arranged : (x : ℕ) (l : List ℕ) → member x (arranged l) ≡ member x l
unfolding arranged
member-arranged x [] = refl
member-arranged x (s ∷ l) = member-placed x s (arranged l) ∙ rw (member-arranged x l)

pub length-placed : (s : ℕ) (l : List ℕ) → length (placed s l) ≡ suc (length l)
unfolding placed
length-placed s [] = refl
length-placed s (x ∷ l) =
    both (stands_before x s) (λ t. rw t (ap suc (length-placed s l))) (λ t. rw t (ap suc (length-placed x l)))

pub length-arranged : (l : List ℕ) → length (arranged l) ≡ length l
unfolding arranged
length-arranged [] = refl
length-arranged (s ∷ l) = length-placed s (arranged l) ∙ ap suc (length-arranged l)

ordered_placed : (s : ℕ) (l : List ℕ) → Ordered l → Ordered (placed s l)
unfolding placed
ordered_placed s [] o = (λ x m. clash m refl, tt)
ordered_placed s (y ∷ l) o =
    both
    (stands_before y s)
    (
    λ t. rw
    t (
      λ x m. member-cases x s l (rw (member-placed x s l) at m) (λ q. rw q (over_under stands_before strict y s t)) (o.0 x),
      ordered_placed s l o.1,
    ))
    (
    λ t. rw
    t (
      λ x m. member-cases
          x
          y
          l
          (rw (member-placed x y l) at m)
          (λ q. rw q t)
          (λ q. under_under stands_before strict x y s (o.0 x q) t),
      ordered_placed y l o.1,
    ))

pub ordered : (l : List ℕ) → Ordered (arranged l)
unfolding arranged
ordered [] = tt
ordered (s ∷ l) = ordered_placed s (arranged l) (ordered l)
