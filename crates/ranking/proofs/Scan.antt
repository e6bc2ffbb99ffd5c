-- A loop that keeps the best server so far ends with the choice over all it met.
use Prim.Native.Nat.{ℕ}
use mathlib.Core.Bool.{Bool, false}
use mathlib.Core.List.{List, [], ◌∷◌}
use mathlib.Core.Path.{◌≡◌, refl, ap}
use Rattle.std.proofs.Common.{Option, None, Some}
use Rattle.sets.proofs.Cases.{both}
use Rattle.ranking.specs.declared.Best.{Best}
use Rattle.ranking.specs.Best.{best_is, kept, best_of, beaten}
use Rattle.ranking.specs.Ranking.{Ranking, highest, choice, outranked, pick_of, picked}

-- a ranking that goes by what is measured of each server
module _ (outranks : ℕ → ℕ → ℕ → ℕ → Bool) (measure : ℕ → ℕ) where
  abbrev pub by_measure : Ranking
  by_measure a b = outranks (measure a) a (measure b) b

  -- the best so far, and the servers still to come
  unfoldable pub kept_all : Option Best → List ℕ → Option Best
  kept_all b [] = b
  kept_all b (s ∷ l) = kept_all (Some (kept outranks b (best_is s (measure s)))) l

  keeps : (c : ℕ) (l : List ℕ) → kept_all (Some (best_is c (measure c))) l ≡ Some (best_is (highest by_measure c l) (measure (highest by_measure c l)))
  unfolding kept_all kept
  keeps c [] = refl
  keeps c (s ∷ l) = both (by_measure s c) (λ t. rw t (keeps s l)) (λ t. rw t (keeps c l))

  pub kept_all_best : (l : List ℕ) → kept_all None l ≡ best_of by_measure measure l
  unfolding kept_all kept best_of
  kept_all_best [] = refl
  kept_all_best (s ∷ l) = keeps s l

  -- the best of a set is beaten exactly where the choice is outranked
  pub beaten-outranked : (c : ℕ) (l : List ℕ) → beaten outranks measure (best_is c (measure c)) l ≡ outranked by_measure c l
  unfolding beaten
  beaten-outranked c [] = refl
  beaten-outranked c (h ∷ l) = rw (beaten-outranked c l)

  -- so the best of the working servers, and a search of the horizon for one that beats it, give what a packet is given
  module _ (horizon : List ℕ) where
    pub pick_none : (working : List ℕ) → None ≡ best_of by_measure measure working → pick_of 0 false ≡ picked by_measure working horizon
    unfolding best_of
    pick_none [] e = refl
    pick_none (s ∷ w) e = cc

    pub pick_some : (working : List ℕ) (b : Best) (v : Bool) → Some b ≡ best_of by_measure measure working → v ≡ beaten outranks measure b horizon
        → pick_of b.server v ≡ picked by_measure working horizon
    unfolding best_of
    pick_some [] b v e q = cc
    pick_some (s ∷ w) b v e q =
        let c = choice by_measure (s ∷ w) in
        let f : b ≡ best_is c (measure c) = cc in
        rw (q, f) (ap (pick_of c) (beaten-outranked c horizon))
