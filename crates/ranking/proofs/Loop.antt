-- A loop over servers and their states, side by side, that goes by those in one state: what one call of the iterator takes of those that
-- are left, and a search of them.
use Prim.Native.Nat.{ℕ}
use mathlib.Core.Bool.{Bool, true, false, ◌&&◌}
use mathlib.Core.List.{List, [], ◌∷◌}
use mathlib.Core.Logic.{◌⊎◌, inl, inr}
use mathlib.Core.Path.{◌≡◌, refl}
use lib.Dec.{eqb}
use denote.Ref.{Bor}
use borrow.Author.Tests.{eq-eqb, ne_eqb}
use Rattle.std.proofs.Common.{Option, None, Some}
use Rattle.std.proofs.iter.Yields.{fronts}
use Rattle.std.proofs.lemmas.Iterator.{zips}
use Rattle.std.proofs.lemmas.Slice.Zip.{Zip-more, either_empty_from_Zip}
use Rattle.std.specs.Iterator.Adapters.{zip_first, zip_second}
use Rattle.std.specs.List.{zip, list_any}
use Rattle.std.specs.Slice.Iter.{iter_rest}
use Rattle.std.specs.declared.iter.Zip.{Zip}
use Rattle.std.specs.declared.slice.Iter.{Iter}
use Rattle.sets.specs.Sets.{in_state}
use Rattle.sets.proofs.Cases.{both}
use Rattle.sets.proofs.States.{in_state-none}
use Rattle.ranking.specs.declared.Best.{Best}
use Rattle.ranking.specs.Best.{beaten}

-- the servers in state k of those that an iterator has left
abbrev pub left : ℕ → Zip (Iter ℕ) (Iter ℕ) → List ℕ
left k s = in_state k (iter_rest (zip_first s)) (iter_rest (zip_second s))

module _ (k : ℕ) (s t : Zip (Iter ℕ) (Iter ℕ)) (r : Option (Bor ℕ × Bor ℕ)) (step : zips fronts fronts s r t) where
  pub left_here : (p : Bor ℕ × Bor ℕ) → r ≡ Some p → p.1.now ≡ k → left k s ≡ p.0.now ∷ left k t
  unfolding in_state
  left_here p e q = let (a, b) = Zip-more s t r p e step in rw (a, b, eq-eqb p.1.now k q)

  pub left_other : (p : Bor ℕ × Bor ℕ) → r ≡ Some p → (p.1.now ≡ k → ⊥) → left k s ≡ left k t
  unfolding in_state
  left_other p e n = let (a, b) = Zip-more s t r p e step in rw (a, b, ne_eqb p.1.now k n)

  pub left_end : r ≡ None → left k s ≡ []
  unfolding in_state
  left_end e = ended (either_empty_from_Zip s t r e step)
    where
      ended : (iter_rest (zip_first s) ≡ []) ⊎ (iter_rest (zip_second s) ≡ []) → left k s ≡ []
      ended (inl a) = rw a
      ended (inr b) = rw b (in_state-none k (iter_rest (zip_first s)))

-- a search of the two lists for a server in the state that outranks the best
pub beaten_any : (outranks : ℕ → ℕ → ℕ → ℕ → Bool) (measure : ℕ → ℕ) (b : Best) (k : ℕ) (ss xs : List ℕ)
    → list_any (λ (p : ℕ × ℕ). eqb p.1 k && outranks (measure p.0) p.0 b.measure b.server) (zip ss xs) ≡ beaten outranks measure b (in_state k ss xs)
unfolding in_state beaten
beaten_any outranks measure b k [] xs = refl
beaten_any outranks measure b k (s ∷ ss) [] = refl
beaten_any outranks measure b k (s ∷ ss) (x ∷ xs) =
    let rest = beaten_any outranks measure b k ss xs in
    both (eqb x k) (λ t. rw (t, rest)) (λ t. rw (t, rest))

-- a search for one that beats the best, turn by turn: at a server in the state it ends, or goes on; others are passed
module _ (outranks : ℕ → ℕ → ℕ → ℕ → Bool) (measure : ℕ → ℕ) (b : Best) (k : ℕ) (s t : Zip (Iter ℕ) (Iter ℕ)) (r : Option (Bor ℕ × Bor ℕ))
    (step : zips fronts fronts s r t) (W : Bool) (so : beaten outranks measure b (left k s) ≡ W) where
  module _ (p : Bor ℕ × Bor ℕ) (e : r ≡ Some p) where
    pub search_found : p.1.now ≡ k → outranks (measure p.0.now) p.0.now b.measure b.server ≡ true → true ≡ W
    unfolding beaten
    search_found q u = rw u at (rw (left_here k s t r step p e q) at so)

    pub search_missed : p.1.now ≡ k → outranks (measure p.0.now) p.0.now b.measure b.server ≡ false → beaten outranks measure b (left k t) ≡ W
    unfolding beaten
    search_missed q u = rw u at (rw (left_here k s t r step p e q) at so)

    pub search_other : (p.1.now ≡ k → ⊥) → beaten outranks measure b (left k t) ≡ W
    search_other n = rw (left_other k s t r step p e n) at so

  pub search_end : r ≡ None → false ≡ W
  unfolding beaten
  search_end e = rw (left_end k s t r step e) at so
