-- The servers in a state, at an index: what a loop over the two lists meets there.
use Prim.Native.Nat.{ℕ, ◌+◌, ◌<◌, ◌≤◌}
use mathlib.Core.List.{List, [], ◌∷◌}
use mathlib.Core.Path.{◌≡◌, refl}
use native.Mathlib.Numerals.{add-one}
use lib.ListN.{length, get_or, drop, drop_of_length-le}
use lib.Seq.{drop-cons}
use borrow.Author.Tests.{eq-eqb, ne_eqb}
use Rattle.sets.specs.Sets.{in_state}

module _ (k : ℕ) (ss xs : List ℕ) (i : ℕ) where
  pub in_state_here : i < length ss → i < length xs → get_or xs i 0 ≡ k
      → in_state k (drop i ss) (drop i xs) ≡ get_or ss i 0 ∷ in_state k (drop (i + 1) ss) (drop (i + 1) xs)
  unfolding in_state
  in_state_here h g e = rw (add-one, drop-cons ss i 0 h, drop-cons xs i 0 g, eq-eqb (get_or xs i 0) k e)

  pub in_state_other_lem : i < length ss → i < length xs → (get_or xs i 0 ≡ k → ⊥)
      → in_state k (drop i ss) (drop i xs) ≡ in_state k (drop (i + 1) ss) (drop (i + 1) xs)
  unfolding in_state
  in_state_other_lem h g n = rw (add-one, drop-cons ss i 0 h, drop-cons xs i 0 g, ne_eqb (get_or xs i 0) k n)

  pub in_state-end_lem : length ss ≤ i → in_state k (drop i ss) (drop i xs) ≡ []
  unfolding in_state
  in_state-end_lem h = rw (drop_of_length-le ss {i = i} h)

pub in_state-none : (k : ℕ) (ss : List ℕ) → in_state k ss [] ≡ []
unfolding in_state
in_state-none k [] = refl
in_state-none k (s ∷ ss) = refl

-- where the second list ends first
pub in_state_short_lem : (k : ℕ) (ss xs : List ℕ) (i : ℕ) → length xs ≤ i → in_state k (drop i ss) (drop i xs) ≡ []
in_state_short_lem k ss xs i h = rw (drop_of_length-le xs {i = i} h) (in_state-none k (drop i ss))
