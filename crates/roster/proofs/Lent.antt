-- A server's state among lent servers and states, whatever their lengths.
use Prim.Native.Nat.{ℕ, ◌<◌, ◌≤◌}
use mathlib.Core.List.{List, [], ◌∷◌}
use mathlib.Core.Path.{◌≡◌, refl}
use native.Mathlib.Nat.{not-suc-le-zero, le_of_suc-le-suc}
use lib.Dec.{eqb}
use lib.ListN.{length, get_or}
use Rattle.sets.proofs.Cases.{both}
use Rattle.lists.specs.Lists.{place_in}
use Rattle.roster.specs.Roster.{state_in}

module _ (s : ℕ) where
  -- it stands at the server's place
  pub state_here : (ys xs : List ℕ) → place_in s ys < length ys → place_in s ys < length xs → state_in s ys xs ≡ get_or xs (place_in s ys) 0
  unfolding state_in place_in
  state_here [] xs h k = absurd (not-suc-le-zero h)
  state_here (y ∷ ys) [] h k = absurd (not-suc-le-zero k)
  state_here (y ∷ ys) (x ∷ xs) h k =
      both (eqb y s) (λ t. rw t) (λ t. rw t (state_here ys xs (le_of_suc-le-suc (rw t at h)) (le_of_suc-le-suc (rw t at k))))

  -- a place behind the states has none
  pub state_short : (ys xs : List ℕ) → length xs ≤ place_in s ys → state_in s ys xs ≡ 0
  unfolding state_in place_in
  state_short [] xs h = refl
  state_short (y ∷ ys) [] h = refl
  state_short (y ∷ ys) (x ∷ xs) h =
      both (eqb y s) (λ t. absurd (not-suc-le-zero (rw t at h))) (λ t. rw t (state_short ys xs (le_of_suc-le-suc (rw t at h))))
