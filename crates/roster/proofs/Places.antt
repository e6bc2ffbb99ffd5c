-- A server's state read and set at its place, and a roster that claims more than 64: all its 64 places are in use.
use Prim.Native.Nat.{ℕ, ◌-◌, ◌<◌, ◌≤◌, min}
use mathlib.Core.Bool.{true, false}
use mathlib.Core.List.{List, [], ◌∷◌, ◌++◌}
use mathlib.Core.Path.{◌≡◌, refl, sym, ap, ◌∙◌}
use native.Mathlib.Nat.{not-suc-le-zero, le_of_suc-le-suc}
use native.Mathlib.Omega.{arith}
use lib.Dec.{eqb, ltb, leb}
use lib.ListN.{length, take, drop, set, drop_of_length-le}
use lib.Seq.{take_all, length-take-le}
use borrow.Author.Tests.{lt-ltb, le-ltb, leb-true, leb-false}
use borrow.Rule.Slice.PartMut.{post_of}
use Rattle.sets.proofs.Cases.{both}
use Rattle.spans.specs.Spans.{closed}
use Rattle.std.specs.Prelude.{Some, None}
use Rattle.lists.specs.Lists.{place_in, found_in, taken_out}
use Rattle.lists.proofs.Scans.{found_some, found_none}
use Rattle.roster.specs.Roster.{state_in, restated}
use Rattle.lists.proofs.Moves.{take_out}

module _ (s : ℕ) where
  pub state_none : (ys xs : List ℕ) → length ys ≤ place_in s ys → state_in s ys xs ≡ 0
  unfolding state_in place_in
  state_none [] xs h = refl
  state_none (y ∷ ys) [] h = refl
  state_none (y ∷ ys) (x ∷ xs) h =
      both (eqb y s) (λ t. absurd (not-suc-le-zero (rw t at h))) (λ t. rw t (state_none ys xs (le_of_suc-le-suc (rw t at h))))

  pub restated-at : (k : ℕ) (ys xs : List ℕ) → place_in s ys < length ys → length ys ≤ length xs
      → restated s k ys xs ≡ set xs (place_in s ys) k
  unfolding restated place_in
  restated-at k [] xs h g = absurd (not-suc-le-zero h)
  restated-at k (y ∷ ys) [] h g = absurd (not-suc-le-zero g)
  restated-at k (y ∷ ys) (x ∷ xs) h g =
      both
      (eqb y s)
      (λ t. rw t)
      (λ t. rw t (ap (λ (l : List ℕ). x ∷ l) (restated-at k ys xs (le_of_suc-le-suc (rw t at h)) (le_of_suc-le-suc g))))

  pub restated-none : (k : ℕ) (ys xs : List ℕ) → length ys ≤ place_in s ys → restated s k ys xs ≡ xs
  unfolding restated place_in
  restated-none k [] xs h = refl
  restated-none k (y ∷ ys) [] h = refl
  restated-none k (y ∷ ys) (x ∷ xs) h =
      both
      (eqb y s)
      (λ t. absurd (not-suc-le-zero (rw t at h)))
      (λ t. rw t (ap (λ (l : List ℕ). x ∷ l) (restated-none k ys xs (le_of_suc-le-suc (rw t at h)))))

-- h held of 64 places, of which n are in use
module _ (h n : ℕ) (l : List ℕ) (w : length l ≡ 64) (e : n ≡ min h 64) where
  -- what is the same from 64 on is the same of both
  same-used : {A : Type 0} (f : ℕ → A) (end : A) → ((i : ℕ) → 64 ≤ i → f i ≡ end) → f n ≡ f h
  same-used f end past =
      both
      (leb h 64)
      (λ t. let k : h ≤ 64 = leb-true h 64 t in let q : n ≡ h = omega arith in rw q)
      (λ t. let k : 64 < h = leb-false h 64 t in past n (omega arith) ∙ sym (past h (omega arith)))

  pub take-used : take n l ≡ take h l
  take-used = same-used (λ (i : ℕ). take i l) l (λ i q. take_all i l (omega arith))

  pub drop-used : drop n l ≡ drop h l
  drop-used = same-used (λ (i : ℕ). drop i l) [] (λ i q. drop_of_length-le l {i = i} (omega arith))

  pub length-used : length (take n l) ≡ n
  length-used = length-take-le n l (omega arith)

-- a server among the servers ss, with their states xs
module _ (s h n : ℕ) (ss xs : List ℕ) (ws : length ss ≡ 64) (wx : length xs ≡ 64) (e : n ≡ min h 64) where
  -- with a place p
  module _ (p : ℕ) (at : Some p ≡ found_in s (take n ss)) where
    place_is : p ≡ place_in s (take h ss)
    place_is = sym (found_some s p (take n ss) at).0 ∙ ap (place_in s) (take-used h n ss ws e)

    place_below : p < n
    place_below = omega (arith, (found_some s p (take n ss) at).1, length-used h n ss ws e)

    pub write_state : (k : ℕ) → set xs p k ≡ restated s k (take h ss) xs
    write_state k =
        let f = found_some s p (take n ss) at in
        let ls : length (take n ss) ≡ n = length-used h n ss ws e in
        rw (← take-used h n ss ws e, ← f.0) (sym (restated-at s k (take n ss) xs (omega (arith, f.0, f.1)) (omega arith)))

    pub is_held : ltb (place_in s (take h ss)) (length (take h ss)) ≡ true
    is_held =
        rw (← place_is, ← take-used h n ss ws e) (lt-ltb p (length (take n ss)) (found_some s p (take n ss) at).1)

    -- its place taken out of a list of 64
    pub out_of : (l z : List ℕ) → length l ≡ 64 → z ≡ closed 1 (take (n - p) (drop p l))
        → take p l ++ (z ++ post_of p (n - p) l) ≡ taken_out (place_in s (take h ss)) h l
    unfolding taken_out
    out_of l z w c =
        take_out p n l z place_below (omega arith) c
        ∙ rw (take-used h n l w e, drop-used h n l w e) (ap (λ (i : ℕ). taken_out i h l) place_is)

  -- without a place
  module _ (at : None ≡ found_in s (take n ss)) where
    pub keep_states : (k : ℕ) → xs ≡ restated s k (take h ss) xs
    keep_states k = rw (← take-used h n ss ws e) (sym (restated-none s k (take n ss) xs (found_none s (take n ss) at)))

    pub not_held : ltb (place_in s (take h ss)) (length (take h ss)) ≡ false
    not_held = rw (← take-used h n ss ws e) (le-ltb (place_in s (take n ss)) (length (take n ss)) (found_none s (take n ss) at))
