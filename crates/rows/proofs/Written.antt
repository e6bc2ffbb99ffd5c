-- The laws of a list whose first n elements are written anew: what it has at each index, its length, and that what they held before is gone.
use Prim.Native.Nat.{ℕ, zero, suc, ◌+◌, ◌-◌, ◌<◌, ◌≤◌}
use mathlib.Core.List.{List, [], ◌∷◌, ◌++◌}
use mathlib.Core.Path.{◌≡◌, refl, sym, ap, ◌∙◌}
use native.Mathlib.Omega.{arith}
use native.Mathlib.Numerals.{add-one}
use lib.Dec.{eqb}
use lib.ListN.{length, get_or, drop, set, replicate, length-append, length-drop, get_or-append, replicate-append-replicate}
use lib.Seq.{drop-cons, drop_at, set_at, append_snoc, get_or_at, get_or-drop}
use borrow.Author.Tests.{eqb-true, eqb-false}
use Rattle.sets.proofs.Cases.{both}
use Rattle.rows.specs.Rows.{up_to, written}

module _ (f : ℕ → ℕ) where
  up_to-length : (n : ℕ) → length (up_to f n) ≡ n
  unfolding up_to
  up_to-length zero = refl
  up_to-length (suc n) = length-append (up_to f n) (f n ∷ []) ∙ omega (arith, up_to-length n)

  up_to-at : (n i : ℕ) → i < n → get_or (up_to f n) i 0 ≡ f i
  unfolding up_to
  up_to-at zero i h = absurd (omega arith)
  up_to-at (suc n) i h =
      both
      (eqb i n)
      (λ t. rw (eqb-true i n t) (get_or_at (up_to f n) (f n) [] 0 n (up_to-length n)))
      (
      λ t. let g : i < n = omega (arith, eqb-false i n t) in
      get_or-append (up_to f n) (f n ∷ []) 0 i (omega (arith, up_to-length n)) ∙ up_to-at n i g)

  -- none written yet
  pub written_none : (l : List ℕ) → l ≡ written f 0 l
  unfolding written up_to
  written_none l = refl

  module _ (n : ℕ) (l : List ℕ) where
    -- one more written
    pub written_more : n < length l → set (written f n l) n (f n) ≡ written f (n + 1) l
    unfolding written up_to
    written_more h =
        rw
        (add-one, drop-cons l n 0 h)
        (set_at (up_to f n) (get_or l n 0) (drop (suc n) l) (f n) n (up_to-length n) ∙ sym (append_snoc (up_to f n) (f n) (drop (suc n) l)))

    pub written-length : n ≤ length l → length (written f n l) ≡ length l
    unfolding written
    written-length h = rw (length-append, up_to-length n, length-drop) (omega arith)

    pub written_at : (i : ℕ) → i < n → get_or (written f n l) i 0 ≡ f i
    unfolding written
    written_at i h = get_or-append (up_to f n) (drop n l) 0 i (omega (arith, up_to-length n)) ∙ up_to-at n i h

    -- past n the list is the old one
    pub written-rest : drop n (written f n l) ≡ drop n l
    unfolding written
    written-rest = drop_at (up_to f n) (drop n l) n (up_to-length n)

-- and only that counts for the next writing
pub written_over : (f : ℕ → ℕ) (m n : ℕ) (a b : List ℕ) → m ≡ n → drop n a ≡ drop n b → written f m a ≡ written f n b
unfolding written
written_over f m n a b e p = rw (e, p)

-- lists that are the same past n, element by element
pub past : (n i : ℕ) (a b : List ℕ) → n ≤ i → drop n a ≡ drop n b → get_or a i 0 ≡ get_or b i 0
past n i a b h e =
    let k : n + (i - n) ≡ i = omega arith in
    rw k at (sym (get_or-drop n a (i - n) 0) ∙ ap (λ (l : List ℕ). get_or l (i - n) 0) e ∙ get_or-drop n b (i - n) 0)

zeros : (n : ℕ) → up_to (λ r. 0) n ≡ replicate n 0
unfolding up_to
zeros zero = refl
zeros (suc n) = rw (zeros n) (replicate-append-replicate n 1 0 ∙ rw add-one)

pub written_zeros : (n : ℕ) (l : List ℕ) → written (λ r. 0) n l ≡ replicate n 0 ++ drop n l
unfolding written
written_zeros n l = rw (zeros n)
