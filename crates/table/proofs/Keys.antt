-- Keys compared by words: 13 bytes are the same as a key exactly where their first eight and their last eight spell the key's two numbers.
use Prim.Native.Nat.{ℕ, ◌+◌, ◌-◌, ◌<◌, ◌≤◌}
use mathlib.Core.Bool.{Bool, true, false, cond}
use mathlib.Core.List.{List}
use mathlib.Core.Path.{◌≡◌, refl, sym, ap, ◌∙◌}
use native.Mathlib.Omega.{arith}
use lib.Dec.{eqb, ltb}
use lib.ListN.{length, get_or, take, drop, length-take, length-drop}
use lib.Seq.{ext_get_or, get_or-take, get_or-drop}
use borrow.Author.Tests.{eq-eqb, eqb-true, ltb-true, ltb-false}
use Rattle.sets.proofs.Cases.{both, clash, not_so}
use Rattle.spans.specs.Spans.{same}
use Rattle.spans.proofs.Scans.{same_equal, same_self}
use Rattle.words.specs.Words.{word_at, BytesAt}
use Rattle.table.specs.Searching.{Spelt}
use Rattle.words.proofs.Digits.{word_bytes, bytes_word}

-- a place that is written in two ways
moved : (l : List ℕ) (i j : ℕ) → i ≡ j → get_or l i 0 ≡ get_or l j 0
moved l i j e = ap (λ (k : ℕ). get_or l k 0) e

module _ (t key : List ℕ) (at : ℕ) (whole : length key ≡ 13) (fits : at + 13 ≤ length t) where
  part_at : (m : ℕ) → m < 13 → get_or (take 13 (drop at t)) m 0 ≡ get_or t (at + m) 0
  part_at m h = get_or-take 13 (drop at t) m 0 h ∙ get_or-drop at t m 0

  part_length : length (take 13 (drop at t)) ≡ 13
  part_length = simp (length-take, length-drop) (omega arith)

  -- the same bytes, byte by byte
  byte_same : take 13 (drop at t) ≡ key → (m : ℕ) → m < 13 → get_or t (at + m) 0 ≡ get_or key m 0
  byte_same e m h = sym (part_at m h) ∙ ap (λ (l : List ℕ). get_or l m 0) e

  same_bytes : ((m : ℕ) → m < 13 → get_or t (at + m) 0 ≡ get_or key m 0) → take 13 (drop at t) ≡ key
  same_bytes h =
      ext_get_or 0 (take 13 (drop at t)) key (part_length ∙ sym whole)
      (λ m k. let b : m < 13 = omega (arith, part_length) in part_at m b ∙ h m b)

  -- the same bytes have the same words
  front_same : take 13 (drop at t) ≡ key → word_at t at ≡ word_at key 0
  front_same e = bytes_word t key at 0 (λ m h. byte_same e m (omega arith) ∙ moved key m (0 + m) (omega arith))

  back-same : take 13 (drop at t) ≡ key → word_at t (at + 5) ≡ word_at key 5
  back-same e =
      bytes_word t key (at + 5) 5
      (λ m h. moved t (at + 5 + m) (at + (5 + m)) (omega arith) ∙ byte_same e (5 + m) (omega arith))

  module _ (bt : BytesAt t at 8) (bt5 : BytesAt t (at + 5) 8) (bk : BytesAt key 0 8) (bk5 : BytesAt key 5 8) where
    -- the same words have the same bytes
    words-bytes : word_at t (at + 5) ≡ word_at key 5 → word_at t at ≡ word_at key 0 → (m : ℕ) → m < 13 → get_or t (at + m) 0 ≡ get_or key m 0
    words-bytes back front m h =
        both
        (ltb m 8)
        (λ e. word_bytes t key at 0 bt bk front m (ltb-true m 8 e) ∙ moved key (0 + m) m (omega arith))
        (λ e.
        let k : 8 ≤ m = ltb-false m 8 e in
        moved t (at + m) (at + 5 + (m - 5)) (omega arith) ∙ word_bytes t key (at + 5) 5 bt5 bk5 back (m - 5) (omega arith)
        ∙ moved key (5 + (m - 5)) m (omega arith))

    pub words_same : cond (eqb (word_at t (at + 5)) (word_at key 5)) (eqb (word_at t at) (word_at key 0)) false ≡ same (take 13 (drop at t)) key
    words_same =
        both
        (same (take 13 (drop at t)) key)
        (λ s.
        let e = same_equal (take 13 (drop at t)) key s in
        rw (eq-eqb (word_at t (at + 5)) (word_at key 5) (back-same e), eq-eqb (word_at t at) (word_at key 0) (front_same e)) (sym s))
        (λ s. not_so (λ b. clash (words-true b) s) ∙ sym s)
      where
        words-true : cond (eqb (word_at t (at + 5)) (word_at key 5)) (eqb (word_at t at) (word_at key 0)) false ≡ true → same (take 13 (drop at t)) key ≡ true
        words-true =
            both
            (eqb (word_at t (at + 5)) (word_at key 5))
            (λ b. rw b (λ f. rw (same_bytes (words-bytes (eqb-true _ _ b) (eqb-true _ _ f))) (same_self key)))
            (λ b. rw b (λ f. clash f refl))

-- the answer r of the test by words is that of the bytes' comparison
pub spelt_same : (t key : List ℕ) (at front back : ℕ) (r : Bool) → Spelt key front back → at + 13 ≤ length t → BytesAt t at 8 → BytesAt t (at + 5) 8
    → r ≡ cond (eqb (word_at t (at + 5)) back) (eqb (word_at t at) front) false → same (take 13 (drop at t)) key ≡ r
spelt_same t key at front back r k fits bt bt5 e =
    sym (words_same t key at k.whole fits bt bt5 k.front_bytes k.back_bytes) ∙ sym (rw (k.front_word, k.back_word) at e)
