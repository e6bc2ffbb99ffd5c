-- Two words are equal exactly where their eight bytes are.
use Prim.Native.Nat.{ℕ, zero, suc, ◌+◌, ◌*◌, ◌<◌}
use mathlib.Core.List.{List}
use mathlib.Core.Path.{◌≡◌, sym, ◌∙◌}
use native.Mathlib.Nat.{not-suc-le-zero, le_of_suc-le-suc}
use native.Mathlib.Omega.{arith}
use lib.ListN.{get_or}
use Rattle.words.specs.Words.{word_at, BytesAt}

-- the number that n bytes spell, of which f m is the one with index m
number : (ℕ → ℕ) → ℕ → ℕ
number f zero = 0
number f (suc n) = f 0 + 256 * number (λ m. f (suc m)) n

-- the byte in front, and the number of those behind it
front : (a b x y : ℕ) → a < 256 → b < 256 → a + 256 * x ≡ b + 256 * y → a ≡ b
front a b x y ha hb e = omega arith

behind : (a b x y : ℕ) → a < 256 → b < 256 → a + 256 * x ≡ b + 256 * y → x ≡ y
behind a b x y ha hb e = omega arith

-- bytes that spell the same number are the same
digits : (f g : ℕ → ℕ) (n : ℕ) → ((m : ℕ) → m < n → f m < 256) → ((m : ℕ) → m < n → g m < 256)
    → number f n ≡ number g n → (m : ℕ) → m < n → f m ≡ g m
unfolding number
digits f g zero hf hg e m h = absurd (not-suc-le-zero h)
digits f g (suc n) hf hg e zero h = front (f 0) (g 0) _ _ (hf 0 h) (hg 0 h) e
digits f g (suc n) hf hg e (suc m) h =
    digits (λ k. f (suc k)) (λ k. g (suc k)) n (λ k q. hf (suc k) (omega arith)) (λ k q. hg (suc k) (omega arith))
    (behind (f 0) (g 0) _ _ (hf 0 (omega arith)) (hg 0 (omega arith)) e) m (le_of_suc-le-suc h)

word_number : (l : List ℕ) (i : ℕ) → word_at l i ≡ number (λ m. get_or l (i + m) 0) 8
unfolding word_at number
word_number l i = let z : i + 0 ≡ i = omega arith in rw z (omega arith)

-- equal words have equal bytes
pub word_bytes : (k l : List ℕ) (i j : ℕ) → BytesAt k i 8 → BytesAt l j 8 → word_at k i ≡ word_at l j
    → (m : ℕ) → m < 8 → get_or k (i + m) 0 ≡ get_or l (j + m) 0
word_bytes k l i j bk bl e =
    digits (λ m. get_or k (i + m) 0) (λ m. get_or l (j + m) 0) 8 bk bl (sym (word_number k i) ∙ e ∙ word_number l j)

-- equal bytes make equal words
pub bytes_word : (k l : List ℕ) (i j : ℕ) → ((m : ℕ) → m < 8 → get_or k (i + m) 0 ≡ get_or l (j + m) 0) → word_at k i ≡ word_at l j
unfolding word_at
bytes_word k l i j h =
    let zk : i + 0 ≡ i = omega arith in
    let zl : j + 0 ≡ j = omega arith in
    let h0 : get_or k i 0 ≡ get_or l j 0 = rw (zk, zl) at (h 0 (omega arith)) in
    omega (
      arith,
      h 1 (omega arith),
      h 2 (omega arith),
      h 3 (omega arith),
      h 4 (omega arith),
      h 5 (omega arith),
      h 6 (omega arith),
      h 7 (omega arith),
    )
