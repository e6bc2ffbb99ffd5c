-- Numbers and their bytes: each gives the other back, and the first byte is the highest.
use Prim.Native.Nat.{ℕ, ◌/◌, ◌%◌, ◌<◌, ◌^◌}
use mathlib.Core.List.{[], ◌∷◌}
use mathlib.Core.Path.{◌≡◌}
use native.Mathlib.Omega.{arith}
use Rattle.std.proofs.lemmas.Nat.{from_be_bytes-to_be_bytes_4}
use Rattle.bigendian.specs.BigEndian.{bytes4, number4, number4_at, number2}

-- a number that fits four bytes is what its four bytes spell
pub number4-bytes4 : (n : ℕ) → n < 2 ^ 32 → number4_at (bytes4 n) 0 ≡ n
number4-bytes4 n fits = from_be_bytes-to_be_bytes_4 n fits

-- four bytes are those of the number that they spell
pub bytes4-number4 : (a b c d : ℕ) → a < 256 → b < 256 → c < 256 → d < 256 → bytes4 (number4 a b c d) ≡ a ∷ b ∷ c ∷ d ∷ []
bytes4-number4 a b c d p q r s =
    let first : number4 a b c d / 2 ^ 24 % 256 ≡ a = omega arith in
    let second : number4 a b c d / 2 ^ 16 % 256 ≡ b = omega arith in
    let third : number4 a b c d / 2 ^ 8 % 256 ≡ c = omega arith in
    let last : number4 a b c d % 256 ≡ d = omega arith in
    rw (first, second, third, last)

-- "big-endian": a lower first byte makes a lower number, whatever the others are; where the first are equal the next decide
module _ (b c d b' c' d' : ℕ) (p : b < 256) (q : c < 256) (r : d < 256) where
  pub first_decides : (a a' : ℕ) → a < a' → number4 a b c d < number4 a' b' c' d'
  first_decides a a' h = omega arith

  pub second_decides : (a : ℕ) → b < b' → number4 a b c d < number4 a b' c' d'
  second_decides a h = omega arith

  pub third_decides : (a : ℕ) → c < c' → number4 a b c d < number4 a b c' d'
  third_decides a h = omega arith

pub first_of_two_decides : (a a' b b' : ℕ) → b < 256 → a < a' → number2 a b < number2 a' b'
first_of_two_decides a a' b b' p h = omega arith
