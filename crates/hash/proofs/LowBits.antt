-- "Only the low 31 bits of any step matter": of the server, of the first product, of the digest and of the mixed number.
use Rattle.std.proofs.Common.{◌≡◌, ℕ, ◌+◌, ◌*◌, ◌/◌, ◌%◌, ◌^◌, sym, ap, ◌∙◌, arith}
use native.Mathlib.Nat.{add-mul-mod_self_right}
use lib.Bits.{bit_xor, xor_mod}
use Rattle.hash.specs.Hash.{weight}

-- one step of the formula, and the same step on the low 31 bits
abbrev pub turned : ℕ → ℕ
turned x = 1103515245 * x + 12345

pub step_low : (x : ℕ) → turned (x % 2 ^ 31) % 2 ^ 31 ≡ turned x % 2 ^ 31
step_low x =
    sym (add-mul-mod_self_right (turned (x % 2 ^ 31)) (1103515245 * (x / 2 ^ 31)) (2 ^ 31)) ∙ ap (λ (n : ℕ). n % 2 ^ 31) (omega arith)

pub mix_low : (x d : ℕ) → bit_xor (x % 2 ^ 31) (d % 2 ^ 31) ≡ bit_xor x d % 2 ^ 31
mix_low x d = sym (xor_mod x d 31)

-- the weight's formula, with every step reduced to 31 bits
pub weight_low : (s d : ℕ) → turned (bit_xor (turned (s % 2 ^ 31) % 2 ^ 31) (d % 2 ^ 31)) % 2 ^ 31 ≡ weight s d
unfolding weight
weight_low s d = rw (step_low s, mix_low (turned s) d) (step_low (bit_xor (turned s) d))

-- so S and S + 2^31 weigh the same at every digest
pub weight_tie : (s d : ℕ) → weight (s + 2 ^ 31) d ≡ weight s d
weight_tie s d =
    let e : (s + 2 ^ 31) % 2 ^ 31 ≡ s % 2 ^ 31 = omega arith in
    sym (weight_low (s + 2 ^ 31) d) ∙ rw e (weight_low s d)
