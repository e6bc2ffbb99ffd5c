-- Keys: a server's place in the ring's order as one number. They stand in the promises of this crate's private functions alone; `planned` knows nothing of them.
use Rattle.std.specs.Prelude.{ℕ, ◌+◌, ◌*◌, ◌-◌, ◌/◌, ◌%◌, ◌^◌, ◌≤◌, ◌<◌, List, [], ◌∷◌}
use Rattle.hash.specs.Hash.{position}

-- numbers that fit four bytes, as every server does
abbrev pub Fit : List ℕ → Type 0
Fit [] = Unit {0}
Fit (s ∷ l) = (s < 2 ^ 32) × Fit l

-- the position, and below it the number counted down from the highest: the lower key stands before
unfoldable pub key_of : ℕ → ℕ
key_of s = position s * 2 ^ 32 + (2 ^ 32 - 1 - s)

-- the position in a key, and the server that it belongs to
unfoldable pub key_position : ℕ → ℕ
key_position k = k / 2 ^ 32

unfoldable pub key_server : ℕ → ℕ
key_server k = 2 ^ 32 - 1 - k % 2 ^ 32

-- keys that don't fall, from a bound on
abbrev pub Rising : ℕ → List ℕ → Type 0
Rising b [] = Unit {0}
Rising b (k ∷ l) = (b ≤ k) × Rising k l
