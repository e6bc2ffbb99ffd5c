-- Words: eight bytes read as one number, the lowest byte first. Nothing in document 01 is a word; keys are compared by them.
use Rattle.std.specs.Prelude.{ℕ, ◌+◌, ◌*◌, ◌^◌, ◌<◌, List, get_or}

-- the number that eight bytes spell
abbrev pub number8 : ℕ → ℕ → ℕ → ℕ → ℕ → ℕ → ℕ → ℕ → ℕ
number8 a b c d e f g h = a + b * 2 ^ 8 + c * 2 ^ 16 + d * 2 ^ 24 + e * 2 ^ 32 + f * 2 ^ 40 + g * 2 ^ 48 + h * 2 ^ 56

-- the number that the eight bytes of a list spell that begin at a place
unfoldable pub word_at : List ℕ → ℕ → ℕ
word_at l i =
    number8 (get_or l i 0) (get_or l (i + 1) 0) (get_or l (i + 2) 0) (get_or l (i + 3) 0) (get_or l (i + 4) 0) (get_or l (i + 5) 0) (get_or l (i + 6) 0) (get_or l (i + 7) 0)

-- the n numbers of a list that begin at a place are bytes
abbrev pub BytesAt : List ℕ → ℕ → ℕ → Type 0
BytesAt l i n = (m : ℕ) → m < n → get_or l (i + m) 0 < 256
