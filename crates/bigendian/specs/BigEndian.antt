-- Big-endian numbers: the highest byte first. Document 01 asks this of servers, row counts and the bytes that a server's ring position is hashed from.
use Rattle.std.specs.Prelude.{ℕ, ◌+◌, ◌*◌, ◌/◌, ◌%◌, ◌^◌, List, [], ◌∷◌, get_or}

-- the four bytes of a number
abbrev pub bytes4 : ℕ → List ℕ
bytes4 n = n / 2 ^ 24 % 256 ∷ n / 2 ^ 16 % 256 ∷ n / 2 ^ 8 % 256 ∷ n % 256 ∷ []

-- the number that four bytes spell
abbrev pub number4 : ℕ → ℕ → ℕ → ℕ → ℕ
number4 a b c d = a * 2 ^ 24 + b * 2 ^ 16 + c * 2 ^ 8 + d

-- the number that two bytes spell
abbrev pub number2 : ℕ → ℕ → ℕ
number2 a b = a * 2 ^ 8 + b

-- the number that the four bytes of a list spell that begin at a place, and that the two bytes spell
abbrev pub number4_at : List ℕ → ℕ → ℕ
number4_at l i = number4 (get_or l i 0) (get_or l (i + 1) 0) (get_or l (i + 2) 0) (get_or l (i + 3) 0)

abbrev pub number2_at : List ℕ → ℕ → ℕ
number2_at l i = number2 (get_or l i 0) (get_or l (i + 1) 0)
