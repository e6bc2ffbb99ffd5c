-- Document 01, "Hashes": its sentences on numbers, one definition each. The sentences on which server outranks which are in the crate `ranking`.
use Rattle.std.specs.Prelude.{ℕ, ◌+◌, ◌-◌, ◌*◌, ◌%◌, ◌^◌, List, [], ◌∷◌, bit_xor}
use Rattle.bigendian.specs.BigEndian.{bytes4}

-- "for each byte, xor it in, then multiply by 16777619 modulo 2^32"
unfoldable pub stir : ℕ → ℕ → ℕ
stir h byte = bit_xor h byte * 16777619 % 2 ^ 32

unfoldable pub stir_all : ℕ → List ℕ → ℕ
stir_all h [] = h
stir_all h (byte ∷ bytes) = stir_all (stir h byte) bytes

-- "F(bytes), FNV-1a 32: start at 2166136261"
unfoldable pub F : List ℕ → ℕ
F bytes = stir_all 2166136261 bytes

-- "Digest of a key: F(key) modulo 2^31.": f is F(key)
abbrev pub digest : ℕ → ℕ
digest f = f % 2 ^ 31

-- "Weight of server S at digest D: (1103515245 x ((1103515245 x S + 12345) xor D) + 12345) modulo 2^31."
unfoldable pub weight : ℕ → ℕ → ℕ
weight s d = (1103515245 * bit_xor (1103515245 * s + 12345) d + 12345) % 2 ^ 31

-- "the row is F(key) modulo the number of rows"
abbrev pub row : List ℕ → ℕ → ℕ
row key count = F key % count

-- "a server's position is F of its 4 bytes big-endian"
abbrev pub position : ℕ → ℕ
position s = F (bytes4 s)

-- "the key's point is F(key)"
abbrev pub point : List ℕ → ℕ
point key = F key

-- "The clockwise distance is position minus point, wrapping at 2^32."
unfoldable pub distance : ℕ → ℕ → ℕ
distance pos pt = (pos + 2 ^ 32 - pt) % 2 ^ 32
