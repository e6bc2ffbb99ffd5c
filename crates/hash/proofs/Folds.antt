-- F as a fold: one byte more is one step more.
use Rattle.std.proofs.Common.{◌≡◌, ℕ, List, [], ◌∷◌, ◌++◌, refl}
use Rattle.hash.specs.Hash.{stir, stir_all}

pub stir_all_more : (h : ℕ) (bytes : List ℕ) (byte : ℕ) → stir_all h (bytes ++ byte ∷ []) ≡ stir (stir_all h bytes) byte
unfolding stir_all
stir_all_more h [] byte = refl
stir_all_more h (b ∷ bytes) byte = stir_all_more (stir h b) bytes byte
