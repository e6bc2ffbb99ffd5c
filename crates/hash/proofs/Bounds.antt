-- Every hash fits its number of bits, and what a clockwise distance comes to on either side of the point.
use Rattle.std.proofs.Common.{◌≡◌, ℕ, ◌+◌, ◌-◌, ◌^◌, ◌<◌, ◌≤◌, List, [], ◌∷◌, arith, lit<}
use Rattle.hash.specs.Hash.{stir, stir_all, F, weight, position, distance}
use Rattle.bigendian.specs.BigEndian.{bytes4}

stir_all_fits : (h : ℕ) (bytes : List ℕ) → h < 2 ^ 32 → stir_all h bytes < 2 ^ 32
unfolding stir_all stir
stir_all_fits h [] fits = fits
stir_all_fits h (b ∷ bytes) fits = stir_all_fits (stir h b) bytes (omega arith)

pub F-fits : (bytes : List ℕ) → F bytes < 2 ^ 32
unfolding F
F-fits bytes = stir_all_fits 2166136261 bytes (lit< tt)

pub position_fits : (s : ℕ) → position s < 2 ^ 32
position_fits s = F-fits (bytes4 s)

pub weight_fits : (s d : ℕ) → weight s d < 2 ^ 31
unfolding weight
weight_fits s d = omega arith

pub distance_fits : (pos pt : ℕ) → distance pos pt < 2 ^ 32
unfolding distance
distance_fits pos pt = omega arith

module _ (pos pt : ℕ) (a : pos < 2 ^ 32) (b : pt < 2 ^ 32) where
  pub distance-ahead : pt ≤ pos → distance pos pt ≡ pos - pt
  unfolding distance
  distance-ahead h = omega arith

  pub distance-behind : pos < pt → distance pos pt ≡ pos + 2 ^ 32 - pt
  unfolding distance
  distance-behind h = omega arith
