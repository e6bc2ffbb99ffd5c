-- A packet's outcome goes by its first 88 bytes: 14 of Ethernet, at most 60 of IPv4, 14 up to TCP's flags. Any numbers will do for bytes: a
-- header length is a remainder by 16.
use Prim.Native.Nat.{ℕ, zero, suc, ◌+◌, ◌<◌, ◌≤◌}
use mathlib.Core.Bool.{true, false}
use mathlib.Core.List.{List, [], ◌∷◌}
use mathlib.Core.Path.{◌≡◌, refl}
use native.Mathlib.Omega.{arith}
use lib.Dec.{ltb}
use lib.ListN.{length, get_or, take, drop, length-take}
use lib.Seq.{get_or-take, take-take}
use borrow.Author.Tests.{ltb-true, ltb-false, lt-ltb, le-ltb}
use Rattle.sets.proofs.Cases.{both}
use Rattle.frames.specs.Frames.{outcome, of_ethernet, of_ipv4, ports_at, key_in, has_fin}
use Rattle.pieces.specs.Pieces.{most_read}
use Rattle.claims_captures.specs.Captured.{FirstBytes}

-- ---- a part of the first bytes

pub take_within : (m i n : ℕ) (l : List ℕ) → i + m ≤ n → take m (drop i (take n l)) ≡ take m (drop i l)
take_within m zero n l h = take-take m n l (omega arith)
take_within m (suc i) zero l h = absurd (omega arith)
take_within m (suc i) (suc n) [] h = refl
take_within m (suc i) (suc n) (x ∷ l) h = take_within m i n l (omega arith)

-- whether so many bytes are there
few_same : (n m : ℕ) (l : List ℕ) → m ≤ n → ltb (length (take n l)) m ≡ ltb (length l) m
few_same n m l h =
    let e = length-take n l in
    both (ltb (length l) m) (λ t. let lt = ltb-true (length l) m t in rw t (lt-ltb (length (take n l)) m (omega arith)))
    (λ t. let le = ltb-false (length l) m t in rw t (le-ltb (length (take n l)) m (omega arith)))

-- ---- the questions

module _ (b : List ℕ) where
  at : (i : ℕ) → i < most_read → get_or (take most_read b) i 0 ≡ get_or b i 0
  at i h = get_or-take most_read b i 0 h

  few : (m : ℕ) → m ≤ most_read → ltb (length (take most_read b)) m ≡ ltb (length b) m
  few m h = few_same most_read m b h

  ports_same : ports_at (take most_read b) ≡ ports_at b
  ports_same = rw (at 14 (omega arith))

  ports_near : ports_at b ≤ 74
  ports_near = omega arith

  fin_same : has_fin (take most_read b) ≡ has_fin b
  fin_same = rw (ports_same, at (ports_at b + 13) (omega (arith, ports_near)))

  key_same : key_in (take most_read b) ≡ key_in b
  key_same = rw (ports_same, at 23 (omega arith), take_within 8 26 most_read b (omega arith), take_within 4 (ports_at b) most_read b (omega (arith, ports_near)))

  ipv4_same : of_ipv4 (take most_read b) ≡ of_ipv4 b
  unfolding of_ipv4
  ipv4_same =
      rw
      (key_same, fin_same, ports_same, few 22 (omega arith), few 24 (omega arith), few (ports_at b + 14) (omega (arith, ports_near)), few (ports_at b + 4) (omega (arith, ports_near)), at 20 (omega arith), at 21 (omega arith), at 23 (omega arith))

  ethernet-same : of_ethernet (take most_read b) ≡ of_ethernet b
  unfolding of_ethernet
  ethernet-same =
      rw (ipv4_same, few 14 (omega arith), few 15 (omega arith), at 12 (omega arith), at 13 (omega arith), at 14 (omega arith))

pub first_88 : FirstBytes
unfolding outcome
first_88 true b = ethernet-same b
first_88 false b = refl
