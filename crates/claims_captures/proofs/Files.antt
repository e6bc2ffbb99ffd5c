-- A file with a sound header: its packets and its unread bytes are those of the bytes behind the header.
use Prim.Native.Nat.{ℕ, ◌+◌, ◌-◌, ◌<◌, ◌≤◌}
use mathlib.Core.Bool.{true, false, cond}
use mathlib.Core.List.{List, [], ◌++◌}
use mathlib.Core.Path.{◌≡◌, refl, ap, ◌∙◌}
use native.Mathlib.Omega.{arith}
use lib.Dec.{eqb, ltb}
use lib.ListN.{length, get_or, take, drop, length-drop, length-append, get_or-append}
use lib.Seq.{length-take-le, get_or-take, drop_at, drop-drop}
use Rattle.bigendian.specs.BigEndian.{number4_at}
use borrow.Author.Tests.{ltb-false, le-ltb}
use Rattle.sets.proofs.Cases.{both, clash}
use Rattle.pcap.specs.Captures.{low_first, high_first, ethernet, header_refusal, header_bytes, packets_in, unread_in, refusal_in, refused_at, short_record}
use Rattle.claims_captures.proofs.Records.{packets_of, left_of, packets-end, unread-end, Last, left_last}

-- a sound header is all there
pub sound_long : (f : List ℕ) → eqb (header_refusal f) 0 ≡ true → header_bytes ≤ length f
unfolding header_refusal
sound_long f sound =
    both (ltb (length f) 4) (λ a. clash (rw a at sound) refl) (λ a.
    both (cond (low_first f) true (high_first f)) (λ b.
    both (ltb (length f) header_bytes) (λ c. clash (rw (a, b, c) at sound) refl) (λ c. ltb-false (length f) header_bytes c))
    (λ b. clash (rw (a, b) at sound) refl))

module _ (f : List ℕ) (sound : eqb (header_refusal f) 0 ≡ true) where
  pub packets-behind : packets_in f ≡ packets_of (low_first f) (drop header_bytes f)
  packets-behind =
      rw sound
      (packets-end (length f) (length (drop header_bytes f)) (low_first f) (drop header_bytes f) (simp length-drop (omega arith)) (omega arith))

  pub unread-behind : unread_in f ≡ left_of (low_first f) (drop header_bytes f)
  unread-behind =
      unread-end (length f) (length (drop header_bytes f)) (low_first f) (drop header_bytes f) (simp length-drop (omega arith)) (omega arith)

  -- its refusal and where that stands, by the bytes left
  pub refusal_left : refusal_in f ≡ cond (eqb (length (left_of (low_first f) (drop header_bytes f))) 0) 0 short_record
  unfolding refusal_in
  refusal_left = rw (sound, unread-behind)

  pub refused_left : refused_at f ≡ length f - length (left_of (low_first f) (drop header_bytes f))
  unfolding refused_at
  refused_left = rw (sound, unread-behind)

-- a file whose header is refused has no packets, and that refusal
module _ (f : List ℕ) (bad : eqb (header_refusal f) 0 ≡ false) where
  pub packets_bad : packets_in f ≡ []
  packets_bad = rw bad

  pub refusal_bad : refusal_in f ≡ header_refusal f
  unfolding refusal_in
  refusal_bad = rw bad

  pub refused_bad : refused_at f ≡ 0
  unfolding refused_at
  refused_bad = rw bad

-- ---- a header with other bytes behind it

-- two files that begin alike for 24 bytes
pub record SameHeader (f g : List ℕ) : Type 0 where
  pub long : header_bytes ≤ length f
  pub long' : header_bytes ≤ length g
  pub same : (i : ℕ) → i < header_bytes → get_or f i 0 ≡ get_or g i 0

module _ {f g : List ℕ} (h : SameHeader f g) where
  magic_same : number4_at f 0 ≡ number4_at g 0
  magic_same = rw (h.same 0 (omega arith), h.same 1 (omega arith), h.same 2 (omega arith), h.same 3 (omega arith))

  pub low_same : low_first f ≡ low_first g
  low_same = ap (λ (n : ℕ). eqb n 3569595041) magic_same

  high_same : high_first f ≡ high_first g
  high_same = ap (λ (n : ℕ). eqb n 2712847316) magic_same

  pub ethernet-same : ethernet f ≡ ethernet g
  unfolding ethernet
  ethernet-same =
      rw (low_same, h.same 20 (omega arith), h.same 21 (omega arith), h.same 22 (omega arith), h.same 23 (omega arith))

  pub refusal_same : header_refusal f ≡ header_refusal g
  unfolding header_refusal
  refusal_same =
      rw
      (le-ltb (length f) 4 (omega (arith, h.long)), le-ltb (length g) 4 (omega (arith, h.long')), le-ltb (length f) header_bytes h.long, le-ltb (length g) header_bytes h.long', low_same, high_same)

-- bytes behind the first 24 don't count
pub header_append : (f g : List ℕ) → header_bytes ≤ length f → SameHeader (f ++ g) f
header_append f g long =
    record { long = rw (length-append f g) (omega arith); long' = long; same = λ i h. get_or-append f g 0 i (omega arith) }

pub header_other : (f b : List ℕ) → header_bytes ≤ length f → SameHeader (take header_bytes f ++ b) f
header_other f b long =
    let n = length-take-le header_bytes f long in
    record {
      long = rw (length-append (take header_bytes f) b, n) (omega arith);
      long' = long;
      same = λ i h. get_or-append (take header_bytes f) b 0 i (omega arith) ∙ get_or-take header_bytes f i 0 h;
    }

pub behind_header : (f b : List ℕ) → header_bytes ≤ length f → drop header_bytes (take header_bytes f ++ b) ≡ b
behind_header f b long = drop_at (take header_bytes f) b header_bytes (length-take-le header_bytes f long)

-- ---- where the unread bytes begin

module _ (f : List ℕ) (sound : eqb (header_refusal f) 0 ≡ true) where
  refused_last : Last (drop header_bytes f) (left_of (low_first f) (drop header_bytes f))
  refused_last = left_last (length (drop header_bytes f)) (low_first f) (drop header_bytes f) (omega arith)

  pub refused_within : refused_at f ≤ length f
  refused_within = rw (refused_left f sound) (omega arith)

  pub refused-behind : header_bytes ≤ refused_at f
  refused-behind = rw (refused_left f sound) (omega (arith, refused_last.fewer, length-drop header_bytes f, sound_long f sound))

  pub left_from : left_of (low_first f) (drop header_bytes f) ≡ drop (refused_at f) f
  left_from =
      let left = length (left_of (low_first f) (drop header_bytes f)) in
      let far : header_bytes + (length (drop header_bytes f) - left) ≡ refused_at f =
      rw (refused_left f sound) (omega (arith, refused_last.fewer, length-drop header_bytes f, sound_long f sound)) in
      refused_last.last ∙ drop-drop (length (drop header_bytes f) - left) header_bytes f ∙ ap (λ (n : ℕ). drop n f) far
