-- What is kept of a window that was read: the header and the bytes from a place on; or, of a packet record that the buffer has no room for,
-- the header and the record's first 104 bytes, whose length then says 88.
use Prim.Native.Nat.{ℕ, ◌+◌, ◌-◌, ◌<◌, ◌≤◌}
use mathlib.Core.Bool.{Bool, true, false, cond}
use mathlib.Core.List.{List, ◌++◌, append_assoc}
use mathlib.Core.Path.{◌≡◌, refl, sym, ap, ◌∙◌}
use native.Mathlib.Omega.{arith}
use lib.Dec.{ltb}
use lib.ListN.{length, get_or, take, drop, length-append, length-take, length-drop, get_or-append}
use lib.Seq.{length-take-le, take-take, take_at, drop-drop, take-append-le, drop-append-le, take-append-add, drop-append-add, get_or-append-add, get_or-take, get_or-drop, drop_at, take-add}
use borrow.Author.Tests.{ltb-true, ltb-false, le-leb, le-ltb}
use Rattle.sets.proofs.Cases.{both, clash}
use Rattle.spans.specs.Spans.{shifted}
use Rattle.pcap.specs.Captures.{low_first, captured, record_size, record_bytes, header_bytes}
use Rattle.pieces.specs.declared.Kept.{Kept}
use Rattle.pieces.specs.Pieces.{most_read, most_read_bytes, carried, too_long, trimmed, in_order, kept_all, kept_first, settled_buffer, settled_kept}
use Rattle.claims_captures.proofs.Records.{captured-append}
use Rattle.claims_captures.proofs.Files.{SameHeader, low_same, header_append}
use Rattle.claims_captures.proofs.First.{take_within}

-- ---- the bytes from a place on move up to the header

-- what is kept of a window read up to a place
abbrev pub kept_from : List ℕ → ℕ → List ℕ
kept_from w at = take header_bytes w ++ drop at w

regroup : (a d z e : List ℕ) → a ++ ((d ++ z) ++ e) ≡ (a ++ d) ++ (z ++ e)
regroup a d z e = simp append_assoc

-- what stands behind it in the buffer
abbrev spare : List ℕ → ℕ → ℕ → List ℕ
spare b n at =
    let rest = drop header_bytes (take n b) in
    drop (length rest - (at - header_bytes)) rest ++ drop n b

module _ (b : List ℕ) (n at : ℕ) (low : header_bytes ≤ at) (mid : at ≤ n) (high : n ≤ length b) where
  window_length : length (take n b) ≡ n
  window_length = length-take-le n b high

  pub kept-length : length (kept_from (take n b) at) ≡ header_bytes + (n - at)
  kept-length =
      length-append (take header_bytes (take n b)) (drop at (take n b))
      ∙ omega (arith, length-take-le header_bytes (take n b) (rw window_length (omega arith)), length-drop at (take n b), window_length)

  -- the records of the window
  records_are : take (n - header_bytes) (drop header_bytes b) ≡ drop header_bytes (take n b)
  records_are =
      let far : header_bytes + (n - header_bytes) ≡ n = omega arith in
      sym (drop_at (take header_bytes b) (take (n - header_bytes) (drop header_bytes b)) header_bytes (length-take-le header_bytes b (omega arith)))
      ∙ ap (drop header_bytes) (sym (take-add header_bytes (n - header_bytes) b) ∙ ap (λ (k : ℕ). take k b) far)

  -- the buffer begins with what is kept
  carried-is : carried b n at ≡ kept_from (take n b) at ++ spare b n at
  carried-is =
      let w = take n b in
      let z : List ℕ = drop (length (drop header_bytes w) - (at - header_bytes)) (drop header_bytes w) in
      let place : header_bytes + (at - header_bytes) ≡ at = omega arith in
      ap (λ (l : List ℕ). take header_bytes b ++ (shifted (at - header_bytes) l ++ drop n b)) records_are
      ∙ ap (λ (l : List ℕ). take header_bytes b ++ ((l ++ z) ++ drop n b)) (drop-drop (at - header_bytes) header_bytes w ∙ ap (λ (k : ℕ). drop k w) place)
      ∙ regroup (take header_bytes b) (drop at w) z (drop n b)
      ∙ ap (λ (l : List ℕ). (l ++ drop at w) ++ (z ++ drop n b)) (sym (take-take header_bytes n b (omega arith)))

  spare-length : length (spare b n at) ≡ (at - header_bytes) + (length b - n)
  spare-length =
      let rest = drop header_bytes (take n b) in
      length-append (drop (length rest - (at - header_bytes)) rest) (drop n b)
      ∙ omega
      (arith, length-drop (length rest - (at - header_bytes)) rest, length-drop n b, length-drop header_bytes (take n b), window_length)

-- ---- a record cut to its first bytes

-- the header and the first 104 bytes of the record behind it, whose length says 88
abbrev pub cut_window : List ℕ → List ℕ
cut_window v = take 32 v ++ (most_read_bytes (low_first v) ++ take 92 (drop 36 v))

four_long : (low : Bool) → length (most_read_bytes low) ≡ 4
four_long true = refl
four_long false = refl

-- parts of a list of 32, four and more
module _ (a x d : List ℕ) (long : length a ≡ 32) (four : length x ≡ 4) where
  part_take : (n : ℕ) → take (36 + n) (a ++ (x ++ d)) ≡ a ++ (x ++ take n d)
  part_take n =
      let far : 36 + n ≡ length a + (length x + n) = omega arith in
      ap (λ (k : ℕ). take k (a ++ (x ++ d))) far
      ∙ take-append-add a (x ++ d) (length x + n)
      ∙ ap (λ (l : List ℕ). a ++ l) (take-append-add x d n)

  part_drop : (n : ℕ) → drop (36 + n) (a ++ (x ++ d)) ≡ drop n d
  part_drop n =
      let far : 36 + n ≡ length a + (length x + n) = omega arith in
      ap (λ (k : ℕ). drop k (a ++ (x ++ d))) far
      ∙ drop-append-add a (x ++ d) (length x + n)
      ∙ drop-append-add x d n

  part_at : (i : ℕ) → i < 4 → get_or (a ++ (x ++ d)) (32 + i) 0 ≡ get_or x i 0
  part_at i h =
      let far : 32 + i ≡ length a + i = omega arith in
      ap (λ (k : ℕ). get_or (a ++ (x ++ d)) k 0) far
      ∙ get_or-append-add a (x ++ d) i 0
      ∙ get_or-append x d 0 i (omega arith)

  part_front : (i : ℕ) → i < 32 → get_or (a ++ (x ++ d)) i 0 ≡ get_or a i 0
  part_front i h = get_or-append a (x ++ d) 0 i (omega arith)

module _ (v : List ℕ) (long : 128 ≤ length v) where
  front : length (take 32 v) ≡ 32
  front = length-take-le 32 v (omega arith)

  pub cut_length : length (cut_window v) ≡ 128
  cut_length =
      length-append (take 32 v) (most_read_bytes (low_first v) ++ take 92 (drop 36 v))
      ∙ omega
      (arith, front, length-append (most_read_bytes (low_first v)) (take 92 (drop 36 v)), four_long (low_first v), length-take 92 (drop 36 v), length-drop 36 v)

  pub cut_header : SameHeader (cut_window v) v
  cut_header =
      record {
        long = rw cut_length (omega arith);
        long' = omega arith;
        same = λ i h.
            part_front (take 32 v) (most_read_bytes (low_first v)) (take 92 (drop 36 v)) front (four_long (low_first v)) i (omega arith)
            ∙ get_or-take 32 v i 0 (omega arith);
      }

  -- the bytes of the length field
  cut_field : (i : ℕ) → i < 4 → get_or (drop header_bytes (cut_window v)) (8 + i) 0 ≡ get_or (most_read_bytes (low_first v)) i 0
  cut_field i h =
      let far : header_bytes + (8 + i) ≡ 32 + i = omega arith in
      get_or-drop header_bytes (cut_window v) (8 + i) 0
      ∙ ap (λ (k : ℕ). get_or (cut_window v) k 0) far
      ∙ part_at (take 32 v) (most_read_bytes (low_first v)) (take 92 (drop 36 v)) front (four_long (low_first v)) i h

  -- the captured length is 88
  spelt : (low : Bool) (bytes : List ℕ) → ((i : ℕ) → i < 4 → get_or bytes (8 + i) 0 ≡ get_or (most_read_bytes low) i 0) → captured low bytes ≡ most_read
  unfolding captured
  spelt true bytes at = rw (at 0 (omega arith), at 1 (omega arith), at 2 (omega arith), at 3 (omega arith))
  spelt false bytes at = rw (at 0 (omega arith), at 1 (omega arith), at 2 (omega arith), at 3 (omega arith))

  pub cut_captured : captured (low_first v) (drop header_bytes (cut_window v)) ≡ most_read
  cut_captured = spelt (low_first v) (drop header_bytes (cut_window v)) cut_field

  -- and the captured bytes are the first 88
  pub cut_bytes : take most_read (drop record_bytes (drop header_bytes (cut_window v))) ≡ take most_read (drop record_bytes (drop header_bytes v))
  cut_bytes =
      ap (take most_read) (drop-drop record_bytes header_bytes (cut_window v))
      ∙ ap (take most_read)
      (part_drop (take 32 v) (most_read_bytes (low_first v)) (take 92 (drop 36 v)) front (four_long (low_first v)) 4)
      ∙ take_within most_read 4 92 (drop 36 v) (omega arith)
      ∙ ap (take most_read) (drop-drop 4 36 v ∙ sym (drop-drop record_bytes header_bytes v))

-- ---- what settling comes to

-- the size of the record behind a header
abbrev pub first_size : List ℕ → ℕ
first_size v = record_size (low_first v) (drop header_bytes v)

-- of a window v, in a buffer of L bytes: all of it is kept, and where a record's first 104 bytes are there the buffer has room for the
-- record; or only those bytes are kept
pub data Settled (L : ℕ) (v b : List ℕ) (k : Kept) : Type 0 where
  all : length b ≡ L → take k.have b ≡ v → k.have ≡ length v → k.pass ≡ 0 → (128 ≤ length v → header_bytes + first_size v ≤ L) → Settled L v b k
  first : length b ≡ L → take 128 b ≡ cut_window v → k.have ≡ 128 → 128 ≤ length v → L < header_bytes + first_size v
      → k.pass ≡ first_size v - (length v - header_bytes) → k.longer ≡ captured (low_first v) (drop header_bytes v) - most_read → Settled L v b k

trimmed-length : (b : List ℕ) → 36 ≤ length b → length (trimmed b) ≡ length b
trimmed-length b h =
    length-append (take 32 b) (most_read_bytes (low_first b) ++ drop 36 b)
    ∙ omega
    (arith, length-take-le 32 b (omega arith), length-append (most_read_bytes (low_first b)) (drop 36 b), four_long (low_first b), length-drop 36 b)

three : {a a' x x' d d' : List ℕ} → a ≡ a' → x ≡ x' → d ≡ d' → a ++ (x ++ d) ≡ a' ++ (x' ++ d')
three p q r = cc

-- a buffer that begins with a window, and what is behind that
module _ (v z : List ℕ) (kept : ℕ) (n : length v ≡ header_bytes + kept) where
  pub first_low : low_first (v ++ z) ≡ low_first v
  first_low = low_same (header_append v z (omega arith))

  pub first-captured : 128 ≤ length v → captured (low_first v) (drop header_bytes (v ++ z)) ≡ captured (low_first v) (drop header_bytes v)
  first-captured long =
      ap (captured (low_first v)) (drop-append-le header_bytes v z (omega arith))
      ∙ captured-append (low_first v) (drop header_bytes v) z (simp length-drop (omega arith))

  pub first_size_lem : 128 ≤ length v → record_size (low_first (v ++ z)) (drop header_bytes (v ++ z)) ≡ first_size v
  first_size_lem long = ap (λ (low : Bool). record_size low (drop header_bytes (v ++ z))) first_low ∙ ap (λ (c : ℕ). record_bytes + c) (first-captured long)

  -- what is cut off doesn't count
  pub cut_append : 128 ≤ length v → cut_window (v ++ z) ≡ cut_window v
  cut_append long =
      three (take-append-le 32 v z (omega arith)) (ap most_read_bytes first_low)
      (ap (take 92) (drop-append-le 36 v z (omega arith)) ∙ take-append-le 92 (drop 36 v) z (simp length-drop (omega arith)))

  cut_front : 128 ≤ length v → take 128 (trimmed (v ++ z)) ≡ cut_window v
  cut_front long =
      part_take (take 32 (v ++ z)) (most_read_bytes (low_first (v ++ z))) (drop 36 (v ++ z)) (length-take-le 32 (v ++ z) (rw length-append (omega arith)))
      (four_long (low_first (v ++ z))) 92
      ∙ cut_append long

  -- by whether the record is too long for the buffer
  long_known : too_long (v ++ z) kept ≡ true → (128 ≤ length v) × (length (v ++ z) < header_bytes + first_size v)
  long_known t =
      both (ltb kept (record_bytes + most_read)) (λ few. clash (rw few at t) refl) (λ few.
      let many : 128 ≤ length v = omega (arith, ltb-false kept 104 few) in
      (many, rw (first_size_lem many) at (ltb-true (length (v ++ z)) (header_bytes + record_size (low_first (v ++ z)) (drop header_bytes (v ++ z))) (rw few at t))))

  fits_known : too_long (v ++ z) kept ≡ false → 128 ≤ length v → header_bytes + first_size v ≤ length (v ++ z)
  fits_known t many =
      let few : ltb kept (record_bytes + most_read) ≡ false = le-ltb kept 104 (omega arith) in
      rw (first_size_lem many) at (ltb-false (length (v ++ z)) (header_bytes + record_size (low_first (v ++ z)) (drop header_bytes (v ++ z))) (rw few at t))

  settle_first : too_long (v ++ z) kept ≡ true → Settled (length (v ++ z)) v (trimmed (v ++ z)) (kept_first kept (v ++ z))
  settle_first t =
      let known = long_known t in
      first (trimmed-length (v ++ z) (rw length-append (omega arith))) (cut_front known.0) refl known.0 known.1
      (rw (first_size_lem known.0) (omega arith))
      (ap (λ (low : Bool). captured low (drop header_bytes (v ++ z)) - most_read) first_low ∙ ap (λ (c : ℕ). c - most_read) (first-captured known.0))

  settle_trims : Settled (length (v ++ z)) v (cond (too_long (v ++ z) kept) (trimmed (v ++ z)) (v ++ z))
      (cond (too_long (v ++ z) kept) (kept_first kept (v ++ z)) (kept_all (header_bytes + kept)))
  settle_trims =
      both (too_long (v ++ z) kept) (λ t. rw t (settle_first t))
      (λ t. rw t (all refl (take_at v z (header_bytes + kept) n) (sym n) refl (fits_known t)))

-- a window of n bytes that was read up to a place
pub settles : (b : List ℕ) (n at : ℕ) → header_bytes ≤ at → at ≤ n → n ≤ length b
    → Settled (length b) (kept_from (take n b) at) (settled_buffer b n at) (settled_kept b n at)
unfolding settled_buffer settled_kept
settles b n at low mid high =
    let ordered : in_order b n at ≡ true = rw (le-leb header_bytes at low, le-leb at n mid, le-leb n (length b) high) in
    let v = kept_from (take n b) at in
    let size : length (v ++ spare b n at) ≡ length b =
    length-append v (spare b n at) ∙ omega (arith, kept-length b n at low mid high, spare-length b n at low mid high) in
    rw (ordered, carried-is b n at low mid high, sym size) (settle_trims v (spare b n at) (n - at) (kept-length b n at low mid high))
