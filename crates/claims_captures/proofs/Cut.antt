-- A capture of one packet record, and the same cut to the record's first 104 bytes: one packet each, with the same outcome, and nothing
-- left.
use Prim.Native.Nat.{ℕ, ◌+◌, ◌-◌, ◌≤◌}
use mathlib.Core.Bool.{Bool, true}
use mathlib.Core.List.{List, [], ◌∷◌, ◌++◌, map}
use mathlib.Core.Path.{◌≡◌, sym, ap, ◌∙◌}
use native.Mathlib.Omega.{arith}
use lib.Dec.{eqb}
use lib.ListN.{length, take, drop, length-drop, drop_of_length-le}
use lib.Seq.{take-take, take-append-le, length-take-le}
use Rattle.frames.specs.Frames.{Outcome, outcome}
use Rattle.pcap.specs.Captures.{low_first, ethernet, header_refusal, header_bytes, record_bytes, record_size, captured, packet, packets_in, outcomes_in, refused_at}
use Rattle.pieces.specs.Pieces.{most_read}
use Rattle.claims_captures.proofs.Records.{packets_of, left_of, size_whole, few_whole, packets-first, left_first, packets-none, left_all}
use Rattle.claims_captures.proofs.Files.{low_same, ethernet-same, refusal_same, packets-behind, refused_left}
use Rattle.claims_captures.proofs.First.{first_88}
use Rattle.claims_captures.proofs.Windows.{cut_window, cut_length, cut_header, cut_captured, cut_bytes, first_size, kept_from}

-- ---- bytes that are one record

module _ (low : Bool) (bytes : List ℕ) (exact : record_size low bytes ≡ length bytes) where
  nothing-behind : drop (record_size low bytes) bytes ≡ []
  nothing-behind = drop_of_length-le bytes {i = record_size low bytes} (omega arith)

  one_packet : packets_of low bytes ≡ packet low bytes ∷ []
  one_packet =
      packets-first low bytes (size_whole low bytes (omega arith))
      ∙ ap (λ (l : List ℕ). packet low bytes ∷ packets_of low l) nothing-behind
      ∙ ap (λ (ps : List (List ℕ)). packet low bytes ∷ ps) (packets-none low [] (few_whole low [] (omega arith)))

  none_left : left_of low bytes ≡ []
  none_left =
      left_first low bytes (size_whole low bytes (omega arith))
      ∙ ap (left_of low) nothing-behind
      ∙ left_all low [] (few_whole low [] (omega arith))

-- ---- a file of one record

module _ (f : List ℕ) (sound : eqb (header_refusal f) 0 ≡ true) (long : header_bytes ≤ length f) (exact : header_bytes + first_size f ≡ length f) where
  behind_exact : first_size f ≡ length (drop header_bytes f)
  behind_exact = simp length-drop (omega arith)

  pub one_in : packets_in f ≡ packet (low_first f) (drop header_bytes f) ∷ []
  one_in = packets-behind f sound ∙ one_packet (low_first f) (drop header_bytes f) behind_exact

  pub refused_end : refused_at f ≡ length f
  refused_end =
      refused_left f sound
      ∙ ap (λ (l : List ℕ). length f - length l) (none_left (low_first f) (drop header_bytes f) behind_exact)
      ∙ omega arith

-- ---- cut

module _ (q : List ℕ) (sound : eqb (header_refusal q) 0 ≡ true) (long : 128 ≤ length q) (exact : header_bytes + first_size q ≡ length q)
    (most : most_read ≤ captured (low_first q) (drop header_bytes q)) where
  pub cut_sound : eqb (header_refusal (cut_window q)) 0 ≡ true
  cut_sound = ap (λ (n : ℕ). eqb n 0) (refusal_same (cut_header q long)) ∙ sound

  -- the length in the cut record
  cut_says : captured (low_first (cut_window q)) (drop header_bytes (cut_window q)) ≡ most_read
  cut_says = ap (λ (low : Bool). captured low (drop header_bytes (cut_window q))) (low_same (cut_header q long)) ∙ cut_captured q long

  cut_exact : header_bytes + first_size (cut_window q) ≡ length (cut_window q)
  cut_exact = rw (cut_says, cut_length q long)

  pub cut_refused : refused_at (cut_window q) ≡ 128
  cut_refused = refused_end (cut_window q) cut_sound (rw (cut_length q long) (omega arith)) cut_exact ∙ cut_length q long

  -- its packet is the first 88 bytes of the packet
  cut_packet : packet (low_first (cut_window q)) (drop header_bytes (cut_window q)) ≡ take most_read (packet (low_first q) (drop header_bytes q))
  cut_packet =
      ap (λ (c : ℕ). take c (drop record_bytes (drop header_bytes (cut_window q)))) cut_says
      ∙ cut_bytes q long
      ∙ sym (take-take most_read (captured (low_first q) (drop header_bytes q)) (drop record_bytes (drop header_bytes q)) most)

  pub cut_outcomes : outcomes_in (cut_window q) ≡ outcomes_in q
  cut_outcomes =
      ap (map (outcome (ethernet (cut_window q)))) (one_in (cut_window q) cut_sound (rw (cut_length q long) (omega arith)) cut_exact)
      ∙ ap (λ (o : Outcome). o ∷ [])
      (ap (outcome (ethernet (cut_window q))) cut_packet
      ∙ first_88 (ethernet (cut_window q)) (packet (low_first q) (drop header_bytes q))
      ∙ ap (λ (e : Bool). outcome e (packet (low_first q) (drop header_bytes q))) (ethernet-same (cut_header q long)))
      ∙ ap (map (outcome (ethernet q))) (sym (one_in q sound (omega arith) exact))

  -- and all that is kept of either is the header
  pub cut_kept : kept_from (cut_window q) (refused_at (cut_window q)) ≡ kept_from q (refused_at q)
  cut_kept =
      ap (λ (l : List ℕ). take header_bytes (cut_window q) ++ l)
      (drop_of_length-le (cut_window q) {i = refused_at (cut_window q)} (omega (arith, cut_length q long, cut_refused)))
      ∙ ap (λ (l : List ℕ). l ++ [])
      (take-append-le header_bytes (take 32 q) _ (omega (arith, length-take-le 32 q (omega arith))) ∙ take-take header_bytes 32 q (omega arith))
      ∙ ap (λ (l : List ℕ). take header_bytes q ++ l)
      (sym (drop_of_length-le q {i = refused_at q} (omega (arith, refused_end q sound (omega arith) exact))))
