-- Request [2]: a capture of any length in a buffer of one length. A stream takes the capture in pieces, and gives what is defined from the
-- whole file.
use Rattle.std.specs.Prelude.{ℕ, ◌+◌, ◌*◌, ◌≤◌, ◌<◌, ◌%◌, ◌^◌, cond, List, [], ◌++◌, ◌⊎◌, ◌≡◌, eqb, length, take}
use Rattle.pcap.specs.Captures.{header_bytes, header_refusal, events_in, outcomes_in, refusal_in, refused_at}
use Rattle.pieces.specs.Pieces.{joined}
use Rattle.pieces.specs.Streams.{Stream, beginning, taken, ending}
use Rattle.claims_captures.specs.Captured.{sums_of, counts_of}

-- a piece comes: it stands behind the window of a buffer as long as before, whatever stands behind it, and goes no further than a packet
-- that is passed over. A piece may be empty
pub record Arrives (b : List ℕ) (s : Stream) (piece b' : List ℕ) : Type 0 where
  pub length_stays : length b' ≡ length b
  pub stands : take (s.have + length piece) b' ≡ take s.have b ++ piece
  pub fits : s.have + length piece ≤ length b
  pub no_further : 0 < s.pass → length piece ≤ s.pass

-- a stream over a buffer of so many bytes, from its beginning on, piece by piece: all bytes that have come, the event bytes that were
-- given, the buffer and the stream. The second buffer is at least twice as long as the first, which is room for all events of a window
pub data Fed (L : ℕ) : List ℕ → List ℕ → List ℕ → Stream → Type 0 where
  begins : (b : List ℕ) → length b ≡ L → Fed L [] [] b beginning
  comes : {come given b : List ℕ} {s : Stream} → Fed L come given b s → (piece b' out : List ℕ) → Arrives b s piece b' → 2 * L ≤ length out
      → Fed L (come ++ piece)
      (given ++ take (taken b' out s (length piece)).answer.filled (taken b' out s (length piece)).out)
      (taken b' out s (length piece)).buffer
      (taken b' out s (length piece)).answer.stream

-- at every moment the bytes given are the events of what has come, the sums are its sums, and if the capture ended there, its refusal and
-- the byte where that stands would be those of what has come (in 64 bits; 0 where there is no refusal). And in a buffer of more than 128
-- bytes there is always room for at least one byte more, but for a file whose header is refused
pub record SameAs (L : ℕ) (come given b : List ℕ) (s : Stream) : Type 0 where
  pub events_same : given ≡ joined (events_in come)
  pub sums_same : s.tally ≡ sums_of (outcomes_in come)
  pub refusal_same : (ending b s).refusal ≡ refusal_in come
  pub place_same : (ending b s).at ≡ cond (eqb (refusal_in come) 0) 0 (refused_at come % 2 ^ 64)
  pub room_left : (length come < header_bytes) ⊎ (header_refusal come ≡ 0) → 128 < L → s.have < L

abbrev pub PiecesSame : Type 0
PiecesSame = (L : ℕ) (come given b : List ℕ) (s : Stream) → 128 ≤ L → Fed L come given b s → SameAs L come given b s

-- and as long as fewer than 2^64 bytes have come, each sum is the number itself, and so is the byte where the refusal stands
pub record ExactAs (come b : List ℕ) (s : Stream) : Type 0 where
  pub sums_exact : s.tally ≡ counts_of (outcomes_in come)
  pub place_exact : (ending b s).at ≡ cond (eqb (refusal_in come) 0) 0 (refused_at come)

abbrev pub PiecesExactly : Type 0
PiecesExactly =
    (L : ℕ) (come given b : List ℕ) (s : Stream) → 128 ≤ L → Fed L come given b s → length come < 2 ^ 64 → ExactAs come b s

-- so there is a way to take in a capture of any length (the proof feeds single bytes). That other ways can go on rests on `room_left`:
-- after whatever pieces, one more of at least one byte fits
pub record Feeds (L : ℕ) (f : List ℕ) : Type 0 where
  pub given : List ℕ
  pub buffer : List ℕ
  pub stream : Stream
  pub fed : Fed L f given buffer stream

abbrev pub AnyLength : Type 0
AnyLength = (L : ℕ) (f : List ℕ) → 128 < L → header_refusal f ≡ 0 → Feeds L f
