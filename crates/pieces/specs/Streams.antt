-- Request [2]: a capture that comes in pieces. Each piece stands behind the window in the buffer when it is taken in; what it completes becomes
-- event records in a second buffer.
use Rattle.std.specs.Prelude.{ℕ, ◌+◌, ◌-◌, ◌%◌, ◌^◌, cond, List, length, take, ◌==◌, nat_le, nat_lt, Option, Some, None}
use Rattle.pcap.specs.declared.Tally.{Tally}
use Rattle.pcap.specs.Captures.{Said, Event, Skipped, Finished, Refused, number_of, header_bytes, short_record, nothing, step_at}
use Rattle.pieces.specs.declared.Stream.{Stream as Coming}
use Rattle.pieces.specs.declared.Advanced.{Advanced as Onward}
use Rattle.pieces.specs.declared.Ending.{Ending as Refused-at}
use Rattle.pieces.specs.declared.Kept.{Kept}
use Rattle.pieces.specs.Pieces.{Ran, read_on, enough, room_for, filled_by, written, settled_buffer, settled_kept, last_of}

-- a capture of which pieces have come: the window, what is passed over, what is done, and what the reader said last; then how many bytes of
-- event records stand in the second buffer
pub record Stream : Type 0 where
  pub have : ℕ
  pub pass : ℕ
  pub longer : ℕ
  pub before : ℕ
  pub tally : Tally
  pub said : Said

pub record Advanced : Type 0 where
  pub stream : Stream
  pub filled : ℕ

-- what a capture that has ended is refused by, 0 where it isn't, and the byte where the refusal stands
pub record Ending : Type 0 where
  pub refusal : ℕ
  pub at : ℕ

-- nothing has come
abbrev pub beginning : Stream
beginning = record { have = 0; pass = 0; longer = 0; before = 0; tally = nothing; said = Finished }

-- what the reader gives of the window: of its first `have` bytes, as far as there is room
abbrev pub window_read : List ℕ → List ℕ → Stream → Ran
window_read b out s = read_on (enough (take s.have b)) (room_for out) (take s.have b) header_bytes s.tally

-- the stream once the window is read: what is kept of it, and the bytes of packet records that are done, in 64 bits
abbrev pub onwards : Stream → Ran → Kept → Stream
onwards s r k =
    record {
      have = k.have;
      pass = k.pass;
      longer = k.longer;
      before = (s.before + (r.at - header_bytes)) % 2 ^ 64;
      tally = r.tally;
      said = r.said;
    }

-- a piece that belongs to the packet that is passed over, or is the rest of it
abbrev pub passing : Stream → ℕ → Stream
passing s got =
    record { have = s.have; pass = s.pass - got; longer = s.longer; before = s.before; tally = s.tally; said = s.said }

abbrev pub passed_over : Stream → Stream
passed_over s =
    record { have = s.have; pass = 0; longer = 0; before = (s.before + s.longer) % 2 ^ 64; tally = s.tally; said = s.said }

-- a piece behind the window
abbrev pub grown : Stream → ℕ → Stream
grown s got =
    record { have = s.have + got; pass = s.pass; longer = s.longer; before = s.before; tally = s.tally; said = s.said }

-- buffers and stream afterwards, with the bytes of events in the second buffer
pub record Taken : Type 0 where
  pub buffer : List ℕ
  pub out : List ℕ
  pub answer : Advanced

abbrev pub taken_in : List ℕ → List ℕ → Stream → Taken
taken_in b out s = record { buffer = b; out = out; answer = record { stream = s; filled = 0 } }

-- the window is read and settled
abbrev pub window_done : List ℕ → List ℕ → Stream → Taken
window_done b out s =
    let r = window_read b out s in
    record {
      buffer = settled_buffer b s.have r.at;
      out = written r out;
      answer = record { stream = onwards s r (settled_kept b s.have r.at); filled = (filled_by r).filled };
    }

-- a piece of so many bytes of the packet that is passed over. One that goes beyond that packet isn't taken in
abbrev pub passed_by : List ℕ → List ℕ → Stream → ℕ → Taken
passed_by b out s got =
    cond (nat_lt got s.pass)
    (taken_in b out (passing s got))
    (cond (nat_lt s.pass got) (taken_in b out s) (window_done b out (passed_over s)))

-- a piece of so many bytes, of that packet or behind the window. One that doesn't fit there isn't taken in; until the header is there, nothing
-- is read
unfoldable pub taken : List ℕ → List ℕ → Stream → ℕ → Taken
taken b out s got =
    cond (nat_le (s.have + got) (length b))
    (cond (s.pass == 0)
    (cond (nat_lt (s.have + got) header_bytes) (taken_in b out (grown s got)) (window_done b out (grown s got)))
    (passed_by b out s got))
    (taken_in b out s)

-- the capture's refusal once all has come, 0 where there is none: what the window's header or first record says; else 22 where a packet is passed
-- over and isn't all there
abbrev pub last_said : Said → ℕ
last_said Event = 0
last_said (Skipped why) = 0
last_said Finished = 0
last_said (Refused n) = n

abbrev pub last_refusal : List ℕ → Stream → ℕ
last_refusal b s =
    let n = last_said (step_at (take s.have b) header_bytes s.tally).said in
    cond (n == 0) (cond (s.pass == 0) 0 short_record) n

-- the byte where the refusal stands
unfoldable pub ending : List ℕ → Stream → Ending
ending b s =
    let n = last_refusal b s in
    record { refusal = n; at = cond (n == short_record) ((s.before + header_bytes) % 2 ^ 64) 0 }

-- document 01: "If an answer is an enum, a definition gives this paper's number and values for each of its cases."
abbrev pub stream_of : Coming → Stream
stream_of s =
    record { have = s.have; pass = s.pass; longer = s.longer; before = s.before; tally = s.tally; said = last_of s.said }

abbrev pub advanced_of : Onward → Advanced
advanced_of a = record { stream = stream_of a.stream; filled = a.filled }

abbrev pub ending_of : Option Refused-at → Ending
ending_of None = record { refusal = 0; at = 0 }
ending_of (Some e) = record { refusal = number_of e.refusal; at = e.at }
