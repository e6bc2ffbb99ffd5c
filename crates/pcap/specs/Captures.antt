-- Request [2], "Feeding in captures": what any file of bytes holds as a classic capture, and what a reader gives at any place of it.
use Rattle.std.specs.Prelude.{ℕ, zero, suc, ◌+◌, ◌-◌, ◌%◌, ◌^◌, Bool, true, false, cond, List, [], ◌∷◌, ◌++◌, map, length, take, drop, replicate, ◌==◌, nat_le, nat_lt, slice_index, Result, Ok, Err, Option, Some, None}
use Rattle.bigendian.specs.BigEndian.{number4, number4_at}
use Rattle.event.specs.Event.{packet_kind, end_kind, event_bytes}
use Rattle.frames.specs.Frames.{Outcome, outcome, reason_of, emitted, link_type, not_ipv4, fragment, other_protocol, cut_short}
use Rattle.pcap.specs.declared.Refusal.{Refusal}
use Rattle.pcap.specs.declared.Refusal.TheVariants.{BadMagic, TruncatedHeader, TruncatedRecord}
use Rattle.pcap.specs.declared.Said.{Said as Answer}
use Rattle.pcap.specs.declared.Said.TheVariants.{Event as event-given, Skipped as skip-said, Finished as end-said, Refused as refusal-said}
use Rattle.pcap.specs.declared.Tally.{Tally}
use Rattle.pcap.specs.declared.Step.{Step as Taken}

-- what a call of the reader says, in the numbers of the document
pub data Said : Type 0 where
  Event : Said
  Skipped : (why : ℕ) → Said
  Finished : Said
  Refused : (n : ℕ) → Said

-- the answer to a call: what it says, the event record (zeros where there is none), and where the reader is afterwards
pub record Step : Type 0 where
  pub said : Said
  pub event : List ℕ
  pub at : ℕ
  pub tally : Tally

-- "truncated packet record 22"
abbrev pub short_record : ℕ
short_record = 22

-- the file's header has 24 bytes, and each packet's record a header of 16
abbrev pub header_bytes : ℕ
header_bytes = 24

abbrev pub record_bytes : ℕ
record_bytes = 16

-- "both byte orders of the microsecond format": its magic is 0xA1B2C3D4, written with the highest or with the lowest byte first
abbrev pub high_first : List ℕ → Bool
high_first f = number4_at f 0 == 2712847316

abbrev pub low_first : List ℕ → Bool
low_first f = number4_at f 0 == 3569595041

-- the number that the four bytes of a list spell that begin at a place, by whether the lowest byte comes first
abbrev pub number_by : Bool → List ℕ → ℕ → ℕ
number_by low l i = cond low (number4 (slice_index l (i + 3)) (slice_index l (i + 2)) (slice_index l (i + 1)) (slice_index l i)) (number4_at l i)

-- the refusal of the file's header, 0 where it is sound: "bad magic 20, truncated file header 21 (also under 4 bytes) .., in that order"
unfoldable pub header_refusal : List ℕ → ℕ
header_refusal f =
    cond (nat_lt (length f) 4) 21 (cond (cond (low_first f) true (high_first f)) (cond (nat_lt (length f) header_bytes) 21 0) 20)

-- the link type is the header's last number; Ethernet is 1
unfoldable pub ethernet : List ℕ → Bool
ethernet f = number_by (low_first f) f 20 == 1

-- the packet record that bytes begin with: seconds, microseconds, captured length, original length, then the captured bytes
unfoldable pub captured : Bool → List ℕ → ℕ
captured low bytes = number_by low bytes 8

abbrev pub record_size : Bool → List ℕ → ℕ
record_size low bytes = record_bytes + captured low bytes

abbrev pub packet : Bool → List ℕ → List ℕ
packet low bytes = take (captured low bytes) (drop record_bytes bytes)

abbrev pub behind : Bool → List ℕ → List ℕ
behind low bytes = drop (record_size low bytes) bytes

-- all of its bytes are there
unfoldable pub whole : Bool → List ℕ → Bool
whole low bytes = cond (nat_lt (length bytes) record_bytes) false (nat_le (record_size low bytes) (length bytes))

-- the packets of the whole records that bytes begin with, one after the other, and the bytes behind the last of them. There are at most n:
-- no more than there are bytes
unfoldable pub packets : ℕ → Bool → List ℕ → List (List ℕ)
packets zero low bytes = []
packets (suc n) low bytes = cond (whole low bytes) (packet low bytes ∷ packets n low (behind low bytes)) []

unfoldable pub unread : ℕ → Bool → List ℕ → List ℕ
unread zero low bytes = bytes
unread (suc n) low bytes = cond (whole low bytes) (unread n low (behind low bytes)) bytes

-- the packets of a file, in order; of one whose header is refused, none
abbrev pub packets_in : List ℕ → List (List ℕ)
packets_in f = cond (header_refusal f == 0) (packets (length f) (low_first f) (drop header_bytes f)) []

abbrev pub outcomes_in : List ℕ → List Outcome
outcomes_in f = map (outcome (ethernet f)) (packets_in f)

-- document 01: "Event record, 16 bytes. Byte 0 is the kind; bytes 1 and 2 are zero", then the key
abbrev pub event_record : ℕ → List ℕ → List ℕ
event_record kind key = kind ∷ 0 ∷ 0 ∷ key

-- "Each TCP or UDP packet becomes kind 1; a TCP packet with FIN is followed by kind 2."
abbrev pub events_of : Outcome → List (List ℕ)
events_of o =
    cond (o.reason == emitted)
    (event_record packet_kind o.key ∷ cond o.fin (event_record end_kind o.key ∷ []) [])
    []

unfoldable pub all_events : List Outcome → List (List ℕ)
all_events [] = []
all_events (o ∷ os) = events_of o ++ all_events os

abbrev pub events_in : List ℕ → List (List ℕ)
events_in f = all_events (outcomes_in f)

-- how many packets have an outcome: emitted, or skipped for a reason
unfoldable pub counted : ℕ → List Outcome → ℕ
counted why [] = 0
counted why (o ∷ os) = cond (o.reason == why) (suc (counted why os)) (counted why os)

-- "the packets read, each sum defined from the file"
abbrev pub read_in : List ℕ → ℕ
read_in f = length (packets_in f)

abbrev pub counted_in : ℕ → List ℕ → ℕ
counted_in why f = counted why (outcomes_in f)

-- the bytes behind the last whole record
abbrev pub unread_in : List ℕ → List ℕ
unread_in f = unread (length f) (low_first f) (drop header_bytes f)

-- the refusal of a file, 0 where there is none: its header's, or 22 where bytes are left behind the last whole record
unfoldable pub refusal_in : List ℕ → ℕ
refusal_in f = cond (header_refusal f == 0) (cond (length (unread_in f) == 0) 0 short_record) (header_refusal f)

-- the byte where the refusal stands: the first, or the truncated record's first; without a refusal the file's length
unfoldable pub refused_at : List ℕ → ℕ
refused_at f = cond (header_refusal f == 0) (length f - length (unread_in f)) 0

-- "The reader stays at its place in the capture between packets, one event at a time." What it has given before it begins
abbrev pub nothing : Tally
nothing = record { due = false; read = 0; emitted = 0; linktype = 0; notipv4 = 0; fragment = 0; other = 0; short = 0 }

-- a sum with one more where a packet has its outcome; a sum is kept in 64 bits
abbrev pub one_more : Bool → ℕ → ℕ
one_more here n = cond here ((n + 1) % 2 ^ 64) n

-- the sums with one packet more, of an outcome; whether its end is still to come
unfoldable pub with_one : ℕ → Bool → Tally → Tally
with_one why due s =
    record {
      due = due;
      read = one_more true s.read;
      emitted = one_more (why == emitted) s.emitted;
      linktype = one_more (why == link_type) s.linktype;
      notipv4 = one_more (why == not_ipv4) s.notipv4;
      fragment = one_more (why == fragment) s.fragment;
      other = one_more (why == other_protocol) s.other;
      short = one_more (why == cut_short) s.short;
    }

-- the sums as they are, and no end to come
abbrev pub without_end : Tally → Tally
without_end s =
    record {
      due = false;
      read = s.read;
      emitted = s.emitted;
      linktype = s.linktype;
      notipv4 = s.notipv4;
      fragment = s.fragment;
      other = s.other;
      short = s.short;
    }

-- a call that gives no event
abbrev pub silent : Said → ℕ → Tally → Step
silent said at s = record { said = said; event = replicate event_bytes 0; at = at; tally = s }

-- a call that gives one
abbrev pub gives : ℕ → Outcome → ℕ → Tally → Step
gives kind o at s = record { said = Event; event = event_record kind o.key; at = at; tally = s }

-- at a packet: one that is skipped is counted, and passed. Else it is counted and its kind 1 is given; the reader stays where a kind 2 is to
-- follow, and gives that at the next call, without counting the packet again
unfoldable pub meets : Outcome → ℕ → ℕ → Tally → Step
meets o at next s =
    cond (o.reason == emitted)
    (cond o.fin
    (cond s.due (gives end_kind o next (without_end s)) (gives packet_kind o at (with_one emitted true s)))
    (gives packet_kind o next (with_one emitted false s)))
    (silent (Skipped o.reason) next (with_one o.reason false s))

-- at a packet record, where it is whole
unfoldable pub record_at : Bool → Bool → List ℕ → ℕ → Tally → Step
record_at ether low bytes at s =
    cond (whole low bytes) (meets (outcome ether (packet low bytes)) at (at + record_size low bytes) s) (silent (Refused short_record) at s)

-- at a place: the header's refusal; no more bytes; or a packet record
unfoldable pub step_at : List ℕ → ℕ → Tally → Step
step_at f at s =
    cond (header_refusal f == 0)
    (cond (nat_lt at (length f)) (record_at (ethernet f) (low_first f) (drop at f) at s) (silent Finished at s))
    (silent (Refused (header_refusal f)) at s)

-- the refusal at a place, 0 where there is none
unfoldable pub refusal_at : List ℕ → ℕ → ℕ
refusal_at f at =
    cond (header_refusal f == 0)
    (cond (nat_lt at (length f)) (cond (whole (low_first f) (drop at f)) 0 short_record) 0)
    (header_refusal f)

-- document 01: "If an answer is an enum, a definition gives this paper's number and values for each of its cases." A refusal's number is of
-- "bad magic 20, truncated file header 21 .., truncated packet record 22"; 0 where there is none
abbrev pub number_of : Refusal → ℕ
number_of BadMagic = 20
number_of TruncatedHeader = 21
number_of TruncatedRecord = short_record

abbrev pub refusal_of : {A : Type 0} → Result A Refusal → ℕ
refusal_of (Ok x) = 0
refusal_of (Err r) = number_of r

abbrev pub refusal_found : Option Refusal → ℕ
refusal_found None = 0
refusal_found (Some r) = number_of r

abbrev pub said_of : Answer → Said
said_of (event-given e) = Event
said_of (skip-said why) = Skipped (reason_of why)
said_of end-said = Finished
said_of (refusal-said r) = Refused (number_of r)

abbrev pub event_of : Answer → List ℕ
event_of (event-given e) = e
event_of (skip-said why) = replicate event_bytes 0
event_of end-said = replicate event_bytes 0
event_of (refusal-said r) = replicate event_bytes 0

abbrev pub step_of : Taken → Step
step_of s = record { said = said_of s.said; event = event_of s.said; at = s.at; tally = s.tally }
