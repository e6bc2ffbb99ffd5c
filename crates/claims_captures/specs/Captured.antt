-- Request [2], "Feeding in captures": what is proved of reading a capture.
use Rattle.std.specs.Prelude.{ℕ, ◌+◌, ◌*◌, ◌-◌, ◌≤◌, ◌<◌, ◌%◌, ◌^◌, Bool, true, false, cond, ◌⊎◌, ◌≡◌, List, [], ◌∷◌, ◌++◌, eqb, length, take, drop}
use Rattle.event.specs.Event.{event_bytes, packet_kind, end_kind, asks_key, event_in}
use Rattle.frames.specs.Frames.{Outcome, outcome, emitted, link_type, not_ipv4, fragment, other_protocol, cut_short}
use Rattle.pcap.specs.declared.Tally.{Tally}
use Rattle.pcap.specs.Captures.{Said, Event, Skipped, Finished, Refused, header_bytes, counted, packets_in, read_in, counted_in, outcomes_in, events_in, header_refusal, refusal_in, refused_at, nothing, step_at}
use Rattle.pieces.specs.Pieces.{Ran, by_said, read_on, enough, most_read}
use Rattle.claims_captures.specs.Reasons.{ByFirst}

-- "Every skipped packet is counted under exactly one reason, the first that applies": a packet's outcome is one of six numbers. It is that
-- of the first reason that applies, and no other reason is the first; or 0, where none applies
pub record OneReason (ethernet : Bool) (packet : List ℕ) : Type 0 where
  pub known : (outcome ethernet packet).reason ≤ cut_short
  pub by_first : ByFirst ethernet packet

-- "Emitted plus skipped packets equal the packets read, each sum defined from the file"
pub record AddsUp (f : List ℕ) : Type 0 where
  pub adds :
      counted_in emitted f
      + (counted_in link_type f + (counted_in not_ipv4 f + (counted_in fragment f + (counted_in other_protocol f + counted_in cut_short f))))
      ≡ read_in f

-- the sums of packets with these outcomes; and each kept in 64 bits
abbrev pub counts_of : List Outcome → Tally
counts_of os =
    record {
      due = false;
      read = length os;
      emitted = counted emitted os;
      linktype = counted link_type os;
      notipv4 = counted not_ipv4 os;
      fragment = counted fragment os;
      other = counted other_protocol os;
      short = counted cut_short os;
    }

abbrev pub sums_of : List Outcome → Tally
sums_of os =
    record {
      due = false;
      read = length os % 2 ^ 64;
      emitted = counted emitted os % 2 ^ 64;
      linktype = counted link_type os % 2 ^ 64;
      notipv4 = counted not_ipv4 os % 2 ^ 64;
      fragment = counted fragment os % 2 ^ 64;
      other = counted other_protocol os % 2 ^ 64;
      short = counted cut_short os % 2 ^ 64;
    }

-- what the reader says last of a whole file, by the file's refusal: that it has ended, or the refusal
abbrev pub said_at_end : ℕ → Said
said_at_end refusal = cond (eqb refusal 0) Finished (Refused refusal)

-- the reader, called from the first packet on until there is no more, gives the defined events in order, says the defined refusal (or that
-- the capture has ended), stands where a 22 stands (or at the end; before the first packet where the header is refused), and its sums are
-- the defined ones. It needs room for one event more than there are: a reader whose room is used up doesn't look whether the capture has
-- ended. This holds of any list of numbers, bytes or not
pub record ReadsAll (f : List ℕ) (r : Ran) : Type 0 where
  pub events_are : r.events ≡ events_in f
  pub said_is : r.said ≡ said_at_end (refusal_in f)
  pub stands : r.at ≡ cond (eqb (header_refusal f) 0) (refused_at f) header_bytes
  pub sums_are : r.tally ≡ sums_of (outcomes_in f)

abbrev pub Reading : Type 0
Reading = (f : List ℕ) (k : ℕ) → length (events_in f) < k → ReadsAll f (read_on (enough f) k f header_bytes nothing)

-- and nothing else can be read of a file: `ReadsAll` is an equation for each of the four fields of `Ran`, so this follows from its form
abbrev pub OneReading : Type 0
OneReading = (f : List ℕ) (r s : Ran) → ReadsAll f r → ReadsAll f s → r ≡ s

-- in a file of fewer than 2^64 bytes no sum leaves its 64 bits
abbrev pub ReadingExactly : Type 0
ReadingExactly =
    (f : List ℕ) (k : ℕ) → length f < 2 ^ 64 → length (events_in f) < k
    → (read_on (enough f) k f header_bytes nothing).tally ≡ counts_of (outcomes_in f)

-- "The reader stays at its place in the capture between packets": some events and then what follows; and what a reader gives that is called
-- again where it stopped, whose room was used up (it then said `Event`), or that was at its end
abbrev pub with_events : List (List ℕ) → Ran → Ran
with_events es r = record { events = es ++ r.events; said = r.said; at = r.at; tally = r.tally }

abbrev pub continued : Ran → Ran → Ran
continued r more = by_said r.said (with_events r.events more) r r

-- room for k events, then for j more, is room for k + j; with room for k the reader gives the first k events, and fewer only at its end
pub record ReadsOn (k j : ℕ) (f : List ℕ) (at : ℕ) (t : Tally) (r : Ran) : Type 0 where
  pub going_on : read_on (enough f) (k + j) f at t ≡ continued r (read_on (enough f) j f r.at r.tally)
  pub first_events : take k (read_on (enough f) (k + j) f at t).events ≡ r.events
  pub full : r.said ≡ Event → length r.events ≡ k

abbrev pub ReadingOn : Type 0
ReadingOn = (k j : ℕ) (f : List ℕ) (at : ℕ) (t : Tally) → ReadsOn k j f at t (read_on (enough f) k f at t)

-- the reader always moves on: a call that gives an event or passes a packet lowers the number of calls that it can still take, two for each
-- byte ahead and one more where no end is due. More calls than those change nothing
abbrev pub calls_ahead : List ℕ → ℕ → Tally → ℕ
calls_ahead f at t = 2 * (length f - at) + cond t.due 0 1

abbrev pub goes_on : Said → Bool
goes_on Event = true
goes_on (Skipped why) = true
goes_on Finished = false
goes_on (Refused n) = false

pub record MovesOn (f : List ℕ) (at : ℕ) (t : Tally) : Type 0 where
  pub falls : goes_on (step_at f at t).said ≡ true → calls_ahead f (step_at f at t).at (step_at f at t).tally < calls_ahead f at t
  pub ends : (n m k : ℕ) → calls_ahead f at t < n → calls_ahead f at t < m → read_on n k f at t ≡ read_on m k f at t

-- "what was emitted before 22 stands": whatever bytes come behind a capture's, its packets, events and sums stay, and what is added is that
-- of the same header with the unread bytes and those that came. The refusal is that one's too, and stands further on by the records read
abbrev pub carried_on : List ℕ → List ℕ → List ℕ
carried_on f more = take header_bytes f ++ (drop (refused_at f) f ++ more)

pub record Stands (f more : List ℕ) : Type 0 where
  pub packets_go_on : packets_in (f ++ more) ≡ packets_in f ++ packets_in (carried_on f more)
  pub events_go_on : events_in (f ++ more) ≡ events_in f ++ events_in (carried_on f more)
  pub reads_go_on : read_in (f ++ more) ≡ read_in f + read_in (carried_on f more)
  pub sums_go_on : (why : ℕ) → counted_in why (f ++ more) ≡ counted_in why f + counted_in why (carried_on f more)
  pub refusal_goes_on : refusal_in (f ++ more) ≡ refusal_in (carried_on f more)
  pub place_goes_on : refused_at (f ++ more) ≡ (refused_at f - header_bytes) + refused_at (carried_on f more)

abbrev pub BeforeStands : Type 0
BeforeStands = (f more : List ℕ) → header_refusal f ≡ 0 → Stands f more

-- a packet's outcome goes by its first 88 bytes, so that one longer than a buffer can be read by these. Any numbers, bytes or not
abbrev pub FirstBytes : Type 0
FirstBytes = (ethernet : Bool) (packet : List ℕ) → outcome ethernet (take most_read packet) ≡ outcome ethernet packet

-- "turned into event records": each event of a capture is a record of 16 bytes that reads, without a refusal, as a packet or an end of its
-- key
pub record IsEvent (e : List ℕ) : Type 0 where
  pub kind : ℕ
  pub key : List ℕ
  pub of_kind : (kind ≡ packet_kind) ⊎ (kind ≡ end_kind)
  pub key_sized : length key ≡ 13
  pub sized : length e ≡ event_bytes
  pub reads : event_in e ≡ asks_key kind key

abbrev pub Every : (List ℕ → Type 0) → List (List ℕ) → Type 0
Every P [] = Unit {0}
Every P (e ∷ es) = P e × Every P es

abbrev pub EventsRead : Type 0
EventsRead = (f : List ℕ) → Every IsEvent (events_in f)
