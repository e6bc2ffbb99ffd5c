-- Request [2]: a capture of any length in a buffer of one length. The buffer holds a window: the file's header, then packet records as far as
-- they have come. What the reader gives of a window, and what is kept of it for the next one.
use Rattle.std.specs.Prelude.{ℕ, zero, suc, ◌+◌, ◌-◌, ◌*◌, ◌/◌, Bool, false, cond, List, [], ◌∷◌, ◌++◌, length, take, drop, nat_le, nat_lt, slice_range}
use Rattle.spans.specs.Spans.{shifted}
use Rattle.event.specs.Event.{event_bytes}
use Rattle.pcap.specs.declared.Tally.{Tally}
use Rattle.pcap.specs.Captures.{Said, Event, Skipped, Finished, Refused, number_of, low_first, captured, record_size, header_bytes, record_bytes, step_at}
use Rattle.pieces.specs.declared.Stop.{Stop}
use Rattle.pieces.specs.declared.Stop.TheVariants.{Full as full-stop, Finished as end-stop, Refused as refusal-stop}
use Rattle.pieces.specs.declared.LastSaid.{LastSaid}
use Rattle.pieces.specs.declared.LastSaid.TheVariants.{Event as last-event, Skipped as last-skipped, Finished as last-finished, Refused as last-refused}
use Rattle.pieces.specs.declared.Kept.{Kept}
use Rattle.pieces.specs.declared.Filled.{Filled as Put}

-- what a reader has given, and where it is then: the events in order; what it said last; its place and its sums
pub record Ran : Type 0 where
  pub events : List (List ℕ)
  pub said : Said
  pub at : ℕ
  pub tally : Tally

abbrev pub stopped : Said → ℕ → Tally → Ran
stopped said at t = record { events = []; said = said; at = at; tally = t }

abbrev pub with_event : List ℕ → Ran → Ran
with_event e r = record { events = e ∷ r.events; said = r.said; at = r.at; tally = r.tally }

-- by what a call says: the event and what follows; what follows; or the end
abbrev pub by_said : Said → Ran → Ran → Ran → Ran
by_said Event given passed over = given
by_said (Skipped why) given passed over = passed
by_said Finished given passed over = over
by_said (Refused n) given passed over = over

-- the reader, called again and again from a place on, until it says that the capture has ended or is refused, or k events are given (it then
-- says `Event`). There are at most n calls
unfoldable pub read_on : ℕ → ℕ → List ℕ → ℕ → Tally → Ran
read_on zero k f at t = stopped Event at t
read_on (suc n) zero f at t = stopped Event at t
read_on (suc n) (suc k) f at t =
    let s = step_at f at t in
    by_said s.said
    (with_event s.event (read_on n k f s.at s.tally))
    (read_on n (suc k) f s.at s.tally)
    (stopped s.said s.at s.tally)

-- more calls than a capture of so many bytes can take: two for each packet
abbrev pub enough : List ℕ → ℕ
enough f = 2 + 2 * length f

-- the event records that a buffer has room for
abbrev pub room_for : List ℕ → ℕ
room_for out = length out / event_bytes

unfoldable pub joined : List (List ℕ) → List ℕ
joined [] = []
joined (e ∷ es) = e ++ joined es

-- what filling a buffer with event records comes to: the reader's answer, and the buffer. It says `Event` where the buffer is full
pub record Filled : Type 0 where
  pub said : Said
  pub at : ℕ
  pub tally : Tally
  pub filled : ℕ

abbrev pub filled_by : Ran → Filled
filled_by r = record { said = r.said; at = r.at; tally = r.tally; filled = event_bytes * length r.events }

abbrev pub written : Ran → List ℕ → List ℕ
written r out = joined r.events ++ drop (event_bytes * length r.events) out

-- a packet is read by its first 88 bytes: 14 of Ethernet, at most 60 of IPv4, 14 up to TCP's flags
abbrev pub most_read : ℕ
most_read = 88

-- the window, once it is read up to a place: what is behind that moves up to the header. What then stands behind belongs to nothing
abbrev pub carried : List ℕ → ℕ → ℕ → List ℕ
carried b have at = take header_bytes b ++ (shifted (at - header_bytes) (slice_range b header_bytes have) ++ drop have b)

-- a record that the buffer has no room for, and whose first bytes are there, becomes one of those bytes alone: the rest of the packet is
-- passed over when it comes
abbrev pub too_long : List ℕ → ℕ → Bool
too_long b kept =
    cond (nat_lt kept (record_bytes + most_read)) false (nat_lt (length b) (header_bytes + record_size (low_first b) (drop header_bytes b)))

-- 88 in the file's byte order, at the place of the captured length
abbrev pub most_read_bytes : Bool → List ℕ
most_read_bytes low = cond low (most_read ∷ 0 ∷ 0 ∷ 0 ∷ []) (0 ∷ 0 ∷ 0 ∷ most_read ∷ [])

abbrev pub trimmed : List ℕ → List ℕ
trimmed b = take 32 b ++ (most_read_bytes (low_first b) ++ drop 36 b)

-- the places make sense: the header, then what was read, then the window's end, then the buffer's
abbrev pub in_order : List ℕ → ℕ → ℕ → Bool
in_order b have at = cond (nat_le header_bytes at) (cond (nat_le at have) (nat_le have (length b)) false) false

abbrev pub kept_all : ℕ → Kept
kept_all have = record { have = have; pass = 0; longer = 0 }

abbrev pub kept_first : ℕ → List ℕ → Kept
kept_first kept b =
    let low = low_first b in
    let bytes = drop header_bytes b in
    record { have = header_bytes + (record_bytes + most_read); pass = record_size low bytes - kept; longer = captured low bytes - most_read }

unfoldable pub settled_buffer : List ℕ → ℕ → ℕ → List ℕ
settled_buffer b have at =
    cond (in_order b have at)
    (let b' = carried b have at in cond (too_long b' (have - at)) (trimmed b') b')
    b

unfoldable pub settled_kept : List ℕ → ℕ → ℕ → Kept
settled_kept b have at =
    cond (in_order b have at)
    (let b' = carried b have at in cond (too_long b' (have - at)) (kept_first (have - at) b') (kept_all (header_bytes + (have - at))))
    (kept_all have)

-- document 01: "If an answer is an enum, a definition gives this paper's number and values for each of its cases."
abbrev pub stop_said : Stop → Said
stop_said full-stop = Event
stop_said end-stop = Finished
stop_said (refusal-stop r) = Refused (number_of r)

abbrev pub last_of : LastSaid → Said
last_of last-event = Event
last_of (last-skipped why) = Skipped why
last_of last-finished = Finished
last_of (last-refused n) = Refused n

abbrev pub filled_of : Put → Filled
filled_of d = record { said = stop_said d.stop; at = d.at; tally = d.tally; filled = d.filled }
