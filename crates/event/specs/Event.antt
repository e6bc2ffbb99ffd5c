-- Document 01, "Event record, 16 bytes. Byte 0 is the kind; bytes 1 and 2 are zero.": what an event record asks, in the document's numbers.
use Rattle.std.specs.Prelude.{ℕ, Bool, true, false, cond, List, [], ◌∷◌, Result, Ok, Err, eqb, ltb, length, get_or, take, drop, replicate}
use Rattle.bigendian.specs.BigEndian.{number4_at}
use Rattle.spans.specs.Spans.{all_zero}
use Rattle.settings.specs.declared.Settings.{Settings}
use Rattle.settings.specs.Settings.{fresh, named, well_formed, body_bytes}
use Rattle.event.specs.declared.Event.{Event}
use Rattle.event.specs.declared.Event.TheVariants.{Packet, End, AddWorking, RemoveWorking, AddHorizon, RemoveHorizon, Configure}
use Rattle.event.specs.declared.Fault.{Fault}
use Rattle.event.specs.declared.Fault.TheVariants.{Malformed, ServerZero}

-- "Event record, 16 bytes."
abbrev pub event_bytes : ℕ
event_bytes = 16

-- the kinds, as the table of document 01 numbers them
abbrev pub packet_kind : ℕ
packet_kind = 1

abbrev pub end_kind : ℕ
end_kind = 2

abbrev pub add_working_kind : ℕ
add_working_kind = 3

abbrev pub remove_working_kind : ℕ
remove_working_kind = 4

abbrev pub add_horizon_kind : ℕ
add_horizon_kind = 5

abbrev pub remove_horizon_kind : ℕ
remove_horizon_kind = 6

abbrev pub configure_kind : ℕ
configure_kind = 7

-- an event in the document's numbers: its refusal (1 or 2; 0 where it is well formed), its kind (0 where refused), and the key, server or
-- settings where the kind has one (else zeros, 0, and those of a fresh start)
pub record Request : Type 0 where
  pub refusal : ℕ
  pub kind : ℕ
  pub key : List ℕ
  pub server : ℕ
  pub settings : Settings

-- a key is the whole body of its record; events without one have zeros there
abbrev pub no_key : List ℕ
no_key = replicate body_bytes 0

abbrev pub refused_by : ℕ → Request
refused_by n = record { refusal = n; kind = 0; key = no_key; server = 0; settings = fresh }

-- kinds 1 and 2: "key"
abbrev pub asks_key : ℕ → List ℕ → Request
asks_key kind body = record { refusal = 0; kind = kind; key = body; server = 0; settings = fresh }

-- kinds 3 to 6: "server 4 big-endian, then zeros"; refusal 1 for "non-zero filler", then 2 for "kinds 3 to 6 with server 0"
abbrev pub names : ℕ → ℕ → Request
names kind s = record { refusal = 0; kind = kind; key = no_key; server = s; settings = fresh }

unfoldable pub asks_server : ℕ → List ℕ → Request
asks_server kind body =
    cond (all_zero (drop 4 body)) (cond (eqb (number4_at body 0) 0) (refused_by 2) (names kind (number4_at body 0))) (refused_by 1)

-- kind 7: "method 1, row count 2 big-endian, then zeros"; refusal 1 for "non-zero filler, bad method or row count"
abbrev pub configures : Settings → Request
configures s = record { refusal = 0; kind = configure_kind; key = no_key; server = 0; settings = s }

unfoldable pub asks_settings : List ℕ → Request
asks_settings body = cond (well_formed body) (configures (named body)) (refused_by 1)

-- by kind; refusal 1 for an "unknown kind"
unfoldable pub by_kind : ℕ → List ℕ → Request
by_kind kind body =
    cond (eqb kind packet_kind) (asks_key packet_kind body)
    (cond (eqb kind end_kind) (asks_key end_kind body)
    (cond (eqb kind add_working_kind) (asks_server add_working_kind body)
    (cond (eqb kind remove_working_kind) (asks_server remove_working_kind body)
    (cond (eqb kind add_horizon_kind) (asks_server add_horizon_kind body)
    (cond (eqb kind remove_horizon_kind) (asks_server remove_horizon_kind body)
    (cond (eqb kind configure_kind) (asks_settings body)
    (refused_by 1)))))))

-- the event that a record of bytes is; refusal 1 for "event not 16 bytes" and for bytes 1 and 2 that aren't zero
unfoldable pub event_in : List ℕ → Request
event_in record' =
    cond (eqb (length record') event_bytes)
    (cond (all_zero (take 2 (drop 1 record'))) (by_kind (get_or record' 0 0) (drop 3 record')) (refused_by 1))
    (refused_by 1)

-- the document's number and values for each case of the answer
abbrev pub request_by : Event → Request
request_by (Packet key) = asks_key packet_kind key
request_by (End key) = asks_key end_kind key
request_by (AddWorking s) = names add_working_kind s
request_by (RemoveWorking s) = names remove_working_kind s
request_by (AddHorizon s) = names add_horizon_kind s
request_by (RemoveHorizon s) = names remove_horizon_kind s
request_by (Configure c) = configures c

-- refusal 1: "event not 16 bytes, unknown kind, non-zero filler, bad method or row count"; 2: "kinds 3 to 6 with server 0"
abbrev pub fault_number : Fault → ℕ
fault_number Malformed = 1
fault_number ServerZero = 2

abbrev pub request_of : Result Event Fault → Request
request_of (Ok e) = request_by e
request_of (Err f) = refused_by (fault_number f)

-- what a body asks by the server, or by the settings, that is read in it
abbrev pub asked_of : ℕ → Result ℕ Fault → Request
asked_of kind (Ok s) = names kind s
asked_of kind (Err f) = refused_by (fault_number f)

abbrev pub settings_of : Result Settings Fault → Request
settings_of (Ok c) = configures c
settings_of (Err f) = refused_by (fault_number f)

-- every number of a list is a byte
unfoldable pub all_bytes : List ℕ → Bool
all_bytes [] = true
all_bytes (x ∷ xs) = cond (ltb x 256) (all_bytes xs) false
