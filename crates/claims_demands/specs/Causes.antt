-- Document 01's phrases in its table of refusals, cause by cause, and what a key's record and a method give. Written out by themselves: no test of the
-- rules (`barred`, `sizes_right`, `sound`, `valid`, `event_in`, `find`) is cited, so that a wrong one doesn't prove what Demand1.antt states. Cited, and so to be
-- believed, are the used part, the server and the tag at a place, the entry that a key reads, the two sets and the choice.
use Rattle.std.specs.Prelude.{ℕ, ◌-◌, ◌%◌, ◌^◌, ◌<◌, ◌≤◌, true, false, List, [], ◌∷◌, ◌++◌, ◌≢◌, ◌⊎◌, ◌≡◌, length, get_or, drop}
use Rattle.bigendian.specs.BigEndian.{number2_at, number4_at}
use Rattle.sets.specs.Sets.{member}
use Rattle.hash.specs.Hash.{F}
use Rattle.ranking.specs.Ranking.{Ranking, choice}
use Rattle.ranking.specs.Methods.{hrw}
use Rattle.roster.specs.declared.Roster.{Roster}
use Rattle.roster.specs.Roster.{working, standby, held_servers, held_states, working_set, horizon}
use Rattle.table.specs.Table.{key_of, used_part, used, server_at}
use Rattle.ring.specs.declared.Entry.{Entry}
use Rattle.ring.specs.Ring.{entry_read}
use Rattle.rules.specs.Rules.{World}

-- "Event record, 16 bytes. Byte 0 is the kind"; bytes 3 to 15: "key", or "server 4 big-endian"
abbrev pub kind_in : List ℕ → ℕ
kind_in bytes = get_or bytes 0 0

abbrev pub key_in : List ℕ → List ℕ
key_in bytes = drop 3 bytes

abbrev pub server_in : List ℕ → ℕ
server_in bytes = number4_at bytes 3

-- "bad method or row count": "three methods: 1 HRW, 2 ring, 3 row table"; "Row count is 1 to 4,096 for method 3 and 0 for the others."
pub data BadSettings (method rows : ℕ) : Type 0 where
  unknown_method : method ≢ 1 → method ≢ 2 → method ≢ 3 → BadSettings method rows
  no_rows : method ≡ 3 → rows ≡ 0 → BadSettings method rows
  too_many_rows : method ≡ 3 → 4096 < rows → BadSettings method rows
  needless_rows : method ≢ 3 → rows ≢ 0 → BadSettings method rows

-- 9: "table length 0, above 65,520 or not a multiple of 20; rows or flags not 4,096; ring not 64"
pub data WrongLength (w : World) : Type 0 where
  table_none : length w.state.table ≡ 0 → WrongLength w
  table_long : 65520 < length w.state.table → WrongLength w
  table_odd : length w.state.table % 20 ≢ 0 → WrongLength w
  rows_not : length w.state.rows ≢ 4096 → WrongLength w
  flags_not : length w.state.flags ≢ 4096 → WrongLength w
  ring_not : length w.ring ≢ 64 → WrongLength w

-- 11: "more than 64, out of order, server 0 or twice, a used unused place, bad method or row count"; "each working or in the horizon"
pub data Unsound (r : Roster) : Type 0 where
  too_many : 64 < r.held → Unsound r
  out_of_order : (front : List ℕ) (a b : ℕ) (back : List ℕ) → held_servers r ≡ front ++ (a ∷ b ∷ back) → b < a → Unsound r
  server_zero : member 0 (held_servers r) ≡ true → Unsound r
  twice : (front : List ℕ) (a : ℕ) (back : List ℕ) → held_servers r ≡ front ++ (a ∷ back) → member a back ≡ true → Unsound r
  in_neither : (x : ℕ) → member x (held_states r) ≡ true → x ≢ working → x ≢ standby → Unsound r
  server_unused : (i : ℕ) → r.held ≤ i → get_or r.servers i 0 ≢ 0 → Unsound r
  state_unused : (i : ℕ) → r.held ≤ i → get_or r.states i 0 ≢ 0 → Unsound r
  bad_settings : BadSettings r.settings.method r.settings.rows → Unsound r

-- 1: "event not 16 bytes, unknown kind, non-zero filler, bad method or row count"
pub data Malformed (bytes : List ℕ) : Type 0 where
  not_sixteen : length bytes ≢ 16 → Malformed bytes
  unknown_kind : (kind_in bytes ≡ 0) ⊎ (7 < kind_in bytes) → Malformed bytes
  filler : (i : ℕ) → 1 ≤ i → i ≤ 2 → get_or bytes i 0 ≢ 0 → Malformed bytes
  server_filler : 3 ≤ kind_in bytes → kind_in bytes ≤ 6 → (i : ℕ) → 7 ≤ i → i ≤ 15 → get_or bytes i 0 ≢ 0 → Malformed bytes
  settings_filler : kind_in bytes ≡ 7 → (i : ℕ) → 6 ≤ i → i ≤ 15 → get_or bytes i 0 ≢ 0 → Malformed bytes
  bad_asked : kind_in bytes ≡ 7 → BadSettings (get_or bytes 3 0) (number2_at bytes 4) → Malformed bytes

-- "A key's record is the first used one with that key": at a place counted from 1
abbrev pub HasKey : List ℕ → List ℕ → ℕ → Type 0
HasKey key t i = (i < used t) × (key_of (get_or (used_part t) i []) ≡ key)

pub record RecordAt (key t : List ℕ) (place : ℕ) : Type 0 where
  pub counted : 1 ≤ place
  pub here : HasKey key t (place - 1)
  pub first : (i : ℕ) → i < place - 1 → HasKey key t i → ⊥

abbrev pub NoRecord : List ℕ → List ℕ → Type 0
NoRecord key t = (i : ℕ) → HasKey key t i → ⊥

-- what a key without a record is given, and when the choice is unsafe: "Otherwise the choice over the working set (methods 2 and 3: read from
-- ring or row). If some horizon server outranks the choice (methods 2 and 3: if the flag read is set), it is unsafe"
abbrev pub SomeOutranks : Ranking → Roster → Type 0
SomeOutranks R r = (h : ℕ) × (member h (horizon r) ≡ true) × (R h (choice R (working_set r)) ≡ true)

pub data Given (key : List ℕ) (w : World) : ℕ → Type 0 → Type 1 where
  by_choice : w.state.roster.settings.method ≡ 1
      → Given key w (choice (hrw (F key % 2 ^ 31)) (working_set w.state.roster)) (SomeOutranks (hrw (F key % 2 ^ 31)) w.state.roster)
  from_ring : w.state.roster.settings.method ≡ 2 → (e : Entry) → e ≡ entry_read w.state.roster.held (F key) w.ring
      → Given key w e.server (e.track ≢ 0)
  from_row : w.state.roster.settings.method ≡ 3 → (row : ℕ) → row ≡ F key % w.state.roster.settings.rows
      → Given key w (get_or w.state.rows row 0) (get_or w.state.flags row 0 ≢ 0)

-- 8: "packet whose record, or else whose row or ring entry, names a server that is not working"
pub data LedAstray (key : List ℕ) (w : World) : Type 0 where
  by_record : (place : ℕ) → RecordAt key w.state.table place
      → member (server_at place w.state.table) (working_set w.state.roster) ≡ false → LedAstray key w
  by_row : NoRecord key w.state.table → w.state.roster.settings.method ≡ 3
      → member (get_or w.state.rows (F key % w.state.roster.settings.rows) 0) (working_set w.state.roster) ≡ false → LedAstray key w
  by_entry : NoRecord key w.state.table → w.state.roster.settings.method ≡ 2
      → member (entry_read w.state.roster.held (F key) w.ring).server (working_set w.state.roster) ≡ false → LedAstray key w
