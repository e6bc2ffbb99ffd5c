-- Document 01, "What each event does" and "Refusal numbers": what an event record does to the lent buffers and the roster, for every input.
use Rattle.std.specs.Prelude.{ℕ, ◌%◌, Bool, false, cond, not, ◌&&◌, ◌||◌, List, ◌≡◌, eqb, leb, ltb, length}
use Rattle.hash.specs.Hash.{F, digest}
use Rattle.ranking.specs.declared.Pick.{Pick}
use Rattle.ranking.specs.Ranking.{picked}
use Rattle.ranking.specs.Methods.{hrw}
use Rattle.settings.specs.declared.Settings.{Settings}
use Rattle.settings.specs.Settings.{by_ring, by_row_table}
use Rattle.roster.specs.declared.Roster.{Roster}
use Rattle.roster.specs.Roster.{most_servers, sound, working, standby, state_of, working_set, horizon, held_servers, added_working, removed_working, added_horizon, removed_horizon, empty_roster}
use Rattle.event.specs.Event.{Request, refused_by, event_in, packet_kind, end_kind, add_working_kind, remove_working_kind, add_horizon_kind, remove_horizon_kind, configure_kind}
use Rattle.table.specs.Table.{record_bytes, most_table_bytes, new_tag, Finding, find, server_at, tag_at, room, used, written_after, half_closed, removed, removed_server, started}
use Rattle.rows.specs.Rows.{row_places, Rows, filled, cleared, row_read}
use Rattle.ring.specs.declared.Entry.{Entry}
use Rattle.ring.specs.Ring.{ring_places, entry_read, gives}
use Rattle.ringplan.specs.Plan.{some, drawn}
use Rattle.rules.specs.declared.Reply.{Reply}
use Rattle.rules.specs.Answer.{Answer, accepts, refuses, answer_of, from_record, chosen_safe, chosen_recorded, no_room, record_removed, nothing_to_remove, record_half_closed}

-- the lent buffers but the ring, and the roster
pub record State : Type 0 where
  pub table : List ℕ
  pub rows : List ℕ
  pub flags : List ℕ
  pub roster : Roster

abbrev pub state_with : List ℕ → List ℕ → List ℕ → Roster → State
state_with t rows flags r = record { table = t; rows = rows; flags = flags; roster = r }

-- all that an event meets and leaves: the lent buffers, the ring and the roster
pub record World : Type 0 where
  pub state : State
  pub ring : List Entry

abbrev pub world_with : List ℕ → List ℕ → List ℕ → List Entry → Roster → World
world_with t rows flags ring r = record { state = state_with t rows flags r; ring = ring }

-- what an event comes to: the answer, the state afterwards, and whether the ring is drawn anew for the roster afterwards
pub record Change : Type 0 where
  pub answer : Answer
  pub state : State
  pub redraw : Bool

-- ---- the refusal table

-- the first test that applies gives its number; 0: none of these applies
abbrev pub first : Bool → ℕ → ℕ → ℕ
first applies n others = cond applies n others

-- refusal 9, turned round: "table length 0, above 65,520 or not a multiple of 20; rows or flags not 4,096; ring not 64"
unfoldable pub sizes_right : ℕ → ℕ → ℕ → ℕ → Bool
sizes_right tableLength rowsLength flagsLength ringLength =
    cond (eqb tableLength 0) false
    (cond (leb tableLength most_table_bytes)
    (cond (eqb (tableLength % record_bytes) 0)
    (cond (eqb rowsLength row_places)
    (cond (eqb flagsLength row_places) (eqb ringLength ring_places) false) false) false) false)

-- what is lent bars every event: 9, then 11; 0 where neither does
unfoldable pub lent_bar : Bool → Bool → ℕ
lent_bar sized roster_sound = first (not sized) 9 (first (not roster_sound) 11 0)

-- an event that what is lent bars by a number; else the event, whose record may have a refusal of its own: 1 or 2
unfoldable pub admitted : ℕ → Request → Request
admitted n e = cond (eqb n 0) e (refused_by n)

-- the event is of a kind; a refused one is of kind 0
abbrev pub is : ℕ → Request → Bool
is kind e = eqb e.kind kind

-- "configure while roster or used part is not empty"
abbrev pub empty : State → Bool
empty st = eqb st.roster.held 0 && eqb (used st.table) 0

-- the server that a packet is led to: its record's, or else the one that the method gives
abbrev pub target : Finding → Pick → State → ℕ
target found pick st = cond found.found (server_at found.reads st.table) pick.server

-- refusals 10, 3, 6, 4, 5, 7, 8, in this order
unfoldable pub barred : Request → Finding → Pick → State → ℕ
barred e found pick st =
    first (is configure_kind e && not (empty st)) 10
    (first (is add_horizon_kind e && not (eqb (state_of e.server st.roster) 0)) 3
    (first (is add_horizon_kind e && leb most_servers st.roster.held) 6
    (first ((is add_working_kind e || is remove_horizon_kind e) && not (eqb (state_of e.server st.roster) standby)) 4
    (first (is remove_working_kind e && not (eqb (state_of e.server st.roster) working)) 5
    (first (is packet_kind e && not (some (working_set st.roster))) 7
    (first (is packet_kind e && not (eqb (state_of (target found pick st) st.roster) working)) 8
    0))))))

-- ---- what each accepted event does

-- "A refusal returns its number, server 0, mark 0, reads 0, and every buffer and the roster stay the same."
abbrev pub refused : ℕ → State → Change
refused n st = record { answer = refuses n; state = st; redraw = false }

abbrev pub with_table : List ℕ → State → State
with_table t st = state_with t st.rows st.flags st.roster

abbrev pub answered : Answer → List ℕ → State → Change
answered a t st = record { answer = a; state = with_table t st; redraw = false }

-- "if the key has a record, its server. Otherwise the choice .. If .. it is unsafe [it] is recorded where there is room." Marks 1, 2, 3, 4.
unfoldable pub packet : List ℕ → Finding → Pick → State → Change
packet key found pick st =
    cond found.found
    (answered (accepts (server_at found.reads st.table) from_record found.reads) st.table st)
    (cond (not pick.flag)
    (answered (accepts pick.server chosen_safe found.reads) st.table st)
    (cond (ltb found.reads (room st.table))
    (answered (accepts pick.server chosen_recorded found.reads) (written_after found.reads key pick.server st.table) st)
    (answered (accepts pick.server no_room found.reads) st.table st)))

-- Request [1]: "The first end on a record now sets its tag to 2 and gives mark 8; the next end removes it with mark 5." With no record mark 6.
unfoldable pub end : Finding → State → Change
end found st =
    cond found.found
    (cond (eqb (tag_at found.reads st.table) new_tag)
    (answered (accepts 0 record_half_closed found.reads) (half_closed found.reads st.table) st)
    (answered (accepts 0 record_removed found.reads) (removed found.reads st.table) st))
    (answered (accepts 0 nothing_to_remove found.reads) st.table st)

-- the rows of a roster whose method is 3 hold what its sets give; "under methods 1 and 2 none is [touched]"
abbrev pub rows_of : State → Rows
rows_of st = record { servers = st.rows; flags = st.flags }

unfoldable pub refilled : Roster → Rows → Rows
refilled r rows = cond (eqb r.settings.method by_row_table) (filled r.settings.rows (working_set r) (horizon r) rows) rows

-- "Other accepted events carry server, mark and reads 0"
abbrev pub taken : Bool → State → Change
taken redraw st = record { answer = accepts 0 0 0; state = st; redraw = redraw }

-- an accepted roster change: "the rows or entries in use hold exactly what the new sets give". "Methods 1 and 3 don't touch the ring."
abbrev pub changed : Roster → List ℕ → State → Change
changed r t st =
    taken (eqb r.settings.method by_ring) (state_with t (refilled r (rows_of st)).servers (refilled r (rows_of st)).flags r)

-- "it selects the method and zeroes the rows it counts and their flags"
abbrev pub with_settings : Settings → Roster → Roster
with_settings c r = record { servers = r.servers; states = r.states; held = r.held; settings = c }

abbrev pub configured : Settings → State → Change
configured c st =
    taken false
    (state_with st.table (cleared c.rows (rows_of st)).servers (cleared c.rows (rows_of st)).flags (with_settings c st.roster))

-- by kind; "Remove working takes away every record naming that server."
unfoldable pub effect : Request → Finding → Pick → State → Change
effect e found pick st =
    cond (is packet_kind e) (packet e.key found pick st)
    (cond (is end_kind e) (end found st)
    (cond (is add_working_kind e) (changed (added_working e.server st.roster) st.table st)
    (cond (is remove_working_kind e) (changed (removed_working e.server st.roster) (removed_server e.server st.table) st)
    (cond (is add_horizon_kind e) (changed (added_horizon e.server st.roster) st.table st)
    (cond (is remove_horizon_kind e) (changed (removed_horizon e.server st.roster) st.table st)
    (configured e.settings st))))))

-- "Tested in this order; the first that applies is given."
unfoldable pub judged : Request → Finding → Pick → State → Change
judged e found pick st =
    cond (is 0 e) (refused e.refusal st)
    (cond (eqb (barred e found pick st) 0) (effect e found pick st) (refused (barred e found pick st) st))

-- ---- an event

-- what the method gives a packet without a record: "the choice over the working set (methods 2 and 3: read from ring or row)". f is F(key), spot the ring's entry
unfoldable pub pick_by : ℕ → Entry → State → Pick
pick_by f spot st =
    cond (eqb st.roster.settings.method by_row_table)
    (row_read st.roster.settings.rows f (rows_of st))
    (cond (eqb st.roster.settings.method by_ring)
    (gives spot)
    (picked (hrw (digest f)) (working_set st.roster) (horizon st.roster)))

abbrev pub sized_for : ℕ → State → Bool
sized_for ringLength st = sizes_right (length st.table) (length st.rows) (length st.flags) ringLength

-- all that an event leaves: the answer, and the world afterwards
pub record Done : Type 0 where
  pub answer : Answer
  pub world : World

-- "Entries in use equal the roster's size; the rest stay as they are."
abbrev pub settled : Change → List Entry → Done
settled c ring =
    record {
      answer = c.answer;
      world =
          record {
            state = c.state;
            ring = cond c.redraw (drawn (held_servers c.state.roster) (working_set c.state.roster) ring) ring;
          };
    }

-- an event record of bytes meets a world
unfoldable pub event_of : List ℕ → World → Done
event_of bytes w =
    let st = w.state in
    let e = admitted (lent_bar (sized_for (length w.ring) st) (sound st.roster)) (event_in bytes) in
    let f = F e.key in
    let found = find e.key st.table in
    let pick = pick_by f (entry_read st.roster.held f w.ring) st in
    settled (judged e found pick st) w.ring

-- "Starting zeroes the whole table, empties the roster and selects method 1"; "A start is refused only by 9; accepted, it replies server,
-- mark and reads 0 and leaves rows, flags and ring as they are."
unfoldable pub start_of : World → Done
start_of w =
    let st = w.state in
    cond (sized_for (length w.ring) st)
    (record { answer = accepts 0 0 0; world = world_with (started st.table) st.rows st.flags w.ring empty_roster })
    (record { answer = refuses 9; world = w })

-- ---- what the public functions promise: the reply and the world afterwards, from the world before

-- `event` on a record of bytes
abbrev pub EventPromise : List ℕ → World → World → Reply → Type 0
EventPromise bytes before after reply = record { answer = answer_of reply; world = after } ≡ event_of bytes before

-- `start`
abbrev pub StartPromise : World → World → Reply → Type 0
StartPromise before after reply = record { answer = answer_of reply; world = after } ≡ start_of before
