-- The user's demand 1: "Every event record and every lent buffer is met with a defined reply. Malformed events, unknown servers, a full roster,
-- unsound rosters, buffers of a wrong length and packets led to a mover not at work are refused by number, and a refusal changes nothing."
-- For every record of bytes and every world: whatever reply and world afterwards satisfy what `event` promises satisfy Demand1 (`demand1` in
-- proofs/Demand1.antt; `demand1_start` for `start`), there is such a reply (`demand1_met`), and no second one (`demand1_one`).
use Rattle.std.specs.Prelude.{ℕ, ◌<◌, ◌≤◌, true, false, List, [], ◌∷◌, ◌≢◌, ◌↔◌, ◌⊎◌, ◌≡◌, length, replicate}
use Rattle.sets.specs.Sets.{member}
use Rattle.roster.specs.Roster.{working_set, horizon, empty_roster}
use Rattle.table.specs.Table.{used, room, server_at, tag_at}
use Rattle.rules.specs.declared.Reply.{Reply}
use Rattle.rules.specs.declared.Reply.TheVariants.{Accepted, Refused}
use Rattle.rules.specs.Answer.{answer_of}
use Rattle.rules.specs.Rules.{World, world_with}
use Rattle.claims_demands.specs.Causes.{kind_in, key_in, server_in, WrongLength, Unsound, Malformed, RecordAt, NoRecord, Given, LedAstray}

-- "Refusal numbers": a number and when it applies
pub record Line : Type 1 where
  pub number : ℕ
  pub when : Type 0

abbrev pub line : ℕ → Type 0 → Line
line n t = record { number = n; when = t }

abbrev pub length_line : World → Line
length_line w = line 9 (WrongLength w)

abbrev pub refusals : List ℕ → World → List Line
refusals bytes w =
    let kind = kind_in bytes in
    let s = server_in bytes in
    let r = w.state.roster in
    length_line w
    -- "roster not in its stated form"
    ∷ line 11 (Unsound r)
    ∷ line 1 (Malformed bytes)
    -- "kinds 3 to 6 with server 0"
    ∷ line 2 ((3 ≤ kind) × (kind ≤ 6) × (s ≡ 0))
    -- "configure while roster or used part is not empty"
    ∷ line 10 ((kind ≡ 7) × ((r.held ≢ 0) ⊎ (used w.state.table ≢ 0)))
    -- "add horizon of a server already working or in the horizon"
    ∷ line 3 ((kind ≡ 5) × ((member s (working_set r) ≡ true) ⊎ (member s (horizon r) ≡ true)))
    -- "add horizon with 64 servers held"
    ∷ line 6 ((kind ≡ 5) × (64 ≤ r.held))
    -- "add working or remove horizon of one not in the horizon"
    ∷ line 4 (((kind ≡ 3) ⊎ (kind ≡ 6)) × (member s (horizon r) ≡ false))
    -- "remove working of one not working"
    ∷ line 5 ((kind ≡ 4) × (member s (working_set r) ≡ false))
    -- "packet with no working server"
    ∷ line 7 ((kind ≡ 1) × (working_set r ≡ []))
    ∷ line 8 ((kind ≡ 1) × LedAstray (key_in bytes) w)
    ∷ []

-- "Tested in this order; the first that applies is given.": n's line applies and no earlier one does; none applies
abbrev pub FirstIs : ℕ → List Line → Type 0
FirstIs n [] = ⊥
FirstIs n (l ∷ ls) = (l.when × (l.number ≡ n)) ⊎ ((l.when → ⊥) × FirstIs n ls)

abbrev pub NoneOf : List Line → Type 0
NoneOf [] = Unit {0}
NoneOf (l ∷ ls) = (l.when → ⊥) × NoneOf ls

-- "2 chosen and safe, 3 chosen and recorded, 4 chosen, unsafe and no room"
pub data ChosenMark (Unsafe : Type 0) (t : List ℕ) : ℕ → Type 0 where
  safe : (Unsafe → ⊥) → ChosenMark Unsafe t 2
  recorded : Unsafe → used t < room t → ChosenMark Unsafe t 3
  no_room : Unsafe → used t ≡ room t → ChosenMark Unsafe t 4

-- server, mark and reads of a packet: "1 from the record"; "the place of the record counted from 1, or all records used before the event when
-- the key has none"
pub data PacketMark (key : List ℕ) (w : World) : ℕ → ℕ → ℕ → Type 1 where
  known : (place : ℕ) → RecordAt key w.state.table place → PacketMark key w (server_at place w.state.table) 1 place
  chosen : NoRecord key w.state.table → (s mark : ℕ) (Unsafe : Type 0) → Given key w s Unsafe
      → ChosenMark Unsafe w.state.table mark → PacketMark key w s mark (used w.state.table)

-- mark and reads of an end: request [1], "The first end on a record now sets its tag to 2 and gives mark 8; the next end removes it with mark
-- 5."; "6 nothing to remove"
pub data EndMark (key t : List ℕ) : ℕ → ℕ → Type 0 where
  first : (place : ℕ) → RecordAt key t place → tag_at place t ≡ 1 → EndMark key t 8 place
  next : (place : ℕ) → RecordAt key t place → tag_at place t ≡ 2 → EndMark key t 5 place
  nothing : NoRecord key t → EndMark key t 6 (used t)

-- server, mark and reads by kind: "Other accepted events carry server, mark and reads 0; so do ends for the server."
pub data MarkRight (kind : ℕ) (key : List ℕ) (w : World) : ℕ → ℕ → ℕ → Type 1 where
  packet : kind ≡ 1 → (s mark reads : ℕ) → PacketMark key w s mark reads → MarkRight kind key w s mark reads
  end : kind ≡ 2 → (mark reads : ℕ) → EndMark key w.state.table mark reads → MarkRight kind key w 0 mark reads
  other : 3 ≤ kind → kind ≤ 7 → MarkRight kind key w 0 0 0

-- "A refusal returns its number, server 0, mark 0, reads 0, and every buffer and the roster stay the same."
pub record RefusedRight (n : ℕ) (before after : World) (reply : Reply) : Type 0 where
  pub told : answer_of reply ≡ record { accepted = false; refusal = n; server = 0; mark = 0; reads = 0 }
  pub unchanged : after ≡ before

pub record Demand1 (bytes : List ℕ) (before after : World) (reply : Reply) : Type 1 where
  -- refused by n exactly when n's line is the first that applies; accepted exactly when none applies
  pub refused : (n : ℕ) → (reply ≡ Refused n) ↔ FirstIs n (refusals bytes before)
  pub accepted : ((s : ℕ) × (mark : ℕ) × (reads : ℕ) × (reply ≡ Accepted s mark reads)) ↔ NoneOf (refusals bytes before)
  -- no other number is ever given
  pub numbers : (n : ℕ) → reply ≡ Refused n → member n (9 ∷ 11 ∷ 1 ∷ 2 ∷ 10 ∷ 3 ∷ 6 ∷ 4 ∷ 5 ∷ 7 ∷ 8 ∷ []) ≡ true
  pub refusal : (n : ℕ) → reply ≡ Refused n → RefusedRight n before after reply
  pub marks : (s mark reads : ℕ) → reply ≡ Accepted s mark reads → MarkRight (kind_in bytes) (key_in bytes) before s mark reads
  pub told : (s mark reads : ℕ) → reply ≡ Accepted s mark reads
      → answer_of reply ≡ record { accepted = true; refusal = 0; server = s; mark = mark; reads = reads }

-- "A start is refused only by 9; accepted, it replies server, mark and reads 0 and leaves rows, flags and ring as they are"; "Starting zeroes
-- the whole table, empties the roster and selects method 1."
pub record Demand1Start (before after : World) (reply : Reply) : Type 0 where
  pub refused : (n : ℕ) → (reply ≡ Refused n) ↔ FirstIs n (length_line before ∷ [])
  pub accepted : (reply ≡ Accepted 0 0 0) ↔ NoneOf (length_line before ∷ [])
  pub leaves : reply ≡ Accepted 0 0 0
      → after ≡ world_with (replicate (length before.state.table) 0) before.state.rows before.state.flags before.ring empty_roster
  pub refusal : (n : ℕ) → reply ≡ Refused n → RefusedRight n before after reply
