-- The user's demands 2 and 3, phrase by phrase (demand 1 stands in Demand1.antt). An engine is what can be seen of it; nothing here names a row, a flag or a ring entry.
use Rattle.std.specs.Prelude.{ℕ, ◌+◌, ◌<◌, Bool, true, false, cond, ◌&&◌, List, [], ◌∷◌, ◌++◌, ◌≢◌, ◌↔◌, ◌⊎◌, ◌≡◌, eqb, replicate}
use Rattle.sets.specs.Sets.{member}
use Rattle.spans.specs.Spans.{same}
use Rattle.ranking.specs.Ranking.{Ranking, choice, pick_of, SomeChange}
use Rattle.roster.specs.declared.Roster.{Roster}
use Rattle.roster.specs.Roster.{state_of, working, held_servers, working_set, horizon, empty_roster}
use Rattle.event.specs.Event.{Request, asks_key, event_in}
use Rattle.table.specs.Table.{Rec, entries, find, server_at, used, room, used_part, new_record, appended}
use Rattle.ringplan.specs.Plan.{some}
use Rattle.rules.specs.declared.Reply.{Reply}
use Rattle.rules.specs.Answer.{Answer, accepts, answer_of}
use Rattle.rules.specs.Rules.{World, state_with, Change, judged, EventPromise, StartPromise}
use Rattle.claims_histories.specs.Histories.{after, answer, AllBytes, ranking_for}

-- what is seen of an engine after a history of event records, the newest first: its lent table and the roster it returned; and its
-- answer to the next record
pub record Engine : Type 0 where
  pub table : List (List ℕ) → List ℕ
  pub roster : List (List ℕ) → Roster
  pub says : List (List ℕ) → List ℕ → Answer

-- our engine: what is seen of the balancer, by the rules that the promises of `start` and `event` cite, from any former world w
abbrev pub ours : World → Engine
ours w =
    record {
      table = λ h. (after w h).state.table;
      roster = λ h. (after w h).state.roster;
      says = λ h bytes. answer w h bytes;
    }

-- a balancer in use, whatever its code: the world it was started on, the reply to the start, and after a history of event records the world
-- and its reply to the next record
pub record InUse : Type 0 where
  pub former : World
  pub started : Reply
  pub world : List (List ℕ) → World
  pub reply : List (List ℕ) → List ℕ → Reply

-- "From a fresh start, with buffers and roster that only the balancer alters": the start was accepted, and each call keeps its promise on the
-- world that the call before it left
pub record Keeps (B : InUse) : Type 0 where
  pub accepted : (answer_of B.started).accepted ≡ true
  pub starts : StartPromise B.former (B.world []) B.started
  pub goes : (h : List (List ℕ)) (bytes : List ℕ) → AllBytes (bytes ∷ h)
      → EventPromise bytes (B.world h) (B.world (bytes ∷ h)) (B.reply h bytes)

-- what is seen of it
abbrev pub shown : InUse → Engine
shown B =
    record {
      table = λ h. (B.world h).state.table;
      roster = λ h. (B.world h).state.roster;
      says = λ h bytes. answer_of (B.reply h bytes);
    }

-- ---- demand 2

-- "the mover that the paper's rule gives for the method in force, over the published hash formulas": the key's record, or else the choice
-- of Algorithm 1 over the working set under the ranking of the method in force
abbrev pub ranking_of : Roster → List ℕ → Ranking
ranking_of r key = ranking_for r.settings key

abbrev pub mover : List ℕ → List ℕ → Roster → ℕ
mover key t r =
    cond (find key t).found (server_at (find key t).reads t) (choice (ranking_of r key) (working_set r))

-- "adding some set of horizon movers would change that choice"
abbrev pub Unsafe : List ℕ → Roster → Type 0
Unsafe key r = SomeChange (ranking_of r key) (working_set r) (horizon r)

-- "one is written": there was room, and the used part gains exactly this key with tag 1, zero filler and the mover just given; no other byte changes
pub record Written (key : List ℕ) (s : ℕ) (t t' : List ℕ) : Type 0 where
  pub fits : used t < room t
  pub gains : used_part t' ≡ used_part t ++ (new_record key s ∷ [])
  pub bytes : t' ≡ appended key s t

-- "each packet gets, while any mover works, ..": a packet of a key, the table and roster before it, the answer, the table and roster after it
pub record PacketRight (key t : List ℕ) (r : Roster) (a : Answer) (t' : List ℕ) (r' : Roster) : Type 0 where
  -- accepted, with the mover that the rule gives and the number of used records read
  pub gets : a ≡ accepts (mover key t r) a.mark (find key t).reads
  pub keeps : r' ≡ r
  -- from its record: mark 1
  pub known : (find key t).found ≡ true → (a.mark ≡ 1) × (t' ≡ t)
  -- "With no record for its key, one is written, or lack of room reported, exactly when ..": mark 3 or mark 4
  pub tracked : (find key t).found ≡ false → ((a.mark ≡ 3) ⊎ (a.mark ≡ 4)) ↔ Unsafe key r
  -- else mark 2, and the table stays
  pub safe : (find key t).found ≡ false → (Unsafe key r → ⊥) → (a.mark ≡ 2) × (t' ≡ t)
  -- mark 3 exactly when the record is written
  pub written : (find key t).found ≡ false → (a.mark ≡ 3) ↔ Written key (mover key t r) t t'
  -- mark 4 exactly when besides every place is used; then the table stays
  pub full : (find key t).found ≡ false → (a.mark ≡ 4) ↔ (Unsafe key r × (used t ≡ room t))
  pub full_keeps : (find key t).found ≡ false → a.mark ≡ 4 → t' ≡ t

-- every other event, and a packet while no mover works: exact refusals, marks, reads, table and roster, as the rules give them. They look at
-- no row, flag or ring entry there, so empty ones are handed in.
abbrev pub otherwise : Request → List ℕ → Roster → Change
otherwise e t r =
    judged e (find e.key t) (pick_of 0 false) (state_with t [] [] r)

-- "From a fresh start, with buffers and roster that only the balancer alters": demand 2 of an engine whose table has n bytes
pub record Demand2 (n : ℕ) (E : Engine) : Type 0 where
  pub starts_clear : E.table [] ≡ replicate n 0
  pub starts_empty : E.roster [] ≡ empty_roster
  pub packets : (h : List (List ℕ)) (bytes key : List ℕ) → AllBytes (bytes ∷ h) → event_in bytes ≡ asks_key 1 key
      → some (working_set (E.roster h)) ≡ true
      → PacketRight key (E.table h) (E.roster h) (E.says h bytes) (E.table (bytes ∷ h)) (E.roster (bytes ∷ h))
  pub others : (h : List (List ℕ)) (bytes : List ℕ) → AllBytes (bytes ∷ h)
      → ((key : List ℕ) → event_in bytes ≡ asks_key 1 key → some (working_set (E.roster h)) ≡ true → ⊥)
      → (E.says h bytes ≡ (otherwise (event_in bytes) (E.table h) (E.roster h)).answer)
      × (E.table (bytes ∷ h) ≡ (otherwise (event_in bytes) (E.table h) (E.roster h)).state.table)
      × (E.roster (bytes ∷ h) ≡ (otherwise (event_in bytes) (E.table h) (E.roster h)).state.roster)

-- ---- demand 3

-- something holds at each event between two moments: Q is told the history before the event and the event's record
abbrev pub Throughout : (List (List ℕ) → List ℕ → Type 0) → List (List ℕ) → List (List ℕ) → Type 0
Throughout Q [] h = Unit {0}
Throughout Q (bytes ∷ between) h = Q (between ++ h) bytes × Throughout Q between h

-- a record of bytes is an event of a kind for a key
abbrev pub is_of : ℕ → List ℕ → List ℕ → Bool
is_of kind key bytes = eqb (event_in bytes).kind kind && same (event_in bytes).key key

-- at the event after history g: an accepted end of the key; a packet of the key whose record was written, mark 3
abbrev pub ended : Engine → List ℕ → List (List ℕ) → List ℕ → Bool
ended E key g bytes = is_of 2 key bytes && (E.says g bytes).accepted

abbrev pub record_written : Engine → List ℕ → List (List ℕ) → List ℕ → Bool
record_written E key g bytes = is_of 1 key bytes && eqb (E.says g bytes).mark 3

-- the ends of a key in a history "since the key's record was written", by its events and the answers to them. Of a key that has no record the
-- number says nothing, and isn't asked for.
unfoldable pub ends_since : Engine → List ℕ → List (List ℕ) → ℕ
ends_since E key [] = 0
ends_since E key (bytes ∷ g) =
    cond (record_written E key g bytes) 0 (cond (ended E key g bytes) (ends_since E key g + 1) (ends_since E key g))

-- request [1]'s proviso, at an event between. "fewer than two since the key's record was written": asked of an end that finds a record, so whose
-- mark isn't 6
abbrev pub FewerThanTwo : Engine → List ℕ → List (List ℕ) → List ℕ → Type 0
FewerThanTwo E key g bytes = ended E key g bytes ≡ true → (E.says g bytes).mark ≢ 6 → ends_since E key (bytes ∷ g) < 2

-- "and none for a key without one"
abbrev pub NoneWithout : Engine → List ℕ → List (List ℕ) → List ℕ → Type 0
NoneWithout E key g bytes = ended E key g bytes ≡ true → (E.says g bytes).mark ≢ 6

-- the provisos of demand 3, for a key whose earlier packet, record `earlier` after history h, got mover m, and the records between it and
-- the later packet (the newest first). The one about ends is handed in: `ends_enough` holds with half of it.
pub record ProvisosWith (Ends : List (List ℕ) → List ℕ → Type 0) (E : Engine) (h : List (List ℕ)) (earlier key : List ℕ) (m : ℕ) (between : List (List ℕ)) : Type 0 where
  -- "provided that mover worked throughout"
  pub worked : Throughout (λ g bytes. state_of m (E.roster (bytes ∷ g)) ≡ working) between (earlier ∷ h)
  pub ends : Throughout Ends between (earlier ∷ h)
  -- "every mover brought into work between them was already working or in the horizon at the earlier packet"
  pub held : Throughout
      (λ g bytes. (x : ℕ) → member x (working_set (E.roster (bytes ∷ g))) ≡ true → member x (working_set (E.roster g)) ≡ false
      → member x (held_servers (E.roster h)) ≡ true)
      between
      (earlier ∷ h)
  -- "and the earlier packet wasn't told there was no room"
  pub room_told : (E.says h earlier).mark ≢ 4

-- with both halves of request [1]'s
abbrev pub Provisos : Engine → List (List ℕ) → List ℕ → List ℕ → ℕ → List (List ℕ) → Type 0
Provisos E h earlier key m between = ProvisosWith (λ g bytes. FewerThanTwo E key g bytes × NoneWithout E key g bytes) E h earlier key m between

-- "get the same mover": the later packet is accepted and gives the earlier one's mover, which at both is demand 2's, over its ranking
pub record SameMover (E : Engine) (h between : List (List ℕ)) (earlier later key : List ℕ) : Type 0 where
  pub accepted : (E.says (between ++ (earlier ∷ h)) later).accepted ≡ true
  pub same : (E.says (between ++ (earlier ∷ h)) later).server ≡ (E.says h earlier).server
  pub first : (E.says h earlier).server ≡ mover key (E.table h) (E.roster h)
  pub last : (E.says (between ++ (earlier ∷ h)) later).server
      ≡ mover key (E.table (between ++ (earlier ∷ h))) (E.roster (between ++ (earlier ∷ h)))

-- "two successive packets of one key get the same mover, provided" Q, which is asked of the history before the earlier packet, that packet, its
-- key and mover, and the records between
abbrev pub Steady : (List (List ℕ) → List ℕ → List ℕ → ℕ → List (List ℕ) → Type 0) → Engine → Type 0
Steady Q E =
    (h between : List (List ℕ)) (earlier later key : List ℕ) → AllBytes (later ∷ (between ++ (earlier ∷ h)))
    → event_in earlier ≡ asks_key 1 key → event_in later ≡ asks_key 1 key → (E.says h earlier).accepted ≡ true
    → Q h earlier key (E.says h earlier).server between → SameMover E h between earlier later key

pub record Demand3 (E : Engine) : Type 0 where
  -- "no key is recorded twice": of two records in the used part the keys differ
  pub once : (h : List (List ℕ)) → AllBytes h → (front middle back : List Rec) (r r' : Rec)
      → entries (E.table h) ≡ front ++ (r ∷ (middle ++ (r' ∷ back))) → r.key ≢ r'.key
  -- "and every record names a working mover"
  pub named : (h : List (List ℕ)) → AllBytes h → (front back : List Rec) (r : Rec) → entries (E.table h) ≡ front ++ (r ∷ back)
      → state_of r.server (E.roster h) ≡ working
  -- "And two successive packets of one key get the same mover, provided .."
  pub steady : Steady (Provisos E) E
