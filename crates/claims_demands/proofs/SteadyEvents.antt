-- What an event can come to, a case for each, with what its acceptance says of the world before it; and every event comes to one of them.
use Prim.Native.Nat.{ℕ, ◌<◌}
use mathlib.Core.Bool.{true, false, not}
use mathlib.Core.List.{List}
use mathlib.Core.Path.{◌≡◌, refl}
use lib.Dec.{eqb, ltb}
use borrow.Author.Tests.{eqb-true, ltb-true, not-true}
use Rattle.sets.proofs.Cases.{both, clash}
use Rattle.roster.specs.Roster.{working, standby, state_of, added_working, removed_working, added_horizon, removed_horizon}
use Rattle.event.specs.Event.{Request, asks_key, event_in}
use Rattle.event.proofs.Reading.{reading}
use Rattle.table.specs.Table.{find, server_at, used, room, appended, removed_server}
use Rattle.table.proofs.Finds.{missing_reads}
use Rattle.rules.specs.Answer.{accepts}
use Rattle.rules.specs.Rules.{World, Change, target, barred, refused, answered, packet, changed, configured, effect, judged}
use Rattle.rules.proofs.Ends.{Ends, ends}
use Rattle.claims_histories.proofs.Picking.{pick_at}
use Rattle.claims_histories.proofs.Barring.{passed}
use Rattle.claims_histories.proofs.EveryEvent.{Comes, turned as turned', packets, ends as ends', enters, leaves, stands, goes as departs, sets, comes}

-- an accepted packet of a key: led to its record's server, or to the pick, and then perhaps recorded
pub data Served (w : World) (key : List ℕ) : Change → Type 0 where
  known : (find key w.state.table).found ≡ true
      → state_of (server_at (find key w.state.table).reads w.state.table) w.state.roster ≡ working
      → Served w key
      (answered
      (accepts (server_at (find key w.state.table).reads w.state.table) 1 (find key w.state.table).reads)
      w.state.table
      w.state)
  safe : (find key w.state.table).found ≡ false → state_of (pick_at w key).server w.state.roster ≡ working → (pick_at w key).flag ≡ false
      → Served w key (answered (accepts (pick_at w key).server 2 (find key w.state.table).reads) w.state.table w.state)
  written : (find key w.state.table).found ≡ false → state_of (pick_at w key).server w.state.roster ≡ working
      → used w.state.table < room w.state.table
      → Served w key
      (answered
      (accepts (pick_at w key).server 3 (used w.state.table))
      (appended key (pick_at w key).server w.state.table)
      w.state)
  full : Served w key (answered (accepts (pick_at w key).server 4 (find key w.state.table).reads) w.state.table w.state)

-- any event
pub data Goes (w : World) (e : Request) : Change → Type 0 where
  turned : (n : ℕ) → Goes w e (refused n w.state)
  served : e.kind ≡ 1 → {c : Change} → Served w e.key c → Goes w e c
  ended : e.kind ≡ 2 → {c : Change} → Ends (find e.key w.state.table) w.state c → Goes w e c
  entered : e.kind ≡ 3 → Goes w e (changed (added_working e.server w.state.roster) w.state.table w.state)
  left : e.kind ≡ 4 → state_of e.server w.state.roster ≡ working
      → Goes w e (changed (removed_working e.server w.state.roster) (removed_server e.server w.state.table) w.state)
  stood : e.kind ≡ 5 → w.state.roster.held < 64
      → Goes w e (changed (added_horizon e.server w.state.roster) w.state.table w.state)
  went : e.kind ≡ 6 → state_of e.server w.state.roster ≡ standby
      → Goes w e (changed (removed_horizon e.server w.state.roster) w.state.table w.state)
  set : e.kind ≡ 7 → w.state.roster.held ≡ 0 → Goes w e (configured e.settings w.state)

-- ---- every event comes to one of these

abbrev pub change_of : World → Request → Change
change_of w e = judged e (find e.key w.state.table) (pick_at w e.key) w.state

module _ (w : World) where
  -- a packet that is led to a working server
  pub served_packet : (key : List ℕ)
      → state_of (target (find key w.state.table) (pick_at w key) w.state) w.state.roster ≡ working
      → Served w key (packet key (find key w.state.table) (pick_at w key) w.state)
  unfolding packet
  served_packet key s =
      let t = w.state.table in
      both (find key t).found (λ a. rw a (known a (rw a at s))) (λ a.
      both (not (pick_at w key).flag)
      (λ b. rw (a, b) (safe a (rw a at s) (not-true (pick_at w key).flag b)))
      (λ b.
      both (ltb (find key t).reads (room t))
      (λ c.
      let u : ltb (used t) (room t) ≡ true = rw (missing_reads key t a) at c in
      rw (a, b, c, missing_reads key t a) (written a (rw a at s) (ltb-true (used t) (room t) u)))
      (λ c. rw (a, b, c) full)))

  going_on : (e : Request) {c : Change} → Comes e (find e.key w.state.table) (pick_at w e.key) w.state c → Goes w e c
  going_on e (turned' n) = turned n
  going_on e (packets k s) = served k (served_packet e.key s)
  going_on e (ends' k) = ended k (ends (find e.key w.state.table) w.state)
  going_on e (enters k s) = entered k
  going_on e (leaves k s) = left k s
  going_on e (stands k s free) = stood k free
  going_on e (departs k s) = went k s
  going_on e (sets k none) = set k none

  -- a packet that is accepted
  pub served_accepted : (key : List ℕ)
      → (change_of w (asks_key 1 key)).answer.accepted ≡ true
      → Served w key (change_of w (asks_key 1 key))
  unfolding judged effect
  served_accepted key a =
      let e = asks_key 1 key in
      let found = find key w.state.table in
      let pick = pick_at w key in
      both (eqb (barred e found pick w.state) 0)
      (λ q. rw q (served_packet key ((passed e found pick w.state (eqb-true (barred e found pick w.state) 0 q)).led refl)))
      (λ q. clash (rw q at a) refl)

-- the event that a record of bytes is
pub goes : (w : World) (bytes : List ℕ) → Goes w (event_in bytes) (change_of w (event_in bytes))
goes w bytes =
    let e = event_in bytes in
    going_on w e (comes e (find e.key w.state.table) (pick_at w e.key) w.state (reading bytes).kind_known)
