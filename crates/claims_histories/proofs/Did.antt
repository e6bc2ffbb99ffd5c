-- What an accepted change of the roster does, along every history, said of the two sets and of the ring and rows in document 01's words: a rule
-- that did something else to them, in definition and code together, would break this.
use Prim.Native.Nat.{ℕ}
use mathlib.Core.Bool.{true, false, not, ◌&&◌, ◌||◌}
use mathlib.Core.List.{List, ◌∷◌}
use mathlib.Core.Logic.{◌≢◌}
use mathlib.Core.Path.{◌≡◌, refl}
use native.Mathlib.Omega.{arith}
use lib.Dec.{eqb}
use borrow.Author.Tests.{eqb-true, eq-eqb, ne_eqb}
use Rattle.sets.specs.Sets.{member}
use Rattle.sets.proofs.Cases.{both, clash}
use Rattle.ranking.specs.declared.Pick.{Pick}
use Rattle.roster.specs.Roster.{working_set, horizon}
use Rattle.roster.proofs.SetChanges.{added_working-working, added_working-horizon, removed_working-working, removed_working-horizon, added_horizon-working, added_horizon-horizon, removed_horizon-working, removed_horizon-horizon}
use Rattle.event.specs.Event.{Request, event_in}
use Rattle.event.proofs.Reading.{reading}
use Rattle.table.specs.Table.{Finding, find, removed_server}
use Rattle.rules.specs.Rules.{World, State, Change, is, barred, effect, judged}
use Rattle.rules.proofs.Still.{packet_still, end_still}
use Rattle.claims_histories.specs.Histories.{start_accepted, after, answer, AllBytes}
use Rattle.claims_histories.proofs.Inner.{Inner}
use Rattle.claims_histories.proofs.Picking.{pick_at}
use Rattle.claims_histories.proofs.Barring.{Passed, passed}
use Rattle.claims_histories.proofs.EveryEvent.{Comes, turned, packets, ends, enters, leaves, stands, goes, sets, comes}
use Rattle.claims_histories.proofs.Along.{event_judged, inner}

-- what an accepted event of kind 3 to 7 leaves of the sets, the table and the settings
pub record Did (e : Request) (before after : State) : Type 0 where
  -- "add working": from the horizon into work
  pub entered : e.kind ≡ 3 → (x : ℕ)
      → (member x (working_set after.roster) ≡ eqb x e.server || member x (working_set before.roster))
      × (member x (horizon after.roster) ≡ not (eqb x e.server) && member x (horizon before.roster))
  -- "A server leaving work goes straight to the horizon."; "Remove working takes away every record naming that server."
  pub left : e.kind ≡ 4 → (x : ℕ)
      → (member x (working_set after.roster) ≡ not (eqb x e.server) && member x (working_set before.roster))
      × (member x (horizon after.roster) ≡ eqb x e.server || member x (horizon before.roster))
      × (after.table ≡ removed_server e.server before.table)
  -- "add horizon" of an unknown server
  pub stood : e.kind ≡ 5 → (x : ℕ)
      → (working_set after.roster ≡ working_set before.roster)
      × (member x (horizon after.roster) ≡ eqb x e.server || member x (horizon before.roster))
  -- "remove horizon"
  pub went : e.kind ≡ 6 → (x : ℕ)
      → (working_set after.roster ≡ working_set before.roster)
      × (member x (horizon after.roster) ≡ not (eqb x e.server) && member x (horizon before.roster))
  -- "it selects the method"
  pub configured : e.kind ≡ 7 → after.roster.settings ≡ e.settings

module _ (e : Request) (found : Finding) (pick : Pick) (st : State) where
  -- an accepted event did what its kind does, and no line barred it
  accepted_did : (judged e found pick st).answer.accepted ≡ true
      → (judged e found pick st ≡ effect e found pick st) × Passed e found pick st
  unfolding judged
  accepted_did =
      both (is 0 e) (λ z. rw z (λ a. clash a refl)) (λ z.
      both (eqb (barred e found pick st) 0)
      (λ b. rw (z, b) (λ a. (refl, passed e found pick st (eqb-true (barred e found pick st) 0 b))))
      (λ b. rw (z, b) (λ a. clash a refl)))

module _ (w : World) (i : Inner w) (bytes : List ℕ) where
  abbrev e : Request
  e = event_in bytes

  abbrev change : Change
  change = judged e (find e.key w.state.table) (pick_at w e.key) w.state

  judged_did : change.answer.accepted ≡ true → Did e w.state change.state
  unfolding effect
  judged_did a =
      let (q, p) = accepted_did e (find e.key w.state.table) (pick_at w e.key) w.state a in
      let r = w.state.roster in
      let s = e.server in
      let so = i.along.roster_sound in
      let z = i.places in
      rw q
      (record {
        entered = λ k x. let t = p.enters (eq-eqb e.kind 3 k) in rw k (added_working-working s r so t x, added_working-horizon s r so t x);
        left = λ k x. let t = p.leaves (eq-eqb e.kind 4 k) in
            rw k (removed_working-working s r so t x, removed_working-horizon s r so t x, refl);
        stood = λ k x.
            let room = p.room (eq-eqb e.kind 5 k) in
            let some = (reading bytes).server_some (omega arith) (omega arith) in
            rw k
            (added_horizon-working s r z so room, added_horizon-horizon s r z so room (λ n. omega arith) (p.unknown (eq-eqb e.kind 5 k)) x);
        went = λ k x. let t = p.goes (eq-eqb e.kind 6 k) in rw k (removed_horizon-working s r z so t, removed_horizon-horizon s r z so t x);
        configured = λ k. rw k;
      })

-- along every history
pub did_along : (w : World) → start_accepted w ≡ true → (h : List (List ℕ)) (bytes : List ℕ) → AllBytes (bytes ∷ h)
    → (answer w h bytes).accepted ≡ true → Did (event_in bytes) (after w h).state (after w (bytes ∷ h)).state
unfolding after
did_along w s h bytes b a =
    let v = after w h in
    let i = inner w s h b.1 in
    let q = event_judged v i.along bytes in
    rw (q, after) (judged_did v i bytes (rw (q, answer) at a))

-- ---- "Methods 1 and 3 don't touch the ring."
module _ (e : Request) (found : Finding) (pick : Pick) (st : State) where
  draws_none : {c : Change} → Comes e found pick st c → c.state.roster.settings.method ≢ 2 → c.redraw ≡ false
  draws_none (turned n) m = refl
  draws_none (packets k t) m = packet_still e.key found pick st
  draws_none (ends k) m = end_still found st
  draws_none (enters k t) m = ne_eqb _ 2 m
  draws_none (leaves k t) m = ne_eqb _ 2 m
  draws_none (stands k t free) m = ne_eqb _ 2 m
  draws_none (goes k t) m = ne_eqb _ 2 m
  draws_none (sets k n) m = refl

pub ring_untouched : (w : World) → start_accepted w ≡ true → (h : List (List ℕ)) (bytes : List ℕ) → AllBytes (bytes ∷ h)
    → (after w (bytes ∷ h)).state.roster.settings.method ≢ 2 → (after w (bytes ∷ h)).ring ≡ (after w h).ring
unfolding after
ring_untouched w s h bytes b m =
    let v = after w h in
    let i = inner w s h b.1 in
    let e = event_in bytes in
    let q = event_judged v i.along bytes in
    let found = find e.key v.state.table in
    let still = draws_none e found (pick_at v e.key) v.state (comes e found (pick_at v e.key) v.state (reading bytes).kind_known) (rw (q, after) at m) in
    rw (q, after, still)
