-- What holds along every history from an accepted start: it holds at the start, and no event breaks it.
use Prim.Native.Nat.{ℕ, ◌^◌}
use mathlib.Core.Bool.{true}
use mathlib.Core.List.{List, [], ◌∷◌}
use mathlib.Core.Path.{◌≡◌, refl}
use native.Mathlib.Omega.{arith}
use lib.Dec.{lit<}
use lib.ListN.{length}
use Rattle.sets.specs.Sets.{member}
use Rattle.sets.proofs.Cases.{both, clash}
use Rattle.hash.specs.Hash.{F}
use Rattle.ranking.specs.declared.Pick.{Pick}
use Rattle.ranking.specs.Ranking.{picked}
use Rattle.roster.specs.Roster.{working_set, horizon}
use Rattle.roster.proofs.Form.{empty_sized, empty-sound}
use Rattle.roster.proofs.Bounds.{empty_below}
use Rattle.event.specs.Event.{Request, event_in, all_bytes}
use Rattle.event.proofs.Reading.{Fields, reading}
use Rattle.table.specs.Table.{find}
use Rattle.table.proofs.Records.{entries-started, length-started}
use Rattle.table.proofs.Stray.{clean_started}
use Rattle.ring.specs.Ring.{entry_read}
use Rattle.rules.specs.Rules.{World, Change, judged, refilled, pick_by, sized_for, lent_bar, admitted, settled, event_of, start_of}
use Rattle.claims_histories.specs.Histories.{begins, start_accepted, after, AllBytes, ranking_for, Along}
use Rattle.claims_histories.proofs.Inner.{Inner}
use Rattle.claims_histories.proofs.Picking.{pick_at, pick_right}
use Rattle.claims_histories.proofs.EveryEvent.{Comes, turned, packets, ends, enters, leaves, stands, goes, sets, comes}
use Rattle.claims_histories.proofs.Keeping.{packet_keeps, end_keeps, configured_keeps}
use Rattle.claims_histories.proofs.Changing.{added_working_keeps, removed_working_keeps, added_horizon_keeps, removed_horizon_keeps}

-- whatever an event comes to, what held before it holds after it
module _ (w : World) (i : Inner w) (bytes : List ℕ) (b : all_bytes bytes ≡ true) (e : Request) (f : Fields bytes e) (pick : Pick) where
  comes_keeps : {c : Change} → Comes e (find e.key w.state.table) pick w.state c → Inner (settled c w.ring).world
  comes_keeps (turned n) = i
  comes_keeps (packets k s) = packet_keeps w i e.key pick f.key_sized s
  comes_keeps (ends k) = end_keeps w i e.key
  comes_keeps (enters k s) = added_working_keeps w i e.server s
  comes_keeps (leaves k s) = removed_working_keeps w i e.server s
  comes_keeps (stands k s room) =
      added_horizon_keeps w i e.server (f.server_some (omega arith) (omega arith)) (f.server_small b) room s
  comes_keeps (goes k s) = removed_horizon_keeps w i e.server s
  comes_keeps (sets k none) = configured_keeps w i e.settings f.settings_valid none

  judged_keeps : Inner (settled (judged e (find e.key w.state.table) pick w.state) w.ring).world
  judged_keeps = comes_keeps (comes e (find e.key w.state.table) pick w.state f.kind_known)

-- while sizes and roster are right, an event is judged as its bytes ask
pub event_judged : (w : World) → Along w → (bytes : List ℕ)
    → event_of bytes w
    ≡ settled (judged (event_in bytes) (find (event_in bytes).key w.state.table) (pick_at w (event_in bytes).key) w.state) w.ring
unfolding event_of admitted lent_bar
event_judged w a bytes = rw (a.sized, a.roster_sound)

pub event_keeps : (w : World) → Inner w → (bytes : List ℕ) → all_bytes bytes ≡ true → Inner (event_of bytes w).world
event_keeps w i bytes b = rw (event_judged w i.along bytes) (judged_keeps w i bytes b (event_in bytes) (reading bytes) (pick_at w (event_in bytes).key))

pub start_inner : (w : World) → start_accepted w ≡ true → Inner (begins w)
unfolding start_of refilled
start_inner w a =
    both (sized_for (length w.ring) w.state)
    (λ t. rw (t, begins)
    (record {
      along =
          record {
            sized = rw (length-started w.state.table) t;
            roster_sound = empty-sound;
            distinct = rw (entries-started w.state.table) tt;
            named = rw (entries-started w.state.table) tt;
            clean = clean_started w.state.table;
            rows_right = refl;
            ring_right = λ m. clash m refl;
          };
      places = empty_sized;
      below = empty_below (2 ^ 32) (lit< tt);
    }))
    (λ t. clash (rw (t, start_accepted) at a) refl)

pub inner : (w : World) → start_accepted w ≡ true → (h : List (List ℕ)) → AllBytes h → Inner (after w h)
unfolding after
inner w s [] b = start_inner w s
inner w s (bytes ∷ h) b = event_keeps (after w h) (inner w s h b.1) bytes b.0

pub along : (w : World) → start_accepted w ≡ true → (h : List (List ℕ)) → AllBytes h → Along (after w h)
along w s h b = (inner w s h b).along

-- so a packet without a record is given, along every history, what the ranking of the method in force picks over the sets
pub pick_along : (w : World) → start_accepted w ≡ true → (h : List (List ℕ)) → AllBytes h
    → (key : List ℕ) (s : ℕ) → member s (working_set (after w h).state.roster) ≡ true
    → pick_by (F key) (entry_read (after w h).state.roster.held (F key) (after w h).ring) (after w h).state
    ≡ picked (ranking_for (after w h).state.roster.settings key) (working_set (after w h).state.roster) (horizon (after w h).state.roster)
pick_along w s h b = pick_right (after w h) (inner w s h b)
