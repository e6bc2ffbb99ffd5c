-- Our engine obeys demand 2, from any former world whose start is accepted.
use Prim.Native.Nat.{ℕ}
use mathlib.Core.Bool.{true, false, ◌&&◌}
use mathlib.Core.List.{List, []}
use mathlib.Core.Path.{◌≡◌, sym, ap, ◌∙◌}
use lib.ListN.{length}
use Rattle.sets.proofs.Cases.{both, not_so}
use Rattle.ranking.specs.Ranking.{pick_of, picked}
use Rattle.roster.specs.Roster.{working_set, horizon, empty_roster}
use Rattle.event.specs.Event.{asks_key, event_in}
use Rattle.event.proofs.Reading.{reading}
use Rattle.table.specs.Table.{find, started}
use Rattle.ringplan.specs.Plan.{some}
use Rattle.ringplan.proofs.Members.{some-member}
use Rattle.rules.specs.Rules.{World, world_with, Done, is, sized_for, start_of, event_of, judged, packet, barred, effect}
use Rattle.claims_histories.specs.Histories.{begins, start_accepted, after}
use Rattle.claims_histories.proofs.Inner.{Inner}
use Rattle.claims_histories.proofs.Picking.{pick_at, pick_right}
use Rattle.claims_histories.proofs.Along.{event_judged, inner}
use Rattle.claims_histories.proofs.Never.{target_works}
use Rattle.claims_demands.specs.Demands.{ours, ranking_of, PacketRight, otherwise, Demand2}
use Rattle.claims_demands.proofs.Packets.{packet_right}
use Rattle.claims_demands.proofs.Others.{asked-packet, judged-same}

module _ (w : World) (i : Inner w) where
  -- a packet while some server works is let through, and its pick is the ranking's
  packet-judged : (key : List ℕ) → some (working_set w.state.roster) ≡ true
      → judged (asks_key 1 key) (find key w.state.table) (pick_at w key) w.state
      ≡ packet key (find key w.state.table) (picked (ranking_of w.state.roster key) (working_set w.state.roster) (horizon w.state.roster)) w.state
  unfolding judged barred effect
  packet-judged key works =
      let (s, m) = some-member (working_set w.state.roster) works in
      rw (works, target_works w i key s m, pick_right w i key s m)

  module _ (bytes : List ℕ) where
    abbrev done : Done
    done = event_of bytes w

    packet_seen : (key : List ℕ) → event_in bytes ≡ asks_key 1 key → some (working_set w.state.roster) ≡ true
        → PacketRight key w.state.table w.state.roster done.answer done.world.state.table done.world.state.roster
    packet_seen key e works =
        let (s, m) = some-member (working_set w.state.roster) works in
        let sized : length key ≡ 13 = rw e at (reading bytes).key_sized in
        rw (event_judged w i.along bytes, e, packet-judged key works)
        (packet_right key w.state s m sized i.along.clean)

    other-seen : ((key : List ℕ) → event_in bytes ≡ asks_key 1 key → some (working_set w.state.roster) ≡ true → ⊥)
        → let c = otherwise (event_in bytes) w.state.table w.state.roster in
        (done.answer ≡ c.answer) × (done.world.state.table ≡ c.state.table) × (done.world.state.roster ≡ c.state.roster)
    other-seen n =
        let e = event_in bytes in
        let none : is 1 e && some (working_set w.state.roster) ≡ false =
        both (is 1 e) (λ k. rw k (not_so (λ works. n e.key (asked-packet bytes k) works))) (λ k. rw k) in
        let same = judged-same e (find e.key w.state.table) (pick_at w e.key) (pick_of 0 false) w.state [] [] none in
        rw (event_judged w i.along bytes) (same.answer, same.table, same.roster)

-- a start is accepted exactly where the sizes are right
pub start_sizes : (w : World) → start_accepted w ≡ sized_for (length w.ring) w.state
unfolding start_of
start_sizes w = both (sized_for (length w.ring) w.state) (λ t. rw (t, start_accepted)) (λ t. rw (t, start_accepted))

-- what an accepted start leaves
module _ (w : World) (a : start_accepted w ≡ true) where
  start_sized : sized_for (length w.ring) w.state ≡ true
  start_sized = sym (start_sizes w) ∙ a

  start_leaves : after w [] ≡ world_with (started w.state.table) w.state.rows w.state.flags w.ring empty_roster
  unfolding after start_of
  start_leaves = rw (start_sized, after, begins)

  pub ours_obeys : Demand2 (length w.state.table) (ours w)
  unfolding after
  ours_obeys =
      record {
        starts_clear = ap (λ (v : World). v.state.table) start_leaves;
        starts_empty = ap (λ (v : World). v.state.roster) start_leaves;
        packets = λ h bytes key b. packet_seen (after w h) (inner w a h b.1) bytes key;
        others = λ h bytes b. other-seen (after w h) (inner w a h b.1) bytes;
      }
