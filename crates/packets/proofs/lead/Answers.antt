-- `packets::lead` meets its contract.
use Rattle.std.proofs.Common.{◌≡◌, false, sym, ap, ◌∙◌}
use Rattle.hash.specs.Hash.{digest}
use Rattle.sets.specs.Sets.{in_state}
use Rattle.ranking.specs.declared.Pick.{Pick}
use Rattle.ranking.specs.Ranking.{picked}
use Rattle.ranking.specs.Methods.{hrw}
use Rattle.roster.specs.Roster.{working_set, horizon}
use Rattle.rows.specs.Lent.{rows_seen}
use Rattle.event.specs.Event.{asks_key}
use Rattle.rules.specs.Rules.{state_with, judged, pick_by, packet}
use Rattle.packets.proofs.OfPackets.{led_nowhere, led_on, chosen_none, chosen_on, pick_read, pick_hrw, best_of}
use Rattle.packets.proofs.lead.Goals as goal

pub returns-then-best-eq0 : goal.returns-then-best-eq0
returns-then-best-eq0 c =
    λ r l s.
    let n = c.in-Nothing.used in
    let p = c.args in
    let st = state_with p.table.now p.rows.servers.now p.rows.flags.now r in
    let got : c.pick-best.result ≡ picked (hrw (digest p.asked.f)) (in_state 1 p.movers.servers.now p.movers.states.now) (in_state 2 p.movers.servers.now p.movers.states.now) =
    rw c.digest.ensures at c.pick-best.ensures in
    let q = best_of (digest p.asked.f) r p.movers.servers.now p.movers.states.now c.pick-best.result l got in
    let h : picked (hrw (digest p.asked.f)) (working_set r) (horizon r) ≡ pick_by p.asked.f p.asked.spot st =
    sym q ∙ pick_hrw p.asked.f p.asked.spot p.table.now p.rows.servers.now p.rows.flags.now r l.sound p.settings s c.pick-best.result p.movers.servers.now p.movers.states.now l c.if-settings-eq-HRW.true got in
    rw c.in-Nothing.is (chosen_none p.asked.key p.table.now p.rows.servers.now p.rows.flags.now (digest p.asked.f) r l.sound n (ap (λ (y : Pick). y.server) (sym q) ∙ c.if-best-eq0.true)
    ∙ ap (λ (y : Pick). judged (asks_key 1 p.asked.key) (record { found = false; reads = n }) y st) h)

pub returns-then-settings-eq-HRW : goal.returns-then-settings-eq-HRW
returns-then-settings-eq-HRW c =
    λ r l s.
    let n = c.in-Nothing.used in
    let p = c.args in
    let st = state_with p.table.now p.rows.servers.now p.rows.flags.now r in
    let got : c.pick-best.result ≡ picked (hrw (digest p.asked.f)) (in_state 1 p.movers.servers.now p.movers.states.now) (in_state 2 p.movers.servers.now p.movers.states.now) =
    rw c.digest.ensures at c.pick-best.ensures in
    let q = best_of (digest p.asked.f) r p.movers.servers.now p.movers.states.now c.pick-best.result l got in
    let h : picked (hrw (digest p.asked.f)) (working_set r) (horizon r) ≡ pick_by p.asked.f p.asked.spot st =
    sym q ∙ pick_hrw p.asked.f p.asked.spot p.table.now p.rows.servers.now p.rows.flags.now r l.sound p.settings s c.pick-best.result p.movers.servers.now p.movers.states.now l c.if-settings-eq-HRW.true got in
    rw c.in-Nothing.is (c.settle.ensures (rows_seen p.rows) r
    ∙ ap (λ (y : Pick). packet p.asked.key (record { found = false; reads = n }) y st) q
    ∙ chosen_on p.asked.key p.table.now p.rows.servers.now p.rows.flags.now (digest p.asked.f) r l.sound n (λ z. c.if-best-eq0.false (ap (λ (y : Pick). y.server) q ∙ z))
    ∙ ap (λ (y : Pick). judged (asks_key 1 p.asked.key) (record { found = false; reads = n }) y st) h)

pub returns-then-state_in-ne-WORKING : goal.returns-then-state_in-ne-WORKING
returns-then-state_in-ne-WORKING c =
    λ r l s.
    let n = c.in-Nothing.used in
    let p = c.args in
    let st = state_with p.table.now p.rows.servers.now p.rows.flags.now r in
    let got = c.read_pick-pick.result in
    let h : got ≡ pick_by p.asked.f p.asked.spot st =
    pick_read p.asked.f p.asked.spot p.table.now p.rows.servers.now p.rows.flags.now r l.sound p.settings s got c.if-settings-eq-HRW.false c.read_pick-pick.ensures in
    rw c.in-Nothing.is (led_nowhere p.asked.key p.table.now p.rows.servers.now p.rows.flags.now got r (record { found = false; reads = n }) p.movers.servers.now p.movers.states.now l _ c.idle.ensures
    (rw c.state_in.ensures at c.if-state_in-ne-WORKING.true)
    ∙ ap (λ (y : Pick). judged (asks_key 1 p.asked.key) (record { found = false; reads = n }) y st) h)

pub returns-in-At : goal.returns-in-At
returns-in-At c =
    λ r l s.
    let p = c.args in
    let st = state_with p.table.now p.rows.servers.now p.rows.flags.now r in
    rw c.in-At.is (c.known.ensures p.asked.key (pick_by p.asked.f p.asked.spot st) (rows_seen p.rows) r l)

pub returns-else-state_in-ne-WORKING : goal.returns-else-state_in-ne-WORKING
returns-else-state_in-ne-WORKING c =
    λ r l s.
    let n = c.in-Nothing.used in
    let p = c.args in
    let st = state_with p.table.now p.rows.servers.now p.rows.flags.now r in
    let got = c.read_pick-pick.result in
    let h : got ≡ pick_by p.asked.f p.asked.spot st =
    pick_read p.asked.f p.asked.spot p.table.now p.rows.servers.now p.rows.flags.now r l.sound p.settings s got c.if-settings-eq-HRW.false c.read_pick-pick.ensures in
    rw c.in-Nothing.is (c.settle-in-Nothing.ensures (rows_seen p.rows) r
    ∙ led_on p.asked.key p.table.now p.rows.servers.now p.rows.flags.now got r (record { found = false; reads = n }) p.movers.servers.now p.movers.states.now l
    (rw c.state_in.ensures at c.if-state_in-ne-WORKING.false)
    ∙ ap (λ (y : Pick). judged (asks_key 1 p.asked.key) (record { found = false; reads = n }) y st) h)
