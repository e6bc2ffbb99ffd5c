-- The ring that was too short stays as it was.
use Rattle.std.proofs.Common.{◌≡◌, List, refl, ap, replicate, subst}
use Rattle.ring.specs.declared.Entry.{Entry}
use Rattle.ring.specs.Ring.{blank}
use Rattle.rules.specs.Rules.{world_with, EventPromise}
use Rattle.test_byvalue.proofs.Refused.{short_stays}
use Rattle.test_byvalue.proofs.event_short.Goals as goal

pub returns : goal.returns
returns c =
    let a = c.args in
    let e = c.event in
    let d = c.default-ring.ensures in
    let blank' : c.default-ring.result ≡ blank = λ i. record { position = d.0 i; server = d.1.0 i; track = d.1.1 i } in
    short_stays
    a.record.now
    (world_with a.table.now a.rows.now a.flags.now (replicate 63 blank) a.roster)
    e.new.ring
    e.result
    e.new.table
    e.new.rows
    e.new.flags
    refl
    (subst
    (λ (es : List Entry). EventPromise a.record.now
    (world_with a.table.now a.rows.now a.flags.now es a.roster)
    (world_with e.new.table e.new.rows e.new.flags e.new.ring e.result.roster) e.result.reply)
    (ap (λ (x : Entry). replicate 63 x) blank')
    e.ensures)
