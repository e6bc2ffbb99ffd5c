-- The parts put together are the event's rules.
use Rattle.std.proofs.Common.{rules, ◌≡◌, length}
use Rattle.rows.specs.Lent.{rows_in}
use Rattle.rules.specs.Rules.{world_with}
use Rattle.engine.proofs.Whole.{whole_event}
use Rattle.balancer.proofs.event.Goals as goal

pub returns : goal.returns
returns c =
    let a = c.args in
    let sized : length c.react-out.result.roster.servers ≡ 64 = search rules in
    let told = whole_event
    a.record.now
    (world_with a.table.now a.rows.now a.flags.now a.ring.now a.roster)
    c.look-seen.result
    c.read-spot.result
    c.react-out.result
    c.react-out.new.table
    (rows_in c.react-out.new.rows)
    c.redraw.new.ring
    sized
    c.look-seen.ensures
    c.read-spot.ensures
    c.react-out.ensures.done
    c.redraw.ensures in
    search rules
