-- `add_horizon` meets its contract: with fewer than 64 held, server and state are pushed in at the rising place; else nothing changes.
use Rattle.std.proofs.Common.{◌≡◌, ◌<◌, ◌≤◌, length, length-take, arith, rules}
use borrow.Author.Tests.{lt-ltb}
use Rattle.roster.specs.Roster.{added_horizon}
use Rattle.lists.proofs.Moves.{put_in_lem}
use Rattle.roster.proofs.add_horizon.Goals as goal

pub returns : goal.returns
unfolding added_horizon
returns c =
    let r = c.args.r in
    let p = c.before-p.result in
    let at = c.before-p.ensures.count in
    let fits : r.held < 64 = omega arith in
    let inside : p ≤ r.held = omega (arith, c.before-p.ensures.within, length-take r.held r.servers) in
    let ws : length r.servers ≡ 64 = search rules in
    let wx : length r.states ≡ 64 = search rules in
    let o1 = put_in_lem p _ r.held c.args.server r.servers c.push.new.s inside (omega (arith, fits, ws)) at c.push.ensures in
    let o2 = put_in_lem p _ r.held 2 r.states c.push-2.new.s inside (omega (arith, fits, wx)) at c.push-2.ensures in
    rw (lt-ltb r.held 64 fits, o1, o2)
