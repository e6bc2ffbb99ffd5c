-- `remove_horizon` meets its contract: the server's place is closed in both lists; without a place nothing changes.
use Rattle.std.proofs.Common.{rules, ◌≡◌, length}
use Rattle.roster.specs.Roster.{removed_horizon}
use Rattle.roster.proofs.Places.{is_held, not_held, out_of}
use Rattle.roster.proofs.remove_horizon.Goals as goal

pub returns-in_default : goal.returns-in_default
unfolding removed_horizon
returns-in_default c =
    let r = c.args.r in
    let ws : length r.servers ≡ 64 = search rules in
    let wx : length r.states ≡ 64 = search rules in
    rw (not_held c.args.server r.held c.in_use-n.result r.servers r.states ws wx c.in_use-n.ensures c.in_default.ensures)

pub returns : goal.returns
unfolding removed_horizon
returns c =
    let r = c.args.r in
    let x = c.args.server in
    let n = c.in_use-n.result in
    let e = c.in_use-n.ensures in
    let p = c.in-Some.p in
    let at = c.in-Some.ensures in
    let ws : length r.servers ≡ 64 = search rules in
    let wx : length r.states ≡ 64 = search rules in
    let o1 = out_of x r.held n r.servers r.states ws wx e p at r.servers c.close_with.new.s ws c.close_with.ensures in
    let o2 = out_of x r.held n r.servers r.states ws wx e p at r.states c.close.new.s wx c.close.ensures in
    rw (is_held x r.held n r.servers r.states ws wx e p at, o1, o2)
