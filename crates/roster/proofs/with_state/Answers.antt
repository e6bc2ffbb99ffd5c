-- `with_state` meets its contract: only the state at the server's place is set, and none where it has no place.
use Rattle.roster.proofs.Places.{write_state, keep_states}
use Rattle.std.proofs.Common.{rules, ◌≡◌, length}
use Rattle.roster.proofs.with_state.Goals as goal

pub returns-in-Some : goal.returns-in-Some
returns-in-Some c =
    let r = c.args.r in
    let ws : length r.servers ≡ 64 = search rules in
    let wx : length r.states ≡ 64 = search rules in
    rw (write_state c.args.server r.held c.in_use.result r.servers r.states ws wx c.in_use.ensures c.in-Some.p c.in-Some.ensures c.args.state)

pub returns-in_default : goal.returns-in_default
returns-in_default c =
    let r = c.args.r in
    let ws : length r.servers ≡ 64 = search rules in
    let wx : length r.states ≡ 64 = search rules in
    rw (← keep_states c.args.server r.held c.in_use.result r.servers r.states ws wx c.in_use.ensures c.in_default.ensures c.args.state)
