-- `parts::state_in` meets its contract: the state stands at the server's place, and a server without a place is unknown.
use Rattle.std.proofs.Common.{arith, sym}
use Rattle.lists.proofs.Scans.{found_some, found_none}
use Rattle.roster.proofs.Places.{state_none}
use Rattle.roster.proofs.Lent.{state_here, state_short}
use Rattle.roster.proofs.parts.state_in.Goals as goal

pub returns-in-Some : goal.returns-in-Some
returns-in-Some c =
    let f = found_some c.args.server c.in-Some.p c.args.movers.servers.now c.in-Some.ensures in
    rw (← f.0) (sym (state_here c.args.server c.args.movers.servers.now c.args.movers.states.now (omega (arith, f.0, f.1)) (omega (arith, f.0))))

pub returns-in_default : goal.returns-in_default
returns-in_default c =
    let f = found_some c.args.server c.in-Some.p c.args.movers.servers.now c.in-Some.ensures in
    sym (state_short c.args.server c.args.movers.servers.now c.args.movers.states.now (omega (arith, f.0)))

pub returns-in_default-2 : goal.returns-in_default-2
returns-in_default-2 c =
    sym (state_none c.args.server c.args.movers.servers.now c.args.movers.states.now (found_none c.args.server c.args.movers.servers.now c.in_default.ensures))
