use Rattle.ringplan.proofs.Scans.{collect_here, collect_other, collect_end}
use Rattle.ringplan.proofs.working.Goals as goal

pub loop-server-preserved-then-state-eq-WORKING : goal.loop-server-preserved-then-state-eq-WORKING
loop-server-preserved-then-state-eq-WORKING c =
    let p = c.args in
    let at = c.loop-server in
    collect_here p.movers.servers.now p.movers.states.now at.keys at.held at.server-iterator c.next.new.self c.next.result c.next.ensures.steps at.invariant _ c.in-Some.is c.key.result c.key.ensures c.if-state-eq-WORKING.true

pub loop-server-preserved : goal.loop-server-preserved
loop-server-preserved c =
    let p = c.args in
    let at = c.loop-server in
    collect_other p.movers.servers.now p.movers.states.now at.keys at.held at.server-iterator c.next.new.self c.next.result c.next.ensures.steps at.invariant _ c.in-Some.is c.if-state-eq-WORKING.false

pub returns : goal.returns
returns c =
    let p = c.args in
    let at = c.loop-server in
    collect_end p.movers.servers.now p.movers.states.now at.keys at.held at.server-iterator c.next.new.self c.next.result c.next.ensures.steps at.invariant c.in-None.is
