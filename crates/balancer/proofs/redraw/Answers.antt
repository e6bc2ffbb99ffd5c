use Rattle.engine.specs.Looking.{redrawn}
use Rattle.balancer.proofs.redraw.Goals as goal

pub returns-then-not-wanted : goal.returns-then-not-wanted
unfolding redrawn
returns-then-not-wanted c = rw c.if-not-wanted.true

pub returns : goal.returns
unfolding redrawn
returns c = rw c.if-not-wanted.false (rw c.draw.ensures (rw c.plan_of-plan.ensures))
