use mathlib.Core.Path.{◌≡◌}
use Rattle.sets.specs.Sets.{in_state}
use Rattle.hash.specs.Hash.{weight}
use Rattle.ranking.specs.Methods.{heavier}
use Rattle.ranking.proofs.Loop.{left, left_here, left_other, left_end}
use Rattle.ranking.proofs.Scan.{kept_all, kept_all_best}
use Rattle.hrw.proofs.choose.Goals as goal

pub loop-server-init : goal.loop-server-init
loop-server-init c =
    let p = c.args in
    let e : left 1 c.into_iter-server-iterator.result ≡ in_state 1 p.movers.servers.now p.movers.states.now = cc in
    rw e (kept_all_best heavier (λ s. weight s p.digest) (in_state 1 p.movers.servers.now p.movers.states.now))

pub loop-server-preserved-then-works : goal.loop-server-preserved-then-works
unfolding kept_all
loop-server-preserved-then-works c =
    let e = left_here 1 c.loop-server.server-iterator c.next.new.self c.next.result c.next.ensures.steps _ c.in-Some.is c.if-works.true in
    rw (c.keep.ensures, c.weight-measure.ensures) (rw e at c.loop-server.invariant)

pub loop-server-preserved : goal.loop-server-preserved
loop-server-preserved c =
    let e = left_other 1 c.loop-server.server-iterator c.next.new.self c.next.result c.next.ensures.steps _ c.in-Some.is c.if-works.false in
    rw e at c.loop-server.invariant

pub returns : goal.returns
unfolding kept_all
returns c =
    let e = left_end 1 c.loop-server.server-iterator c.next.new.self c.next.result c.next.ensures.steps c.in-None.is in
    rw e at c.loop-server.invariant
