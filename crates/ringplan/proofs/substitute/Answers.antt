use mathlib.Core.Path.{refl}
use native.Mathlib.Omega.{arith}
use Rattle.ringplan.proofs.Keys.{nearing_none, nearing_more, nearing_done}
use Rattle.ringplan.proofs.substitute.Goals as goal

pub loop-key-init : goal.loop-key-init
loop-key-init c = nearing_none c.args.working.now c.args.point

pub loop-key-preserved : goal.loop-key-preserved
loop-key-preserved c =
    let p = c.args in
    let at = c.loop-key in
    nearing_more p.working.now p.point at.best at.key-index at.invariant _ c.position_of.result c.server_of-server.result c.distance-measure.result c.keep.result (omega arith) refl c.position_of.ensures c.distance-measure.ensures c.server_of-server.ensures c.keep.ensures

pub returns : goal.returns
returns c = nearing_done c.args.working.now c.args.point c.loop-key.best c.loop-key.key-index c.loop-key.invariant (omega arith)
