use native.Mathlib.Omega.{arith}
use Rattle.table.proofs.Removals.{sift_start, sift_keep, sift_skip, sift_end}
use Rattle.table.proofs.remove_server.Goals as goal

pub loop-i-init : goal.loop-i-init
loop-i-init c = sift_start c.args.table.now c.args.server c.used-n.result c.used-n.ensures

pub loop-i-preserved : goal.loop-i-preserved
loop-i-preserved c =
    let p = c.args in
    let keep = sift_keep p.table.now p.server c.used-n.result c.loop-i.table c.loop-i.kept c.loop-i.i c.loop-i.invariant (omega arith) in
    let skip = sift_skip p.table.now p.server c.used-n.result c.loop-i.table c.loop-i.kept c.loop-i.i c.loop-i.invariant (omega arith) in
    grind (arith, keep, skip)

pub returns : goal.returns
returns c =
    let p = c.args in
    sift_end p.table.now p.server c.used-n.result c.loop-i.table c.loop-i.kept c.loop-i.i c.clear.new.s c.loop-i.invariant (omega arith) c.clear.ensures
