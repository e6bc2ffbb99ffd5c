-- What the servers from the index on make of the best so far is the best of them all.
use Rattle.ringplan.proofs.Keys.{Nearing}
use Rattle.ringplan.proofs.substitute.Given as goal

abbrev pub invariant-loop-key : goal.invariant-loop-key
invariant-loop-key l = Nearing l.working l.point l.best l.key-index
