-- The keys of those that work, of the servers met so far, stand in the first `held` places.
use Rattle.ringplan.proofs.Scans.{Collecting}
use Rattle.ringplan.proofs.working.Given as goal

abbrev pub invariant-loop-server : goal.invariant-loop-server
invariant-loop-server l = Collecting l.movers.servers.now l.movers.states.now l.keys l.held l.server-iterator
