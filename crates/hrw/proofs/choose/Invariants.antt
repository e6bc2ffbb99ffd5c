-- What the servers still to come make of the best so far is the best of them all.
use mathlib.Core.Path.{◌≡◌}
use Rattle.hash.specs.Hash.{weight}
use Rattle.sets.specs.Sets.{in_state}
use Rattle.ranking.specs.Methods.{heavier, hrw}
use Rattle.ranking.specs.Best.{best_of}
use Rattle.ranking.proofs.Loop.{left}
use Rattle.ranking.proofs.Scan.{kept_all}
use Rattle.hrw.proofs.choose.Given as goal

abbrev pub invariant-loop-server : goal.invariant-loop-server
invariant-loop-server l = kept_all heavier (λ s. weight s l.digest) l.best (left 1 l.server-iterator) ≡ best_of (hrw l.digest) (λ s. weight s l.digest) (in_state 1 l.movers.servers.now l.movers.states.now)
