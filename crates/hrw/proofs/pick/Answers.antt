use Rattle.hash.specs.Hash.{weight}
use Rattle.sets.specs.Sets.{in_state}
use Rattle.ranking.specs.Methods.{heavier}
use Rattle.ranking.proofs.Scan.{pick_none, pick_some}
use Rattle.hrw.proofs.pick.Goals as goal

pub returns-in-Some : goal.returns-in-Some
returns-in-Some c =
    let p = c.args in
    pick_some heavier (λ s. weight s p.digest) (in_state 2 p.movers.servers.now p.movers.states.now) (in_state 1 p.movers.servers.now p.movers.states.now) c.in-Some.best _ c.in-Some.ensures c.outranked.ensures

pub returns-in-None : goal.returns-in-None
returns-in-None c =
    let p = c.args in
    pick_none heavier (λ s. weight s p.digest) (in_state 2 p.movers.servers.now p.movers.states.now) (in_state 1 p.movers.servers.now p.movers.states.now) c.in-None.ensures
