-- `changes::add_horizon` meets its contract.
use Rattle.changes.proofs.ByKind.{add_horizon_done}
use Rattle.changes.proofs.add_horizon.Goals as goal

pub returns-clause-done : goal.returns-clause-done
returns-clause-done c =
    λ t found pick.
    let p = c.args in
    add_horizon_done t p.rows.now.servers.now p.rows.now.flags.now found pick p.r.now p.server _ _ (rw c.state_of.ensures at c.if-state_of-ne0.false) c.if-r-ge-MOST_SERVERS.false c.add_horizon.ensures (c.alter.ensures.done t t p.r.now)
