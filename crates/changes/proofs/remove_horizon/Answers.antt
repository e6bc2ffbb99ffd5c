-- `changes::remove_horizon` meets its contract.
use Rattle.changes.proofs.ByKind.{remove_horizon_done}
use Rattle.changes.proofs.remove_horizon.Goals as goal

pub returns-clause-done : goal.returns-clause-done
returns-clause-done c =
    λ t found pick.
    let p = c.args in
    remove_horizon_done t p.rows.now.servers.now p.rows.now.flags.now found pick p.r.now p.server _ _ (rw c.state_of.ensures at c.if-state_of-ne-STANDBY.false) c.remove_horizon.ensures (c.alter.ensures.done t t p.r.now)
