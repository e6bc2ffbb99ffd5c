-- `changes::remove_working` meets its contract.
use Rattle.changes.proofs.ByKind.{remove_working_done}
use Rattle.changes.proofs.remove_working.Goals as goal

pub returns-clause-done : goal.returns-clause-done
returns-clause-done c =
    λ found pick.
    let p = c.args in
    remove_working_done p.table.now p.rows.now.servers.now p.rows.now.flags.now found pick p.r.now p.server _ _ _ (rw c.state_of.ensures at c.if-state_of-ne-WORKING.false)
    c.remove_working.ensures c.remove_server.ensures (c.alter.ensures.done _ p.table.now p.r.now)
