-- `changes::add_working` meets its contract.
use Rattle.changes.proofs.ByKind.{add_working_done}
use Rattle.changes.proofs.add_working.Goals as goal

pub returns-clause-done : goal.returns-clause-done
returns-clause-done c =
    λ t found pick.
    let p = c.args in
    add_working_done t p.rows.now.servers.now p.rows.now.flags.now found pick p.r.now p.server _ _ (rw c.state_of.ensures at c.if-state_of-ne-STANDBY.false) c.add_working.ensures (c.alter.ensures.done t t p.r.now)
