-- `engine::settle` meets its contract: each kind does what the rules say.
use mathlib.Core.Path.{◌∙◌}
use Rattle.rows.specs.Lent.{rows_in}
use Rattle.engine.proofs.Admitting.{handed_on}
use Rattle.engine.proofs.settle.Goals as goal

pub returns-in_err-facts-in-Packet-clause-done : goal.returns-in_err-facts-in-Packet-clause-done
returns-in_err-facts-in-Packet-clause-done c =
    rw c.in-Packet.is (handed_on _ _ _ _ _ c.from_residual.ensures.1 ∙ (rw (c.view.ensures.servers, c.view.ensures.flags) at c.in_err-facts-in-Packet.ensures))

pub returns-in_ok-facts-in-Packet-clause-done : goal.returns-in_ok-facts-in-Packet-clause-done
returns-in_ok-facts-in-Packet-clause-done c = rw c.in-Packet.is (rw (c.view.ensures.servers, c.view.ensures.flags) at c.in_ok-facts-in-Packet.ensures)

pub returns-in-End-clause-done : goal.returns-in-End-clause-done
returns-in-End-clause-done c =
    let p = c.args in
    rw c.in-End.is (c.end.ensures _ _ (rows_in p.rows.now) p.roster.now)

pub returns-in-AddWorking-clause-done : goal.returns-in-AddWorking-clause-done
returns-in-AddWorking-clause-done c =
    let p = c.args in
    rw c.in-AddWorking.is (c.add_working.ensures.done p.table.now _ _)

pub returns-in-RemoveWorking-clause-done : goal.returns-in-RemoveWorking-clause-done
returns-in-RemoveWorking-clause-done c = rw c.in-RemoveWorking.is (c.remove_working.ensures.done _ _)

pub returns-in-AddHorizon-clause-done : goal.returns-in-AddHorizon-clause-done
returns-in-AddHorizon-clause-done c =
    let p = c.args in
    rw c.in-AddHorizon.is (c.add_horizon.ensures.done p.table.now _ _)

pub returns-in-RemoveHorizon-clause-done : goal.returns-in-RemoveHorizon-clause-done
returns-in-RemoveHorizon-clause-done c =
    let p = c.args in
    rw c.in-RemoveHorizon.is (c.remove_horizon.ensures.done p.table.now _ _)

pub returns-in-Configure-clause-done : goal.returns-in-Configure-clause-done
returns-in-Configure-clause-done c = rw c.in-Configure.is (c.configure.ensures.done _ _)
