-- `engine::react` meets its contract: refusals 9 and 11, and a number that refuses the event, come first; then what the event comes to.
use mathlib.Core.Path.{◌∙◌}
use Rattle.answers.specs.Reacting.{state_over}
use Rattle.rows.specs.Lent.{rows_in}
use Rattle.engine.proofs.Admitting.{as_admitted, as_refused}
use Rattle.engine.proofs.react.Goals as goal

pub returns-in-Err-clause-done : goal.returns-in-Err-clause-done
returns-in-Err-clause-done c =
    let p = c.args in
    rw c.into.ensures (as_refused p.seen p.spot (state_over p.table.now (rows_in p.rows.now) p.roster) _ c.in-Err.ensures)

pub returns-in-Ok-settle-clause-done : goal.returns-in-Ok-settle-clause-done
returns-in-Ok-settle-clause-done c =
    let p = c.args in
    rw c.into-in-Ok-settle.ensures
    (c.in-Ok-settle.ensures.done ∙ as_admitted p.seen p.spot (state_over p.table.now (rows_in p.rows.now) p.roster) _ c.in-Ok.ensures)

pub returns-in-Err-settle-clause-done : goal.returns-in-Err-settle-clause-done
returns-in-Err-settle-clause-done c =
    let p = c.args in
    rw c.into-in-Err-settle.ensures
    (c.in-Err-settle.ensures.done ∙ as_admitted p.seen p.spot (state_over p.table.now (rows_in p.rows.now) p.roster) _ c.in-Ok.ensures)
