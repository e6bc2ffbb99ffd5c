-- `changes::configure` meets its contract.
use mathlib.Core.Bool.{false}
use mathlib.Core.Path.{ap, ◌∙◌}
use Rattle.rows.specs.Rows.{Rows}
use Rattle.rules.specs.Rules.{taken, state_with, with_settings}
use Rattle.changes.proofs.ByKind.{configure_done}
use Rattle.changes.proofs.configure.Goals as goal

pub returns-clause-done : goal.returns-clause-done
returns-clause-done c =
    λ found pick.
    let p = c.args in
    c.taken.ensures p.table.now _ _
    ∙ ap (λ (x : Rows). taken false (state_with p.table.now x.servers x.flags (with_settings p.settings p.r.now))) c.clear.ensures.cleared
    ∙ configure_done p.table.now p.rows.now.servers.now p.rows.now.flags.now found pick p.r.now p.settings c.if-r-ne0.false (rw c.used.ensures at c.if-used-ne0.false)
