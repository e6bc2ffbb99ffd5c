-- `changes::alter` meets its contract.
use mathlib.Core.Path.{refl, ◌∙◌}
use Rattle.changes.proofs.ByKind.{changed_filled, changed_plain}
use Rattle.changes.proofs.alter.Goals as goal

pub returns-then-method-eq-ROW_TABLE-clause-done : goal.returns-then-method-eq-ROW_TABLE-clause-done
returns-then-method-eq-ROW_TABLE-clause-done c =
    λ t t₀ r₀.
    let p = c.args in
    c.taken.ensures t _ _ ∙ changed_filled p.roster r₀ t t₀ p.rows.now.servers.now p.rows.now.flags.now _ _ c.if-method-eq-ROW_TABLE.true c.fill.ensures.done

pub returns-clause-done : goal.returns-clause-done
returns-clause-done c =
    λ t t₀ r₀.
    let p = c.args in
    c.taken-2.ensures t _ _ ∙ changed_plain p.roster r₀ t t₀ p.rows.now.servers.now p.rows.now.flags.now _ c.if-method-eq-ROW_TABLE.false refl
