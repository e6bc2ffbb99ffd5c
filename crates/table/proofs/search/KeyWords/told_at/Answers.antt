-- `table::search::KeyWords::told_at` meets its contract, one case for each return.
use Prim.Native.Nat.{◌+◌, ◌/◌}
use mathlib.Core.Path.{◌≡◌, sym, ◌∙◌}
use native.Mathlib.Omega.{arith}
use Rattle.table.proofs.Searching.{come_at, come_stop, come_here, come_on}
use Rattle.table.proofs.search.KeyWords.told_at.Goals as goal

pub returns-then-not-used_tag : goal.returns-then-not-used_tag
returns-then-not-used_tag c =
    let p = c.args in
    come_stop p.table.now (p.at / 20) _ _ p.at (come_at _ _ _ _ (omega arith)) (omega arith) (sym c.used_tag.ensures ∙ c.if-not-used_tag.true)

pub returns-then-stand_at : goal.returns-then-stand_at
returns-then-stand_at c =
    let p = c.args in
    let tag = sym c.used_tag.ensures ∙ c.if-not-used_tag.false in
    come_here p.table.now (p.at / 20) _ _ p.at (come_at _ _ _ _ (omega arith)) (omega arith) tag _ c.stand_at.ensures c.if-stand_at.true

pub returns : goal.returns
returns c =
    let p = c.args in
    let tag = sym c.used_tag.ensures ∙ c.if-not-used_tag.false in
    let next : p.at / 20 + 1 ≡ (p.at + 20) / 20 = omega arith in
    λ key k.
    rw next
    ((come_on p.table.now (p.at / 20) p.self.front p.self.back p.at (come_at _ _ _ _ (omega arith)) (omega arith) tag _ c.stand_at.ensures c.if-stand_at.false).so key k)
