use mathlib.Core.Path.{refl, sym, ◌∙◌}
use native.Mathlib.Omega.{arith}
use Rattle.table.proofs.Places.{find_stop}
use Rattle.table.proofs.Searching.{come_end, come_last}
use Rattle.table.proofs.search.KeyWords.find_from.Goals as goal

pub returns-then-not-used_tag : goal.returns-then-not-used_tag
returns-then-not-used_tag c =
    let p = c.args in
    λ key k. find_stop p.table.now p.i (omega arith) key _ refl (sym c.used_tag.ensures ∙ c.if-not-used_tag.true)

pub returns-then-at-room : goal.returns-then-at-room
returns-then-at-room c =
    let p = c.args in
    rw c.unwrap_or.ensures
    (come_last p.table.now p.i _ _ c.loop-at.at c.loop-at.invariant.1 (omega (arith, c.loop-at.invariant.1.whole)) _ c.told_at-then-at-room.ensures)

pub returns : goal.returns
returns c =
    let p = c.args in
    come_end p.table.now p.i _ _ c.loop-at.at c.loop-at.invariant.1 (omega arith)
