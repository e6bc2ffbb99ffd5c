use Prim.Native.Nat.{◌+◌, ◌/◌}
use mathlib.Core.Logic.{inl}
use mathlib.Core.Path.{◌≡◌, ◌∙◌}
use native.Mathlib.Omega.{arith}
use lib.ListN.{length, get_or}
use Rattle.table.proofs.Searching.{from_first, come_end, come_here, come_on}
use Rattle.table.proofs.Parts.{tags_are}
use Rattle.table.proofs.find.Goals as goal

pub returns-then-table-at-ne-NEW_TAG : goal.returns-then-table-at-ne-NEW_TAG
returns-then-table-at-ne-NEW_TAG c =
    let p = c.args in
    let k = c.of-words.ensures in
    c.find_from.ensures p.key k ∙ c.loop-at.invariant.1.so p.key k ∙ from_first p.table.now p.key

pub returns-then-stand_at : goal.returns-then-stand_at
returns-then-stand_at c =
    let p = c.args in
    let k = c.of-words.ensures in
    let tag = tags_are (get_or p.table.now (c.loop-at.at + 13) 0) (inl (omega (arith, c.if-table-at-ne-NEW_TAG.false))) in
    come_here p.table.now 0 _ _ c.loop-at.at c.loop-at.invariant.1 (omega arith) tag _ c.stand_at.ensures c.if-stand_at.true p.key k
    ∙ from_first p.table.now p.key

pub loop-at-preserved : goal.loop-at-preserved
loop-at-preserved c =
    let p = c.args in
    let tag = tags_are (get_or p.table.now (c.loop-at.at + 13) 0) (inl (omega (arith, c.if-table-at-ne-NEW_TAG.false))) in
    (omega (arith, c.loop-at.invariant.1.whole), come_on p.table.now 0 _ _ c.loop-at.at c.loop-at.invariant.1 (omega arith) tag _ c.stand_at.ensures c.if-stand_at.false)

pub returns : goal.returns
returns c =
    let p = c.args in
    let e : c.loop-at.at / 20 ≡ length p.table.now / 20 = omega (arith, c.loop-at.invariant.1.whole) in
    rw e (come_end p.table.now 0 _ _ c.loop-at.at c.loop-at.invariant.1 (omega (arith, c.loop-at.invariant.1.whole)) p.key c.of-words.ensures ∙ from_first p.table.now p.key)
