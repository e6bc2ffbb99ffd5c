-- `packets::settle` meets its contract.
use borrow.Author.Tests.{not-true, not-false}
use Rattle.packets.proofs.OfPackets.{settle_2, settle_3, settle_4}
use Rattle.packets.proofs.settle.Goals as goal

pub returns-then-not-pick : goal.returns-then-not-pick
returns-then-not-pick c =
    λ rows r.
    let p = c.args in
    settle_2 p.key p.table.now rows.servers rows.flags p.pick r p.used (not-true _ c.if-not-pick.true)

pub returns-then-table-used : goal.returns-then-table-used
returns-then-table-used c =
    λ rows r.
    let p = c.args in
    settle_4 p.key p.table.now rows.servers rows.flags p.pick r p.used (not-false _ c.if-not-pick.false) c.if-table-used.true

pub returns : goal.returns
returns c =
    λ rows r.
    let p = c.args in
    rw c.write_after.ensures (settle_3 p.key p.table.now rows.servers rows.flags p.pick r p.used (not-false _ c.if-not-pick.false) c.if-table-used.false)
