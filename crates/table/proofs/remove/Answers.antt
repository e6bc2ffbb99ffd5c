-- `table::remove` meets its contract: inside the used part a gap is closed.
use Rattle.table.proofs.Removals.{removed_at}
use Rattle.table.proofs.remove.Goals as goal

pub returns-in-Some : goal.returns-in-Some
returns-in-Some c =
    let p = c.args in
    removed_at p.table.now c.close_gap.new.table p.place c.in-Some.i c.used-n.result c.used-n.ensures c.in-Some.ensures c.close_gap.ensures
