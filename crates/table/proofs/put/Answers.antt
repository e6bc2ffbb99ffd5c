-- `table::put` meets its contract: a copied key and the seven bytes behind it are a new record.
use mathlib.Core.Path.{◌∙◌}
use borrow.Author.Rules.{rules}
use Rattle.table.proofs.Moves.{filled}
use Rattle.table.proofs.put.Goals as goal

pub returns : goal.returns
returns c =
    let p = c.args in
    rw c.copy_from_slice.ensures.after
    (filled p.s.now p.key c.copy_from_slice-2.new.self p.server c.requires (search rules) (c.copy_from_slice-2.ensures.after ∙ rw c.split4.ensures))
