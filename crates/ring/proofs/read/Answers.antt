use lib.Dec.{leb}
use Rattle.std.proofs.Common.{rules, tests}
use Rattle.std.proofs.lemmas.Iterator.{YieldsList-from_slice}
use Rattle.std.proofs.lemmas.Iterator.Search.{find_from_yields_List}
use Rattle.ring.specs.declared.Entry.{Entry}
use Rattle.ring.proofs.Search.{search_reads}
use Rattle.ring.proofs.read.Goals as goal

pub returns : goal.returns
returns c =
    let p = c.args in
    let u = rw (c.copied.ensures, c.or.ensures) at c.unwrap_or_default.ensures in
    search_reads p.point p.places _ (λ e d. search rules) p.ring.now c.find.result c.first.result c.unwrap_or_default.result
    (find_from_yields_List (λ (e : Entry). leb p.point e.position) c.find.new.self _ c.find.result c.find.ensures.ran (YieldsList-from_slice _ (rw c.min.ensures at c.iter.ensures.rest)) (λ x b q k. search (rules, tests)))
    c.first.ensures.value u
