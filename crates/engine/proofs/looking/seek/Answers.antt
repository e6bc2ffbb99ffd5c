-- `engine::looking::seek` meets its contract.
use mathlib.Core.Path.{sym, ◌∙◌}
use Rattle.table.specs.Table.{finding_of}
use Rattle.engine.specs.Looking.{asked_in}
use Rattle.engine.proofs.OfLooking.{look_nothing, look_found, look_open}
use Rattle.engine.proofs.looking.seek.Goals as goal

pub returns-in_default : goal.returns-in_default
returns-in_default c =
    let p = c.args in
    look_nothing (asked_in p.event) p.table.now p.sized p.roster (λ k q. c.in_default.not-Some k (c.key_of.ensures ∙ q))

pub returns-then-not-unrecorded : goal.returns-then-not-unrecorded
returns-then-not-unrecorded c =
    let p = c.args in
    look_found (asked_in p.event) p.table.now p.sized p.roster (finding_of c.find-found.result) c.in-Some.key
    (sym c.in-Some.is ∙ c.key_of.ensures)
    c.find-found.ensures
    (sym c.unrecorded.ensures ∙ c.if-not-unrecorded.true)

pub returns : goal.returns
returns c =
    let p = c.args in
    look_open (asked_in p.event) p.table.now p.sized p.roster (finding_of c.find-found.result) c.in-Some.key _ _
    (sym c.in-Some.is ∙ c.key_of.ensures)
    c.find-found.ensures
    (sym c.unrecorded.ensures ∙ c.if-not-unrecorded.false)
    c.fnv.ensures
    c.places_read.ensures
