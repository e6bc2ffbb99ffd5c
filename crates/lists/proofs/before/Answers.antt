-- `lists::before` meets its contract.
use Rattle.std.proofs.Common.{◌<◌, ◌≤◌, rules, sym, ◌∙◌}
use Rattle.std.proofs.lemmas.Iterator.{IsFirst-from_position, YieldsList-from_slice}
use borrow.Author.Tests.{tests}
use Rattle.lists.proofs.Scans.{before-first}
use Rattle.lists.proofs.before.Goals as goal

pub returns-clause-count : goal.returns-clause-count
returns-clause-count c =
    let s = c.args.s.now in
    let x = c.args.server in
    c.unwrap_or.ensures
    ∙ sym (before-first x s c.position.result
    (IsFirst-from_position _ _ _ (λ y. x ≤ y) (λ y. y < x) c.position.ensures.ran (YieldsList-from_slice s c.iter.ensures.rest)
    (λ y f k. search (rules, tests)) (λ y f k. search (rules, tests))))
