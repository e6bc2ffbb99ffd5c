-- `lists::place` meets its contract.
use Rattle.std.proofs.Common.{◌≡◌, rules}
use Rattle.std.proofs.lemmas.Iterator.{IsFirst-from_position, YieldsList-from_slice}
use borrow.Author.Tests.{tests}
use Rattle.lists.proofs.Scans.{place-first}
use Rattle.lists.proofs.place.Goals as goal

pub returns : goal.returns
returns c =
    let s = c.args.s.now in
    let x = c.args.server in
    place-first x s c.position.result
    (IsFirst-from_position _ _ _ (λ y. y ≡ x) (λ y. y ≡ x → ⊥) c.position.ensures.ran (YieldsList-from_slice s c.iter.ensures.rest)
    (λ y f k. search (rules, tests)) (λ y f k. search (rules, tests)))
