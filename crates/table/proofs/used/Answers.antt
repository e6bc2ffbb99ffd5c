-- `table::used` meets its contract.
use Rattle.std.proofs.Common.{rules, ◌≡◌, ℕ, List, length, ◌/◌, sym, ap, ◌∙◌}
use Rattle.std.proofs.lemmas.Iterator.{IsFirst-from_position, YieldsList-from_slice}
use borrow.Author.Tests.{tests}
use Rattle.table.specs.Table.{records_of, used_among, used_part}
use Rattle.table.proofs.Counting.{chunks-records, Used, Unused, used-first}
use Rattle.table.proofs.used.Goals as goal

pub returns : goal.returns
unfolding records_of used_part
returns c =
    let t = c.args.table.now in
    let rs = c.as_chunks.result.0.now in
    let whole : rs ≡ records_of t = c.as_chunks.ensures.front ∙ chunks-records (length t / 20) t in
    c.unwrap_or.ensures
    ∙ sym (used-first rs c.position.result
    (IsFirst-from_position _ _ _ Unused Used c.position.ensures.ran (YieldsList-from_slice rs c.iter.ensures.rest)
    (λ y f k. search (rules, tests)) (λ y f k. search (rules, tests))))
    ∙ ap (λ (l : List (List ℕ)). length (used_among l)) whole
