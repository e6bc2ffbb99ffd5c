-- `lists::rising` meets its contract.
use Rattle.std.proofs.Common.{refl, rules, sym}
use Rattle.std.proofs.lemmas.Fn.{always_returns_same}
use lib.Dec.{ltb}
use Rattle.lists.proofs.Scans.{rises, rises_not}
use Rattle.lists.proofs.rising.Goals as goal

pub returns-then-not-starts_with : goal.returns-then-not-starts_with
returns-then-not-starts_with c =
    rises c.args.s.now c.is_sorted_by.result c.if-not-starts_with.ensures.value
    (c.is_sorted_by.ensures.cases ltb (always_returns_same _ _ _ (λ a r f k. (search rules, refl))))

pub returns-else-not-starts_with : goal.returns-else-not-starts_with
returns-else-not-starts_with c =
    rw c.if-not-starts_with.false (sym (rises_not c.args.s.now c.if-not-starts_with.ensures.value))
