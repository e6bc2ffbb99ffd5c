-- `spans::all_are` meets its contract: a flag that says it of the places read so far.
use Rattle.std.proofs.Common.{◌≡◌, take}
use Rattle.std.specs.List.{list_all}
use Rattle.spans.proofs.all_are.Given as goal

abbrev pub invariant-loop-y : goal.invariant-loop-y
invariant-loop-y g l = l.all ≡ list_all (λ y. g.T.PartialEq.eq y l.x) (take l.y-index l.s)
