-- `spans::close_with` meets its contract: the places behind what was moved are filled one by one.
use Rattle.std.proofs.Common.{◌≡◌, take, replicate}
use Rattle.spans.proofs.close_with.Given as goal

abbrev pub invariant-loop-place : goal.invariant-loop-place
invariant-loop-place g l = take l.place-index l.place-items ≡ replicate l.place-index l.x
