-- `table::find` meets its contract. In the loop the search from the front has come to the present byte.
use Prim.Native.Nat.{◌≤◌, ◌-◌}
use Rattle.table.proofs.Searching.{Come}
use Rattle.table.proofs.find.Given as goal

abbrev pub invariant-loop-at : goal.invariant-loop-at
invariant-loop-at l = (l.at ≤ l.end) × Come l.table 0 l.words.front l.words.back l.at

abbrev pub decreases-loop-at : goal.decreases-loop-at
decreases-loop-at l = l.end - l.at
