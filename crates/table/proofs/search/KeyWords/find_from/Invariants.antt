-- `table::search::KeyWords::find_from` meets its contract. In the loop the search from index i on has come to the present byte.
use Prim.Native.Nat.{◌≤◌, ◌*◌, ◌-◌}
use Rattle.table.proofs.Searching.{Come}
use Rattle.table.proofs.search.KeyWords.find_from.Given as goal

abbrev pub invariant-loop-at : goal.invariant-loop-at
invariant-loop-at l = (l.at ≤ l.room * 20) × Come l.table l.i l.self.front l.self.back l.at

abbrev pub decreases-loop-at : goal.decreases-loop-at
decreases-loop-at l = l.room * 20 - l.at
