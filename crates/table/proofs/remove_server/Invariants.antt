-- `table::remove_server` meets its contract. In the loop, the records kept so far stand in front of the table as it was.
use Rattle.table.proofs.Removals.{Sifted}
use Rattle.table.proofs.remove_server.Given as goal

abbrev pub invariant-loop-i : goal.invariant-loop-i
invariant-loop-i l = Sifted l.initial.table l.server l.n l.table l.kept l.i
