-- From where the reader is it comes to what it came to from its beginning.
use Rattle.std.proofs.Common.{◌≡◌, ◌≤◌, length}
use Rattle.pieces.proofs.Turns.{ahead}
use Rattle.pieces.proofs.Filling.{Both, comes_to, promised}
use Rattle.pieces.proofs.fill.fill_events.Given as goal

abbrev pub invariant-loop-out : goal.invariant-loop-out
invariant-loop-out l =
    record {
      same : l.reader.bytes.now ≡ l.bytes;
      within : l.filled ≤ length l.out;
      comes : ◌≡◌ {A = Both} (comes_to l.bytes l.reader.at l.reader.tally l.filled l.out) (promised l.fn.bytes l.fn.at l.fn.tally l.fn.out);
    }

abbrev pub decreases-loop-out : goal.decreases-loop-out
decreases-loop-out l = ahead l.bytes l.reader.at l.reader.tally
