-- `handed`: piece by piece, each of one byte at least.
use Rattle.std.proofs.Common.{length, ◌-◌}
use Rattle.test_captures.proofs.handing.handed.Given as goal

abbrev pub decreases-loop-at : goal.decreases-loop-at
decreases-loop-at l = length l.capture - l.at
