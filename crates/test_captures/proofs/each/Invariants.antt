-- `each`: capture by capture, each behind the four bytes of its length.
use Rattle.std.proofs.Common.{length, ◌-◌}
use Rattle.test_captures.proofs.each.Given as goal

abbrev pub decreases-loop-size : goal.decreases-loop-size
decreases-loop-size g l = length l.input - l.at
