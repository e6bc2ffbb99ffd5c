-- What was read stands within the block, and each read but the last brings a byte at least.
use Rattle.std.proofs.Common.{◌-◌, ◌≤◌}
use Rattle.program_session.proofs.blocks.fill.Given as goal

abbrev pub invariant-loop-have : goal.invariant-loop-have
invariant-loop-have g l = l.have ≤ 65536

abbrev pub decreases-loop-have : goal.decreases-loop-have
decreases-loop-have g l = 16 - l.have
