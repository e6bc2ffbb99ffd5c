-- What is kept of a block is less than a record.
use Rattle.std.proofs.Common.{◌≤◌}
use Rattle.program_session.proofs.blocks.answer_all.Given as goal

abbrev pub invariant-loop : goal.invariant-loop
invariant-loop g l = l.kept ≤ 16
