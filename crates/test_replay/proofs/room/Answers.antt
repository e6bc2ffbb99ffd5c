-- `test_replay::room` meets its contract.
use Rattle.std.proofs.Common.{ℕ, sym}
use lib.ListN.{length-replicate}
use Rattle.test_replay.proofs.room.Goals as goal

pub returns : goal.returns
returns c = sym (length-replicate {A = ℕ} 1048576 0)
