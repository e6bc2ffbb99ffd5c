-- `ringplan::key` meets its contract.
use native.Mathlib.Omega.{arith}
use Rattle.ringplan.specs.Keys.{key_of}
use Rattle.ringplan.proofs.key.Goals as goal

pub returns : goal.returns
unfolding key_of
returns c = omega (arith, c.position.ensures)
