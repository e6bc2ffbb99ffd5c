-- `table::search::word_at` meets its contract.
use Prim.Native.Nat.{◌+◌}
use native.Mathlib.Omega.{arith}
use Rattle.words.specs.Words.{word_at}
use Rattle.table.proofs.search.word_at.Goals as goal

pub returns : goal.returns
unfolding word_at
returns c = (c.join8.ensures, λ m h. omega (arith, c.type_inv.s (c.args.at + m)))
