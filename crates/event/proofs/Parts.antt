-- The parts of a record, as the code takes them: the two zeros, and the body behind them.
use Prim.Native.Nat.{ℕ, ◌-◌, ◌<◌}
use mathlib.Core.Bool.{true, false, cond}
use mathlib.Core.List.{List}
use mathlib.Core.Path.{◌≡◌}
use native.Mathlib.Omega.{arith}
use lib.Dec.{eqb}
use lib.ListN.{length, get_or, take, drop, length-drop}
use lib.Seq.{drop-cons, take_all}
use Rattle.spans.specs.Spans.{all_zero}

-- bytes 1 and 2 are zero where each of them is
pub two_zeros : (l : List ℕ) → 2 < length l
    → all_zero (take 2 (drop 1 l)) ≡ cond (eqb (get_or l 1 0) 0) (cond (eqb (get_or l 2 0) 0) true false) false
unfolding all_zero
two_zeros l h = rw (drop-cons l 1 0 (omega arith), drop-cons l 2 0 h)

-- what is lent from byte 3 on is all that follows it
pub rest : (l : List ℕ) → take (length l - 3) (drop 3 l) ≡ drop 3 l
rest l = take_all (length l - 3) (drop 3 l) (simp length-drop (omega arith))
