-- No second answer keeps the promise of the function of this crate. `Learnt` is what a caller learns from its contract.
use Prim.Native.Nat.{ℕ}
use mathlib.Core.Path.{◌≡◌}
use Rattle.words.proofs.join8.Reads.{Learnt as join8-promise}

pub join8_unique : (κs : _) (a : _) (x y : ℕ) (e e' : _) → join8-promise κs a x e → join8-promise κs a y e' → x ≡ y
join8_unique κs a x y e e' p q = cc
