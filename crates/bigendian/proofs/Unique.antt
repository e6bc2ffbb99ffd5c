-- No second answer keeps the promise of a public function of this crate. `Learnt` is what a caller learns from the function's contract.
use Prim.Native.Nat.{ℕ}
use mathlib.Core.List.{List}
use mathlib.Core.Path.{◌≡◌}
use Rattle.bigendian.proofs.split4.Reads.{Learnt as split4-promise}
use Rattle.bigendian.proofs.join4.Reads.{Learnt as join4-promise}
use Rattle.bigendian.proofs.join2.Reads.{Learnt as join2-promise}

pub split4_unique : (κs : _) (a : _) (x y : List ℕ) (e e' : _) → split4-promise κs a x e → split4-promise κs a y e' → x ≡ y
split4_unique κs a x y e e' p q = cc

pub join4_unique : (κs : _) (a : _) (x y : ℕ) (e e' : _) → join4-promise κs a x e → join4-promise κs a y e' → x ≡ y
join4_unique κs a x y e e' p q = cc

pub join2_unique : (κs : _) (a : _) (x y : ℕ) (e e' : _) → join2-promise κs a x e → join2-promise κs a y e' → x ≡ y
join2_unique κs a x y e e' p q = cc
