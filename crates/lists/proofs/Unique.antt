-- No second answer keeps the promise of a public function of this crate. `Learnt` is what a caller learns from the function's contract;
-- of a lent list, what it holds afterwards is the answer. For a function over lists of any type, the type and what its bounds give come first.
use Prim.Native.Nat.{ℕ}
use mathlib.Core.Bool.{Bool}
use mathlib.Core.Path.{◌≡◌}
use Rattle.std.specs.Prelude.{Option}
use Rattle.lists.proofs.rising.Reads.{Learnt as rising-promise}
use Rattle.lists.proofs.stated.Reads.{Learnt as stated-promise}
use Rattle.lists.proofs.place.Reads.{Learnt as place-promise}
use Rattle.lists.proofs.before.Reads.{Learnt as before-promise}
use Rattle.lists.proofs.push.Reads.{Learnt as push-promise}

pub rising_unique : (κs : _) (a : _) (x y : Bool) (e e' : _) → rising-promise κs a x e → rising-promise κs a y e' → x ≡ y
rising_unique κs a x y e e' p q = cc

pub stated_unique : (κs : _) (a : _) (x y : Bool) (e e' : _) → stated-promise κs a x e → stated-promise κs a y e' → x ≡ y
stated_unique κs a x y e e' p q = cc

pub place_unique : (κs : _) (a : _) (x y : Option ℕ) (e e' : _) → place-promise κs a x e → place-promise κs a y e' → x ≡ y
place_unique κs a x y e e' p q = cc

pub before_unique : (κs : _) (a : _) (x y : ℕ) (e e' : _) → before-promise κs a x e → before-promise κs a y e' → x ≡ y
before_unique κs a x y e e' p q = cc

pub push_unique : (T laws copy clone clone-dict κs a x y e e' : _)
    → push-promise T laws copy clone clone-dict κs a x e → push-promise T laws copy clone clone-dict κs a y e' → e.0.now ≡ e'.0.now
push_unique T laws copy clone clone-dict κs a x y e e' p q = cc
