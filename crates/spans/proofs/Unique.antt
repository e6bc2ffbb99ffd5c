-- No second answer keeps the promise of a public function of this crate. `Learnt` is what a caller learns from the function's contract;
-- of a lent span, what it holds afterwards is the answer. For a function over spans of any type, the type and what its bounds give come first.
use mathlib.Core.Bool.{Bool}
use mathlib.Core.Path.{◌≡◌}
use Rattle.spans.proofs.all_are.Reads.{Learnt as all-are-promise}
use Rattle.spans.proofs.all_zero.Reads.{Learnt as all-zero-promise}
use Rattle.spans.proofs.clear.Reads.{Learnt as clear-promise}
use Rattle.spans.proofs.close.Reads.{Learnt as close-promise}
use Rattle.spans.proofs.close_with.Reads.{Learnt as close-with-promise}
use Rattle.spans.proofs.shift.Reads.{Learnt as shift-promise}

pub all_are_unique : (T laws copy clone clone-dict eq eq-dict κs a : _) (x y : Bool) (e e' : _)
    → all-are-promise T laws copy clone clone-dict eq eq-dict κs a x e → all-are-promise T laws copy clone clone-dict eq eq-dict κs a y e' → x ≡ y
all_are_unique T laws copy clone clone-dict eq eq-dict κs a x y e e' p q = cc

pub all_zero_unique : (κs : _) (a : _) (x y : Bool) (e e' : _) → all-zero-promise κs a x e → all-zero-promise κs a y e' → x ≡ y
all_zero_unique κs a x y e e' p q = cc

pub clear_unique : (κs : _) (a : _) (x y : _) (e e' : _) → clear-promise κs a x e → clear-promise κs a y e' → e.0.now ≡ e'.0.now
clear_unique κs a x y e e' p q = cc

pub close_unique : (κs : _) (a : _) (x y : _) (e e' : _) → close-promise κs a x e → close-promise κs a y e' → e.0.now ≡ e'.0.now
close_unique κs a x y e e' p q = cc

pub close_with_unique : (T laws copy clone clone-dict κs a x y e e' : _)
    → close-with-promise T laws copy clone clone-dict κs a x e → close-with-promise T laws copy clone clone-dict κs a y e' → e.0.now ≡ e'.0.now
close_with_unique T laws copy clone clone-dict κs a x y e e' p q = cc

pub shift_unique : (T laws copy clone clone-dict κs a x y e e' : _)
    → shift-promise T laws copy clone clone-dict κs a x e → shift-promise T laws copy clone clone-dict κs a y e' → e.0.now ≡ e'.0.now
shift_unique T laws copy clone clone-dict κs a x y e e' p q = cc
