-- No second plan satisfies the promise of `plan`: what a caller learns from its contract settles the plan.
use mathlib.Core.List.{List}
use mathlib.Core.Path.{◌≡◌}
use Rattle.ring.specs.declared.Entry.{Entry}
use Rattle.ringplan.proofs.plan.Reads.{Learnt as plan-promise}

pub plan_unique : (κs : _) (a : _) (x y : List Entry) (e e' : _) → plan-promise κs a x e → plan-promise κs a y e' → x ≡ y
plan_unique κs a x y e e' p q = cc
