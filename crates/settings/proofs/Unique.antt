-- No second answer keeps the promise of a public function of this crate. `Learnt` is what a caller learns from the function's contract.
use mathlib.Core.Bool.{Bool}
use mathlib.Core.Path.{◌≡◌}
use Rattle.settings.specs.declared.Settings.{Settings}
use Rattle.settings.proofs.valid.Reads.{Learnt as valid-promise}
use Rattle.settings.proofs.fresh.Reads.{Learnt as fresh-promise}
use Rattle.settings.proofs.named.Reads.{Learnt as named-promise}
use Rattle.settings.proofs.well_formed.Reads.{Learnt as well-formed-promise}

pub valid_unique : (κs : _) (a : _) (x y : Bool) (e e' : _) → valid-promise κs a x e → valid-promise κs a y e' → x ≡ y
valid_unique κs a x y e e' p q = cc

pub fresh_unique : (κs : _) (a : _) (x y : Settings) (e e' : _) → fresh-promise κs a x e → fresh-promise κs a y e' → x ≡ y
fresh_unique κs a x y e e' p q = cc

pub named_unique : (κs : _) (a : _) (x y : Settings) (e e' : _) → named-promise κs a x e → named-promise κs a y e' → x ≡ y
named_unique κs a x y e e' p q = cc

pub well_formed_unique : (κs : _) (a : _) (x y : Bool) (e e' : _) → well-formed-promise κs a x e → well-formed-promise κs a y e' → x ≡ y
well_formed_unique κs a x y e e' p q = cc
