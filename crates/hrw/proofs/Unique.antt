-- No second answer satisfies a promise of this crate: what a caller learns from each contract settles the answer.
use mathlib.Core.Bool.{Bool}
use mathlib.Core.Path.{◌≡◌}
use Rattle.std.specs.Prelude.{Option}
use Rattle.ranking.specs.declared.Best.{Best}
use Rattle.ranking.specs.declared.Pick.{Pick}
use Rattle.hrw.proofs.choose.Reads.{Learnt as choose-promise}
use Rattle.hrw.proofs.outranked.Reads.{Learnt as outranked-promise}
use Rattle.hrw.proofs.pick.Reads.{Learnt as pick-promise}

pub choose_unique : (κs : _) (a : _) (x y : Option Best) (e e' : _) → choose-promise κs a x e → choose-promise κs a y e' → x ≡ y
choose_unique κs a x y e e' p q = cc

pub outranked_unique : (κs : _) (a : _) (x y : Bool) (e e' : _) → outranked-promise κs a x e → outranked-promise κs a y e' → x ≡ y
outranked_unique κs a x y e e' p q = cc

pub pick_unique : (κs : _) (a : _) (x y : Pick) (e e' : _) → pick-promise κs a x e → pick-promise κs a y e' → x ≡ y
pick_unique κs a x y e e' p q = cc
