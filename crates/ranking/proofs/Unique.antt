-- No second answer satisfies a promise of this crate: what a caller learns from each contract settles the answer.
use mathlib.Core.Bool.{Bool}
use mathlib.Core.Path.{◌≡◌}
use Rattle.std.specs.Prelude.{Option}
use Rattle.ranking.specs.declared.Best.{Best}
use Rattle.ranking.specs.Best.{none_yet}
use Rattle.ranking.proofs.heavier.Reads.{Learnt as heavier-promise}
use Rattle.ranking.proofs.nearer.Reads.{Learnt as nearer-promise}
use Rattle.ranking.proofs.keep.Reads.{Learnt as keep-promise}
use Rattle.ranking.proofs.ByWeightRanks.outranks.Reads.{Learnt as by-weight-promise}
use Rattle.ranking.proofs.ByDistanceRanks.outranks.Reads.{Learnt as by-distance-promise}

pub heavier_unique : (κs : _) (a : _) (x y : Bool) (e e' : _) → heavier-promise κs a x e → heavier-promise κs a y e' → x ≡ y
heavier_unique κs a x y e e' p q = cc

pub nearer_unique : (κs : _) (a : _) (x y : Bool) (e e' : _) → nearer-promise κs a x e → nearer-promise κs a y e' → x ≡ y
nearer_unique κs a x y e e' p q = cc

-- where a loop begins: what holds no server yet is one value
pub none_yet_unique : (x y : Option Best) → x ≡ none_yet → y ≡ none_yet → x ≡ y
none_yet_unique x y p q = cc

pub by_weight_unique : (κs : _) (a : _) (x y : Bool) (e e' : _) → by-weight-promise κs a x e → by-weight-promise κs a y e' → x ≡ y
by_weight_unique κs a x y e e' p q = cc

pub by_distance_unique : (κs : _) (a : _) (x y : Bool) (e e' : _) → by-distance-promise κs a x e → by-distance-promise κs a y e' → x ≡ y
by_distance_unique κs a x y e e' p q = cc

pub keep_unique : (T : _) (L : _) (R : _) (d : _) (κs : _) (a : _) (x y : Best) (e e' : _) → keep-promise T L R d κs a x e → keep-promise T L R d κs a y e' → x ≡ y
keep_unique T L R d κs a x y e e' p q = cc
