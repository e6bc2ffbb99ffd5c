-- No second answer satisfies a promise of this crate: what a caller learns from each contract settles the answer.
use Rattle.std.proofs.Common.{◌≡◌, ℕ}
use Rattle.hash.proofs.fnv.Reads.{Learnt as fnv-promise}
use Rattle.hash.proofs.digest.Reads.{Learnt as digest-promise}
use Rattle.hash.proofs.weight.Reads.{Learnt as weight-promise}
use Rattle.hash.proofs.position.Reads.{Learnt as position-promise}
use Rattle.hash.proofs.distance.Reads.{Learnt as distance-promise}

pub fnv_unique : (κs : _) (a : _) (x y : ℕ) (e e' : _) → fnv-promise κs a x e → fnv-promise κs a y e' → x ≡ y
fnv_unique κs a x y e e' p q = cc

pub digest_unique : (κs : _) (a : _) (x y : ℕ) (e e' : _) → digest-promise κs a x e → digest-promise κs a y e' → x ≡ y
digest_unique κs a x y e e' p q = cc

pub weight_unique : (κs : _) (a : _) (x y : ℕ) (e e' : _) → weight-promise κs a x e → weight-promise κs a y e' → x ≡ y
weight_unique κs a x y e e' p q = cc

pub position_unique : (κs : _) (a : _) (x y : ℕ) (e e' : _) → position-promise κs a x e → position-promise κs a y e' → x ≡ y
position_unique κs a x y e e' p q = cc

pub distance_unique : (κs : _) (a : _) (x y : ℕ) (e e' : _) → distance-promise κs a x e → distance-promise κs a y e' → x ≡ y
distance_unique κs a x y e e' p q = cc
