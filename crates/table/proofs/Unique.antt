-- No second answer keeps the promise of a public function of this crate. `Learnt` is what a caller learns from the function's contract;
-- of a lent table, what it holds afterwards is the answer.
use Prim.Native.Nat.{ℕ}
use mathlib.Core.Path.{◌≡◌, refl, sym, ap, ◌∙◌}
use Rattle.sets.proofs.Cases.{clash}
use Rattle.table.specs.declared.Found.{Found}
use Rattle.table.specs.declared.Found.TheVariants.{At, Nothing}
use Rattle.table.specs.Table.{Finding, finding_of}
use Rattle.table.proofs.used.Reads.{Learnt as used-promise}
use Rattle.table.proofs.find.Reads.{Learnt as find-promise}
use Rattle.table.proofs.server_at.Reads.{Learnt as server-at-promise}
use Rattle.table.proofs.tag_at.Reads.{Learnt as tag-at-promise}
use Rattle.table.proofs.write_after.Reads.{Learnt as write-after-promise}
use Rattle.table.proofs.half_close.Reads.{Learnt as half-close-promise}
use Rattle.table.proofs.remove.Reads.{Learnt as remove-promise}
use Rattle.table.proofs.remove_server.Reads.{Learnt as remove-server-promise}
use Rattle.table.proofs.start.Reads.{Learnt as start-promise}

-- `finding_of` tells any two answers apart
pub told_apart : (x y : Found) → finding_of x ≡ finding_of y → x ≡ y
told_apart (At m) (At n) e = ap At (ap (λ (f : Finding). f.reads) e)
told_apart (At m) (Nothing n) e = clash refl (ap (λ (f : Finding). f.found) e)
told_apart (Nothing m) (At n) e = clash (ap (λ (f : Finding). f.found) e) refl
told_apart (Nothing m) (Nothing n) e = ap Nothing (ap (λ (f : Finding). f.reads) e)

pub used_unique : (κs : _) (a : _) (x y : ℕ) (e e' : _) → used-promise κs a x e → used-promise κs a y e' → x ≡ y
used_unique κs a x y e e' p q = cc

pub find_unique : (κs : _) (a : _) (x y : Found) (e e' : _) → find-promise κs a x e → find-promise κs a y e' → x ≡ y
find_unique κs a x y e e' p q = told_apart x y (p ∙ sym q)

pub server_at_unique : (κs : _) (a : _) (x y : ℕ) (e e' : _) → server-at-promise κs a x e → server-at-promise κs a y e' → x ≡ y
server_at_unique κs a x y e e' p q = cc

pub tag_at_unique : (κs : _) (a : _) (x y : ℕ) (e e' : _) → tag-at-promise κs a x e → tag-at-promise κs a y e' → x ≡ y
tag_at_unique κs a x y e e' p q = cc

pub write_after_unique : (κs : _) (a : _) (x y : _) (e e' : _) → write-after-promise κs a x e → write-after-promise κs a y e' → e.0.now ≡ e'.0.now
write_after_unique κs a x y e e' p q = cc

pub half_close_unique : (κs : _) (a : _) (x y : _) (e e' : _) → half-close-promise κs a x e → half-close-promise κs a y e' → e.0.now ≡ e'.0.now
half_close_unique κs a x y e e' p q = cc

pub remove_unique : (κs : _) (a : _) (x y : _) (e e' : _) → remove-promise κs a x e → remove-promise κs a y e' → e.0.now ≡ e'.0.now
remove_unique κs a x y e e' p q = cc

pub remove_server_unique : (κs : _) (a : _) (x y : _) (e e' : _) → remove-server-promise κs a x e → remove-server-promise κs a y e' → e.0.now ≡ e'.0.now
remove_server_unique κs a x y e e' p q = cc

pub start_unique : (κs : _) (a : _) (x y : _) (e e' : _) → start-promise κs a x e → start-promise κs a y e' → e.0.now ≡ e'.0.now
start_unique κs a x y e e' p q = cc
