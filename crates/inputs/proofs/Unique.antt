-- No second answer keeps the promise of `heard` or of `status`: a result is fixed by which errors it is. `Learnt` is what a caller learns from the contract.
use Rattle.std.proofs.Common.{◌≡◌, ◌∙◌, refl, sym, ap}
use Rattle.std.specs.Prelude.{ℕ, Ok, Err, IsErrOf, OnOk, OnErr, Result}
use Rattle.std.specs.Process.{exit_status}
use Rattle.std.specs.declared.process.ExitCode.{ExitCode}
use Rattle.inputs.proofs.heard.Reads.{Learnt as heard-promise}
use Rattle.inputs.proofs.status.Reads.{Learnt as status-promise}

same_errors : {E : Type 0} (x y : Result (Unit {0}) E) → ((e : E) → IsErrOf x e → IsErrOf y e) → ((e : E) → IsErrOf y e → IsErrOf x e) → x ≡ y
same_errors (Ok u) (Ok v) f g = refl
same_errors (Ok u) (Err e) f g = g e refl
same_errors (Err e) y f g = sym (f e refl)

pub heard_unique : (κs : _) (a : _) (x y : _) (e e' : _) → heard-promise κs a x e → heard-promise κs a y e' → x ≡ y
heard_unique κs a x y e e' p q = same_errors x y (λ k h. (q k).1 ((p k).0 h)) (λ k h. (p k).1 ((q k).0 h))

same_status : (x y : ExitCode) → exit_status x ≡ exit_status y → x ≡ y
same_status x y h = ap (λ (n : ℕ). record { status = n }) h

by_outcome : {E : Type 0} (written : Result (Unit {0}) E) (x y : ExitCode) → OnOk written (exit_status x ≡ 0) → OnErr written (exit_status x ≡ 141)
    → OnOk written (exit_status y ≡ 0) → OnErr written (exit_status y ≡ 141) → x ≡ y
by_outcome (Ok u) x y a b c d = same_status x y (a ∙ sym c)
by_outcome (Err e) x y a b c d = same_status x y (b ∙ sym d)

pub status_unique : (κs : _) (a : _) (x y : _) (e e' : _) → status-promise κs a x e → status-promise κs a y e' → x ≡ y
status_unique κs a x y e e' p q = by_outcome _ x y p.0 p.1 q.0 q.1
