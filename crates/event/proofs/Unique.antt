-- `request_of` tells any two readings apart, so no second answer keeps the promise of `read`. `Learnt` is what a caller learns
-- from its contract.
use mathlib.Core.Bool.{cond}
use mathlib.Core.Path.{◌≡◌, refl, sym, ap, ◌∙◌}
use lib.Dec.{eqb}
use Rattle.std.specs.Prelude.{Result, Ok, Err}
use Rattle.event.specs.declared.Event.{Event}
use Rattle.event.specs.declared.Event.TheVariants.{Packet, End, AddWorking, RemoveWorking, AddHorizon, RemoveHorizon, Configure}
use Rattle.event.specs.declared.Fault.{Fault}
use Rattle.event.specs.declared.Fault.TheVariants.{Malformed, ServerZero}
use Rattle.event.specs.Event.{Request, request_of}
use Rattle.event.proofs.read.Reads.{Learnt as read-promise}

-- what was read, by the request's kind number, or else by its refusal
abbrev back : Request → Result Event Fault
back a =
    cond (eqb a.kind 1) (Ok (Packet a.key))
    (cond (eqb a.kind 2) (Ok (End a.key))
    (cond (eqb a.kind 3) (Ok (AddWorking a.server))
    (cond (eqb a.kind 4) (Ok (RemoveWorking a.server))
    (cond (eqb a.kind 5) (Ok (AddHorizon a.server))
    (cond (eqb a.kind 6) (Ok (RemoveHorizon a.server))
    (cond (eqb a.kind 7) (Ok (Configure a.settings))
    (cond (eqb a.refusal 1) (Err Malformed) (Err ServerZero))))))))

back_as : (x : Result Event Fault) → back (request_of x) ≡ x
back_as (Ok (Packet k)) = refl
back_as (Ok (End k)) = refl
back_as (Ok (AddWorking s)) = refl
back_as (Ok (RemoveWorking s)) = refl
back_as (Ok (AddHorizon s)) = refl
back_as (Ok (RemoveHorizon s)) = refl
back_as (Ok (Configure c)) = refl
back_as (Err Malformed) = refl
back_as (Err ServerZero) = refl

pub told_apart : (x y : Result Event Fault) → request_of x ≡ request_of y → x ≡ y
told_apart x y e = sym (back_as x) ∙ ap back e ∙ back_as y

pub read_unique : (κs : _) (a : _) (x y : Result Event Fault) (e e' : _) → read-promise κs a x e → read-promise κs a y e' → x ≡ y
read_unique κs a x y e e' p q = told_apart x y (p ∙ sym q)
