-- `answer_of` tells any two replies apart, and `number_of` any two refusals.
use Prim.Native.Nat.{ℕ}
use mathlib.Core.Bool.{cond}
use mathlib.Core.Path.{◌≡◌, refl, sym, ap, ◌∙◌}
use lib.Dec.{eqb}
use Rattle.sets.proofs.Cases.{clash}
use Rattle.rules.specs.declared.Reply.{Reply}
use Rattle.rules.specs.declared.Reply.TheVariants.{Accepted, Refused}
use Rattle.rules.specs.declared.Refusal.{Refusal}
use Rattle.rules.specs.declared.Refusal.TheVariants.{WrongLengths, UnsoundRoster, Malformed, ServerZero, NotEmpty, HeldAlready, RosterFull, NotInHorizon, NotWorking, NoneWorking, LedToIdle}
use Rattle.rules.specs.Answer.{Answer, answer_of, number_of}

pub answer_apart : (x y : Reply) → answer_of x ≡ answer_of y → x ≡ y
answer_apart (Accepted s m n) (Accepted s' m' n') e =
    let a : s ≡ s' = ap (λ (t : Answer). t.server) e in
    let b : m ≡ m' = ap (λ (t : Answer). t.mark) e in
    let c : n ≡ n' = ap (λ (t : Answer). t.reads) e in
    cc
answer_apart (Accepted s m n) (Refused k) e = clash (ap (λ (t : Answer). t.accepted) (sym e) ∙ refl) refl
answer_apart (Refused k) (Accepted s m n) e = clash (ap (λ (t : Answer). t.accepted) e ∙ refl) refl
answer_apart (Refused k) (Refused k') e = ap Refused (ap (λ (t : Answer). t.refusal) e)

-- the refusal of a number
abbrev pub numbered : ℕ → Refusal
numbered n =
    cond (eqb n 9) WrongLengths
    (cond (eqb n 11) UnsoundRoster
    (cond (eqb n 1) Malformed
    (cond (eqb n 2) ServerZero
    (cond (eqb n 10) NotEmpty
    (cond (eqb n 3) HeldAlready
    (cond (eqb n 6) RosterFull
    (cond (eqb n 4) NotInHorizon
    (cond (eqb n 5) NotWorking
    (cond (eqb n 7) NoneWorking LedToIdle)))))))))

pub numbered_as : (x : Refusal) → numbered (number_of x) ≡ x
numbered_as WrongLengths = refl
numbered_as UnsoundRoster = refl
numbered_as Malformed = refl
numbered_as ServerZero = refl
numbered_as NotEmpty = refl
numbered_as HeldAlready = refl
numbered_as RosterFull = refl
numbered_as NotInHorizon = refl
numbered_as NotWorking = refl
numbered_as NoneWorking = refl
numbered_as LedToIdle = refl

pub refusal_apart : (x y : Refusal) → number_of x ≡ number_of y → x ≡ y
refusal_apart x y e = sym (numbered_as x) ∙ ap numbered e ∙ numbered_as y
