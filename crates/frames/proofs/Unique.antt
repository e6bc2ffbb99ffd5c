-- No second answer keeps the promise of `judge`. `Learnt` is what a caller learns from its contract.
use Rattle.std.proofs.Common.{◌≡◌, ℕ, cond, eqb, Result, Ok, Err, refl, sym, ap, ◌∙◌}
use Rattle.frames.specs.declared.Carried.{Carried}
use Rattle.frames.specs.declared.Skip.{Skip}
use Rattle.frames.specs.declared.Skip.TheVariants.{LinkType, NotIpv4, Fragment, OtherProtocol, CutShort}
use Rattle.frames.specs.Frames.{Outcome, reason_of, outcome_of}
use Rattle.frames.proofs.judge.Reads.{Learnt as judge-promise}

-- the reason that has a number
abbrev pub skip_of : ℕ → Skip
skip_of n = cond (eqb n 1) LinkType (cond (eqb n 2) NotIpv4 (cond (eqb n 3) Fragment (cond (eqb n 4) OtherProtocol CutShort)))

pub reason_back : (why : Skip) → skip_of (reason_of why) ≡ why
reason_back LinkType = refl
reason_back NotIpv4 = refl
reason_back Fragment = refl
reason_back OtherProtocol = refl
reason_back CutShort = refl

-- the answer that has an outcome
abbrev answer_of : Outcome → Result Carried Skip
answer_of o = cond (eqb o.reason 0) (Ok (record { fin = o.fin; key = o.key })) (Err (skip_of o.reason))

answer_back : (r : Result Carried Skip) → answer_of (outcome_of r) ≡ r
answer_back (Ok c) = refl
answer_back (Err LinkType) = refl
answer_back (Err NotIpv4) = refl
answer_back (Err Fragment) = refl
answer_back (Err OtherProtocol) = refl
answer_back (Err CutShort) = refl

-- answers with one outcome are one
pub outcome_one : (x y : Result Carried Skip) → outcome_of x ≡ outcome_of y → x ≡ y
outcome_one x y e = sym (answer_back x) ∙ ap answer_of e ∙ answer_back y

pub judge_unique : (κs : _) (a : _) (x y : Result Carried Skip) (e e' : _) → judge-promise κs a x e → judge-promise κs a y e' → x ≡ y
judge_unique κs a x y e e' p q = outcome_one x y (p ∙ sym q)
