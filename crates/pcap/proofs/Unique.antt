-- No second answer keeps the promise of a function of this crate (UniqueReaders has those over a reader). `Learnt` is what a caller
-- learns from the function's contract.
use Rattle.std.proofs.Common.{◌≡◌, ℕ, Bool, Option, sym, ◌∙◌}
use Rattle.pcap.specs.declared.Refusal.{Refusal}
use Rattle.pcap.specs.declared.Step.{Step}
use Rattle.pcap.specs.declared.Tally.{Tally}
use Rattle.pcap.proofs.Answered.{step_one, found_one}
use Rattle.pcap.proofs.Refusal.number.Reads.{Learnt as number-promise}
use Rattle.pcap.proofs.nothing.Reads.{Learnt as nothing-promise}
use Rattle.pcap.proofs.file.low_first.Reads.{Learnt as low-first-promise}
use Rattle.pcap.proofs.file.captured_length.Reads.{Learnt as captured-length-promise}
use Rattle.pcap.proofs.steps.step_at.Reads.{Learnt as step-at-promise}
use Rattle.pcap.proofs.steps.refusal_at.Reads.{Learnt as refusal-at-promise}

pub number_unique : (κs : _) (a : _) (x y : ℕ) (e e' : _) → number-promise κs a x e → number-promise κs a y e' → x ≡ y
number_unique κs a x y e e' p q = cc

pub nothing_unique : (κs : _) (a : _) (x y : Tally) (e e' : _) → nothing-promise κs a x e → nothing-promise κs a y e' → x ≡ y
nothing_unique κs a x y e e' p q = cc

pub low_first_unique : (κs : _) (a : _) (x y : Bool) (e e' : _) → low-first-promise κs a x e → low-first-promise κs a y e' → x ≡ y
low_first_unique κs a x y e e' p q = cc

pub captured-length_unique : (κs : _) (a : _) (x y : Option ℕ) (e e' : _) → captured-length-promise κs a x e → captured-length-promise κs a y e' → x ≡ y
captured-length_unique κs a x y e e' p q = cc

pub step_at_unique : (κs : _) (a : _) (x y : Step) (e e' : _) → step-at-promise κs a x e → step-at-promise κs a y e' → x ≡ y
step_at_unique κs a x y e e' p q = step_one x y (p ∙ sym q)

pub refusal_at_unique : (κs : _) (a : _) (x y : Option Refusal) (e e' : _) → refusal-at-promise κs a x e → refusal-at-promise κs a y e' → x ≡ y
refusal_at_unique κs a x y e e' p q = found_one x y (p ∙ sym q)
