-- Answers that come to the same numbers are the same.
use Rattle.std.proofs.Common.{◌≡◌, ℕ, cond, eqb, List, Option, Some, None, refl, sym, ap, ◌∙◌}
use Rattle.frames.proofs.Unique.{skip_of, reason_back}
use Rattle.pcap.specs.declared.Refusal.{Refusal}
use Rattle.pcap.specs.declared.Refusal.TheVariants.{BadMagic, TruncatedHeader, TruncatedRecord}
use Rattle.pcap.specs.declared.Said.{Said as Answer}
use Rattle.pcap.specs.declared.Said.TheVariants.{Event as event-given, Skipped as skip-said, Finished as end-said, Refused as refusal-said}
use Rattle.pcap.specs.declared.Step.{Step as Taken}
use Rattle.pcap.specs.Captures.{Said, Event, Skipped, Finished, Refused, Step, number_of, refusal_found, said_of, event_of, step_of}

-- the refusal that has a number
abbrev pub refusal_by : ℕ → Refusal
refusal_by n = cond (eqb n 20) BadMagic (cond (eqb n 21) TruncatedHeader TruncatedRecord)

pub number_back : (r : Refusal) → refusal_by (number_of r) ≡ r
number_back BadMagic = refl
number_back TruncatedHeader = refl
number_back TruncatedRecord = refl

abbrev pub found_by : ℕ → Option Refusal
found_by n = cond (eqb n 0) None (Some (refusal_by n))

found_back : (r : Option Refusal) → found_by (refusal_found r) ≡ r
found_back None = refl
found_back (Some BadMagic) = refl
found_back (Some TruncatedHeader) = refl
found_back (Some TruncatedRecord) = refl

pub found_one : (x y : Option Refusal) → refusal_found x ≡ refusal_found y → x ≡ y
found_one x y e = sym (found_back x) ∙ ap found_by e ∙ found_back y

-- the answer that says this, with this event
abbrev answer_by : Said → List ℕ → Answer
answer_by Event e = event-given e
answer_by (Skipped why) e = skip-said (skip_of why)
answer_by Finished e = end-said
answer_by (Refused n) e = refusal-said (refusal_by n)

answer_back : (x : Answer) → answer_by (said_of x) (event_of x) ≡ x
answer_back (event-given e) = refl
answer_back (skip-said why) = ap skip-said (reason_back why)
answer_back end-said = refl
answer_back (refusal-said r) = ap refusal-said (number_back r)

abbrev taken_by : Step → Taken
taken_by s = record { said = answer_by s.said s.event; at = s.at; tally = s.tally }

taken_back : (x : Taken) → taken_by (step_of x) ≡ x
taken_back x = ap (λ (a : Answer). record { said = a; at = x.at; tally = x.tally }) (answer_back x.said)

pub step_one : (x y : Taken) → step_of x ≡ step_of y → x ≡ y
step_one x y e = sym (taken_back x) ∙ ap taken_by e ∙ taken_back y
