-- The reader's sums after packets of some outcomes: each is the number of packets that it counts, modulo 2^64.
use Prim.Native.Nat.{ℕ, suc, ◌+◌, ◌<◌, ◌%◌, ◌^◌}
use mathlib.Core.Bool.{Bool, true, false, cond}
use mathlib.Core.List.{List, [], ◌∷◌, ◌++◌}
use mathlib.Core.Path.{◌≡◌, refl, ap, ◌∙◌}
use native.Mathlib.Omega.{arith}
use lib.Dec.{eqb}
use lib.ListN.{length}
use Rattle.sets.proofs.Cases.{both}
use Rattle.pcap.specs.declared.Tally.{Tally}
use Rattle.pcap.specs.Captures.{counted, nothing, one_more, with_one}
use Rattle.claims_captures.specs.Captured.{sums_of}
use Rattle.frames.specs.Frames.{Outcome}

-- the sums once packets of these outcomes are read
abbrev pub counting : List Outcome → Tally → Tally
counting [] t = t
counting (o ∷ os) t = counting os (with_one o.reason false t)

pub counting-append : (os qs : List Outcome) (t : Tally) → counting (os ++ qs) t ≡ counting qs (counting os t)
counting-append [] qs t = refl
counting-append (o ∷ os) qs t = counting-append os qs (with_one o.reason false t)

-- no end is due then
pub counting_due : (os : List Outcome) (t : Tally) → t.due ≡ false → (counting os t).due ≡ false
unfolding with_one
counting_due [] t h = h
counting_due (o ∷ os) t h = counting_due os (with_one o.reason false t) refl

-- ---- one sum

-- a sum that counts the outcomes for which a test holds
abbrev total : (Outcome → Bool) → List Outcome → ℕ → ℕ
total holds [] n = n
total holds (o ∷ os) n = total holds os (one_more (holds o) n)

abbrev count : (Outcome → Bool) → List Outcome → ℕ
count holds [] = 0
count holds (o ∷ os) = cond (holds o) (suc (count holds os)) (count holds os)

total-is : (holds : Outcome → Bool) (os : List Outcome) (n : ℕ) → n < 2 ^ 64 → total holds os n ≡ (n + count holds os) % 2 ^ 64
total-is holds [] n h = omega arith
total-is holds (o ∷ os) n h =
    both (holds o) (λ e. rw e (total-is holds os ((n + 1) % 2 ^ 64) (omega arith) ∙ omega arith)) (λ e. rw e (total-is holds os n h))

count_reason : (why : ℕ) (os : List Outcome) → count (λ o. eqb o.reason why) os ≡ counted why os
unfolding counted
count_reason why [] = refl
count_reason why (o ∷ os) = rw (count_reason why os)

count-all : (os : List Outcome) → count (λ o. true) os ≡ length os
count-all [] = refl
count-all (o ∷ os) = ap suc (count-all os)

-- ---- each sum of the reader is one of these

sum_is : (sum : Tally → ℕ) (holds : Outcome → Bool)
    → ((o : Outcome) (t : Tally) → sum (with_one o.reason false t) ≡ one_more (holds o) (sum t)) → (os : List Outcome) (t : Tally)
    → sum (counting os t) ≡ total holds os (sum t)
sum_is sum holds law [] t = refl
sum_is sum holds law (o ∷ os) t =
    sum_is sum holds law os (with_one o.reason false t) ∙ ap (total holds os) (law o t)

-- from a sum of 0
from_zero : (n c : ℕ) → n ≡ (0 + c) % 2 ^ 64 → n ≡ c % 2 ^ 64
from_zero n c e = omega arith

of_reason : (why : ℕ) (os : List Outcome) → total (λ o. eqb o.reason why) os 0 ≡ counted why os % 2 ^ 64
of_reason why os =
    from_zero _ _ (total-is (λ o. eqb o.reason why) os 0 (omega arith) ∙ ap (λ (n : ℕ). (0 + n) % 2 ^ 64) (count_reason why os))

of_all : (os : List Outcome) → total (λ o. true) os 0 ≡ length os % 2 ^ 64
of_all os = from_zero _ _ (total-is (λ o. true) os 0 (omega arith) ∙ ap (λ (n : ℕ). (0 + n) % 2 ^ 64) (count-all os))

-- from nothing on, the reader's sums are the outcomes' numbers modulo 2^64
pub counting_sums : (os : List Outcome) → counting os nothing ≡ sums_of os
unfolding with_one
counting_sums os i =
    record {
      due = counting_due os nothing refl i;
      read = (sum_is (λ t. t.read) (λ o. true) (λ o t. refl) os nothing ∙ of_all os) i;
      emitted = (sum_is (λ t. t.emitted) (λ o. eqb o.reason 0) (λ o t. refl) os nothing ∙ of_reason 0 os) i;
      linktype = (sum_is (λ t. t.linktype) (λ o. eqb o.reason 1) (λ o t. refl) os nothing ∙ of_reason 1 os) i;
      notipv4 = (sum_is (λ t. t.notipv4) (λ o. eqb o.reason 2) (λ o t. refl) os nothing ∙ of_reason 2 os) i;
      fragment = (sum_is (λ t. t.fragment) (λ o. eqb o.reason 3) (λ o t. refl) os nothing ∙ of_reason 3 os) i;
      other = (sum_is (λ t. t.other) (λ o. eqb o.reason 4) (λ o t. refl) os nothing ∙ of_reason 4 os) i;
      short = (sum_is (λ t. t.short) (λ o. eqb o.reason 5) (λ o t. refl) os nothing ∙ of_reason 5 os) i;
    }
