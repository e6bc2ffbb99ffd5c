-- What a capture that has ended is refused by: what stands first in its window.
use Rattle.std.proofs.Common.{◌≡◌, ℕ, ◌+◌, ◌%◌, ◌^◌, min, false, cond, eqb, ltb, leb, Option, Some, None, List, length, take, drop, sym, refl, ap, ◌∙◌, arith, take_all, leb-false, leb-true, eq-eqb, ne_eqb}
use Rattle.sets.proofs.Cases.{both}
use Rattle.frames.specs.Frames.{Outcome, outcome, emitted}
use Rattle.pcap.specs.declared.Tally.{Tally}
use Rattle.pcap.specs.declared.Refusal.{Refusal}
use Rattle.pcap.specs.declared.Refusal.TheVariants.{BadMagic, TruncatedHeader, TruncatedRecord}
use Rattle.pcap.specs.Captures.{number_of, refusal_found, header_refusal, low_first, ethernet, whole, packet, record_size, step_at, record_at, meets, refusal_at}
use Rattle.pieces.specs.Streams.{Stream, ending, last_said}

-- a window that would end behind the buffer ends with it
pub take_lower : (n m : ℕ) (b : List ℕ) → m ≡ min n (length b) → take m b ≡ take n b
take_lower n m b e =
    both (leb n (length b))
    (λ t. let h : m ≡ n = omega (arith, leb-true n (length b) t) in rw h refl)
    (λ f. take_all m b (omega (arith, leb-false n (length b) f)) ∙ sym (take_all n b (omega (arith, leb-false n (length b) f))))

-- a whole packet is never refused
gives_none : (o : Outcome) (at next : ℕ) (t : Tally) → last_said (meets o at next t).said ≡ 0
unfolding meets
gives_none o at next t =
    both (eqb o.reason emitted)
    (λ e. rw e (both o.fin (λ f. rw f (both t.due (λ d. rw d refl) (λ d. rw d refl))) (λ f. rw f refl)))
    (λ e. rw e refl)

-- what stands first in a window is refused by what the reader would say there
pub said_first : (f : List ℕ) (at : ℕ) (t : Tally) → refusal_at f at ≡ last_said (step_at f at t).said
unfolding refusal_at step_at record_at
said_first f at t =
    both (eqb (header_refusal f) 0)
    (λ h. rw h
    (both (ltb at (length f))
    (λ m. rw m
    (both (whole (low_first f) (drop at f))
    (λ w. rw w (sym (gives_none (outcome (ethernet f) (packet (low_first f) (drop at f))) at (at + record_size (low_first f) (drop at f)) t)))
    (λ w. rw w refl)))
    (λ m. rw m refl)))
    (λ h. rw h refl)

-- ---- what a capture that has ended is refused by, by what stands first in the window

number_some : (r : Refusal) → eqb (number_of r) 0 ≡ false
number_some BadMagic = refl
number_some TruncatedHeader = refl
number_some TruncatedRecord = refl

module _ (b : List ℕ) (s : Stream) (found : Option Refusal) (have : ℕ) (h : have ≡ min s.have (length b))
    (e : refusal_found found ≡ refusal_at (take have b) 24) where
  first-is : refusal_found found ≡ last_said (step_at (take s.have b) 24 s.tally).said
  first-is = e ∙ ap (λ (l : List ℕ). refusal_at l 24) (take_lower s.have have b h) ∙ said_first (take s.have b) 24 s.tally

  pub ending_some : (r : Refusal) → found ≡ Some r
      → record { refusal = number_of r; at = cond (eqb (number_of r) 22) ((s.before + 24) % 2 ^ 64) 0 } ≡ ending b s
  unfolding ending
  ending_some r is =
      let n : last_said (step_at (take s.have b) 24 s.tally).said ≡ number_of r = sym first-is ∙ ap refusal_found is in
      rw (n, number_some r) refl

  pub ending_short : found ≡ None → (s.pass ≡ 0 → ⊥) → record { refusal = 22; at = (s.before + 24) % 2 ^ 64 } ≡ ending b s
  unfolding ending
  ending_short is some =
      let n : last_said (step_at (take s.have b) 24 s.tally).said ≡ 0 = sym first-is ∙ ap refusal_found is in
      rw (n, ne_eqb s.pass 0 some) refl

  pub ending_none : found ≡ None → s.pass ≡ 0 → record { refusal = 0; at = 0 } ≡ ending b s
  unfolding ending
  ending_none is none =
      let n : last_said (step_at (take s.have b) 24 s.tally).said ≡ 0 = sym first-is ∙ ap refusal_found is in
      rw (n, eq-eqb s.pass 0 none) refl
