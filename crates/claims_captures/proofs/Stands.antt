-- What a capture's whole records gave stays, whatever bytes come behind; and what is given then is that of the bytes left, behind the same
-- header.
use Prim.Native.Nat.{ℕ, ◌+◌, ◌-◌, ◌≤◌}
use mathlib.Core.Bool.{Bool, true, cond}
use mathlib.Core.List.{List, [], ◌∷◌, ◌++◌, map, map-append, append_assoc}
use mathlib.Core.Path.{◌≡◌, refl, sym, ap, ◌∙◌}
use native.Mathlib.Nat.{zero-add, suc-add}
use native.Mathlib.Omega.{arith}
use lib.Dec.{eqb}
use lib.ListN.{length, drop, length-drop, length-append}
use lib.Seq.{drop-append-le, length-take-le}
use borrow.Author.Tests.{eq-eqb}
use Rattle.sets.proofs.Cases.{both}
use Rattle.frames.specs.Frames.{Outcome, outcome}
use Rattle.pcap.specs.Captures.{low_first, ethernet, header_refusal, header_bytes, events_of, all_events, counted, packets_in, outcomes_in, refusal_in, refused_at, short_record}
use Rattle.claims_captures.specs.Captured.{carried_on, BeforeStands}
use Rattle.claims_captures.proofs.Records.{packets_of, left_of, packets-append, left_append}
use Rattle.claims_captures.proofs.Files.{sound_long, SameHeader, low_same, ethernet-same, refusal_same, header_append, header_other, behind_header, packets-behind, refusal_left, refused_left, refused_within, refused-behind, left_from}

-- ---- events and sums of packets, then more packets

pub events_append : (os qs : List Outcome) → all_events (os ++ qs) ≡ all_events os ++ all_events qs
unfolding all_events
events_append [] qs = refl
events_append (o ∷ os) qs = rw (events_append os qs) (sym (append_assoc (events_of o) (all_events os) (all_events qs)))

pub counted-append : (why : ℕ) (os qs : List Outcome) → counted why (os ++ qs) ≡ counted why os + counted why qs
unfolding counted
counted-append why [] qs = sym (zero-add (counted why qs))
counted-append why (o ∷ os) qs =
    both (eqb o.reason why) (λ e. rw (e, counted-append why os qs, suc-add (counted why os) (counted why qs))) (λ e. rw (e, counted-append why os qs))

-- ---- the files

-- a file with the same header as a sound one: its packets, what is left and its refusal, by the bytes behind
module _ (f g : List ℕ) (h : SameHeader g f) (sound : eqb (header_refusal f) 0 ≡ true) where
  sound_too : eqb (header_refusal g) 0 ≡ true
  sound_too = ap (λ (n : ℕ). eqb n 0) (refusal_same h) ∙ sound

  packets_too : packets_in g ≡ packets_of (low_first f) (drop header_bytes g)
  packets_too = packets-behind g sound_too ∙ ap (λ (low : Bool). packets_of low (drop header_bytes g)) (low_same h)

  left_too : left_of (low_first g) (drop header_bytes g) ≡ left_of (low_first f) (drop header_bytes g)
  left_too = ap (λ (low : Bool). left_of low (drop header_bytes g)) (low_same h)

  outcomes_too : outcomes_in g ≡ map (outcome (ethernet f)) (packets_in g)
  outcomes_too = ap (λ (e : Bool). map (outcome e) (packets_in g)) (ethernet-same h)

module _ (f more : List ℕ) (sound : eqb (header_refusal f) 0 ≡ true) where
  long : header_bytes ≤ length f
  long = sound_long f sound

  -- the bytes behind the header, of the longer file and of what is carried on
  behind_longer : drop header_bytes (f ++ more) ≡ drop header_bytes f ++ more
  behind_longer = drop-append-le header_bytes f more long

  behind-carried : drop header_bytes (carried_on f more) ≡ left_of (low_first f) (drop header_bytes f) ++ more
  behind-carried = behind_header f (drop (refused_at f) f ++ more) long ∙ ap (λ (l : List ℕ). l ++ more) (sym (left_from f sound))

  pub longer : SameHeader (f ++ more) f
  longer = header_append f more long

  pub carried : SameHeader (carried_on f more) f
  carried = header_other f (drop (refused_at f) f ++ more) long

  packets_on : packets_in (f ++ more) ≡ packets_in f ++ packets_in (carried_on f more)
  packets_on =
      packets_too f (f ++ more) longer sound
      ∙ ap (packets_of (low_first f)) behind_longer
      ∙ packets-append (length (drop header_bytes f)) (low_first f) (drop header_bytes f) more (omega arith)
      ∙ rw (packets_too f (carried_on f more) carried sound, behind-carried, packets-behind f sound)

  pub outcomes_on : outcomes_in (f ++ more) ≡ outcomes_in f ++ outcomes_in (carried_on f more)
  outcomes_on =
      outcomes_too f (f ++ more) longer sound
      ∙ ap (map (outcome (ethernet f))) packets_on
      ∙ map-append (outcome (ethernet f)) (packets_in f) (packets_in (carried_on f more))
      ∙ ap (λ (os : List Outcome). outcomes_in f ++ os) (sym (outcomes_too f (carried_on f more) carried sound))

  left_on : left_of (low_first (f ++ more)) (drop header_bytes (f ++ more)) ≡ left_of (low_first (carried_on f more)) (drop header_bytes (carried_on f more))
  left_on =
      left_too f (f ++ more) longer sound
      ∙ ap (left_of (low_first f)) behind_longer
      ∙ left_append (length (drop header_bytes f)) (low_first f) (drop header_bytes f) more (omega arith)
      ∙ ap (left_of (low_first f)) (sym behind-carried)
      ∙ sym (left_too f (carried_on f more) carried sound)

  refusal_on : refusal_in (f ++ more) ≡ refusal_in (carried_on f more)
  refusal_on =
      refusal_left (f ++ more) (sound_too f (f ++ more) longer sound)
      ∙ ap (λ (l : List ℕ). cond (eqb (length l) 0) 0 short_record) left_on
      ∙ sym (refusal_left (carried_on f more) (sound_too f (carried_on f more) carried sound))

  carried-length : length (carried_on f more) ≡ header_bytes + ((length f - refused_at f) + length more)
  carried-length =
      simp (length-append, length-take-le header_bytes f long, length-drop)

  place_on : refused_at (f ++ more) ≡ (refused_at f - header_bytes) + refused_at (carried_on f more)
  place_on =
      let sound' = sound_too f (carried_on f more) carried sound in
      let left = left_of (low_first (carried_on f more)) (drop header_bytes (carried_on f more)) in
      let here = refused_left (carried_on f more) sound' in
      refused_left (f ++ more) (sound_too f (f ++ more) longer sound)
      ∙ ap (λ (l : List ℕ). length (f ++ more) - length l) left_on
      ∙ omega
      (arith, here, length-append f more, carried-length, refused-behind (carried_on f more) sound', refused_within f sound, refused-behind f sound)

pub before_stands : BeforeStands
before_stands f more zero-refusal =
    let sound = eq-eqb (header_refusal f) 0 zero-refusal in
    let on = outcomes_on f more sound in
    record {
      packets_go_on = packets_on f more sound;
      events_go_on = ap all_events on ∙ events_append (outcomes_in f) (outcomes_in (carried_on f more));
      reads_go_on = ap length (packets_on f more sound) ∙ length-append (packets_in f) (packets_in (carried_on f more));
      sums_go_on = λ why. ap (counted why) on ∙ counted-append why (outcomes_in f) (outcomes_in (carried_on f more));
      refusal_goes_on = refusal_on f more sound;
      place_goes_on = place_on f more sound;
    }
