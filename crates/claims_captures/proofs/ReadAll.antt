-- The reader, called until there is no more, gives what is defined from the file.
use Prim.Native.Nat.{ℕ, zero, suc, ◌+◌, ◌-◌, ◌<◌, ◌≤◌, ◌%◌, ◌^◌}
use mathlib.Core.Bool.{Bool, true, false, cond}
use mathlib.Core.List.{List, [], ◌∷◌, map}
use mathlib.Core.Path.{◌≡◌, refl, sym, ap, ◌∙◌}
use native.Mathlib.Nat.{not-suc-le-zero, le_of_suc-le-suc}
use native.Mathlib.Omega.{arith}
use lib.Dec.{eqb, ltb}
use lib.ListN.{length, drop, length-drop, length-append, length-map}
use lib.Seq.{drop-drop}
use borrow.Author.Tests.{ltb-true, ltb-false, lt-ltb, le-ltb, eqb-true, ne_eqb}
use Rattle.sets.proofs.Cases.{both}
use Rattle.event.specs.Event.{packet_kind, end_kind}
use Rattle.frames.specs.Frames.{Outcome, outcome, emitted}
use Rattle.pcap.specs.declared.Tally.{Tally}
use Rattle.pcap.specs.Captures.{Event, Skipped, Finished, Refused, low_first, ethernet, header_refusal, header_bytes, whole, record_size, packet, behind, packets, event_record, events_of, all_events, counted, read_in, outcomes_in, refusal_in, short_record, nothing, step_at, record_at, meets, silent, with_one}
use Rattle.pieces.specs.Pieces.{Ran, stopped, with_event, read_on, enough}
use Rattle.pieces.proofs.Turns.{turn, whole-behind}
use Rattle.claims_captures.proofs.Records.{few_whole, packets_of, left_of, packets-first, left_first, packets-none, left_all, behind-length}
use Rattle.claims_captures.specs.Captured.{with_events, sums_of, counts_of, said_at_end, ReadsAll, Reading, OneReading, ReadingExactly}
use Rattle.claims_captures.proofs.Sums.{counting, counting_sums}
use Rattle.claims_captures.proofs.Files.{sound_long, packets-behind, refusal_left, refused_left, refusal_bad}

-- ---- one call, by what it meets

module _ (f : List ℕ) (at : ℕ) (t : Tally) (sound : eqb (header_refusal f) 0 ≡ true) where
  pub step_end : length f ≤ at → step_at f at t ≡ silent Finished at t
  unfolding step_at
  step_end h = rw (sound, le-ltb at (length f) h)

  pub step_short : at < length f → whole (low_first f) (drop at f) ≡ false → step_at f at t ≡ silent (Refused short_record) at t
  unfolding step_at record_at
  step_short h w = rw (sound, lt-ltb at (length f) h, w)

  pub step_packet : at < length f → whole (low_first f) (drop at f) ≡ true
      → step_at f at t ≡ meets (outcome (ethernet f) (packet (low_first f) (drop at f))) at (at + record_size (low_first f) (drop at f)) t
  unfolding step_at record_at
  step_packet h w = rw (sound, lt-ltb at (length f) h, w)

-- ---- the turns at one packet

-- a turn whose call is known
module _ (k : ℕ) (f : List ℕ) (at : ℕ) (t : Tally) where
  given_turn : (e : List ℕ) (next : ℕ) (t' : Tally) → step_at f at t ≡ record { said = Event; event = e; at = next; tally = t' }
      → read_on (enough f) (suc k) f at t ≡ with_event e (read_on (enough f) k f next t')
  given_turn e next t' step = turn k f at t ∙ rw step

  passed_turn : (why next : ℕ) (t' : Tally) → step_at f at t ≡ silent (Skipped why) next t'
      → read_on (enough f) (suc k) f at t ≡ read_on (enough f) (suc k) f next t'
  passed_turn why next t' step = turn k f at t ∙ rw step

  ended_turn : step_at f at t ≡ silent Finished at t → read_on (enough f) (suc k) f at t ≡ stopped Finished at t
  ended_turn step = turn k f at t ∙ rw step

  pub refused_turn : (n : ℕ) → step_at f at t ≡ silent (Refused n) at t → read_on (enough f) (suc k) f at t ≡ stopped (Refused n) at t
  refused_turn n step = turn k f at t ∙ rw step

-- a whole packet: its events are given, it is counted, and the reader is behind it; there must be room for one event more than it gives
packet_turns : (j : ℕ) (f : List ℕ) (at next : ℕ) (t : Tally) (o : Outcome)
    → ((s : Tally) → step_at f at s ≡ meets o at next s) → t.due ≡ false
    → read_on (enough f) (length (events_of o) + suc j) f at t
    ≡ with_events (events_of o) (read_on (enough f) (suc j) f next (with_one o.reason false t))
unfolding meets with_one
packet_turns j f at next t o step due =
    both (eqb o.reason emitted) (λ e. let r : o.reason ≡ 0 = eqb-true o.reason emitted e in
    both o.fin (λ fin.
    let k : length (events_of o) + suc j ≡ suc (suc (suc j)) = rw (e, fin) (omega arith) in
    ap (λ (n : ℕ). read_on (enough f) n f at t) k
    ∙ given_turn (suc (suc j)) f at t (event_record packet_kind o.key) at (with_one emitted true t) (step t ∙ rw (e, fin, due))
    ∙ ap (with_event (event_record packet_kind o.key))
    (given_turn (suc j) f at (with_one emitted true t) (event_record end_kind o.key) next (with_one emitted false t)
    (step (with_one emitted true t) ∙ rw (e, fin)))
    ∙ rw (r, fin)) (λ fin.
    let k : length (events_of o) + suc j ≡ suc (suc j) = rw (e, fin) (omega arith) in
    ap (λ (n : ℕ). read_on (enough f) n f at t) k
    ∙ given_turn (suc j) f at t (event_record packet_kind o.key) next (with_one emitted false t) (step t ∙ rw (e, fin))
    ∙ rw (r, fin))) (λ e.
    let k : length (events_of o) + suc j ≡ suc j = rw e (omega arith) in
    ap (λ (n : ℕ). read_on (enough f) n f at t) k
    ∙ passed_turn j f at t o.reason next (with_one o.reason false t) (step t ∙ rw e)
    ∙ rw e)

-- ---- the turns from a place on

-- what the reader comes to, by the packets that it meets and the bytes that are left
abbrev pub through : List ℕ → Tally → List (List ℕ) → List ℕ → Ran
through f t ps left =
    let os = map (outcome (ethernet f)) ps in
    record {
      events = all_events os;
      said = cond (eqb (length left) 0) Finished (Refused short_record);
      at = length f - length left;
      tally = counting os t;
    }

-- a whole record: its packet comes first, and the others from the place behind it on
module _ (low : Bool) (f : List ℕ) (at : ℕ) (w : whole low (drop at f) ≡ true) where
  packets_next : packets_of low (drop at f) ≡ packet low (drop at f) ∷ packets_of low (drop (at + record_size low (drop at f)) f)
  packets_next = packets-first low (drop at f) w ∙ rw (drop-drop (record_size low (drop at f)) at f)

  left_next : left_of low (drop at f) ≡ left_of low (drop (at + record_size low (drop at f)) f)
  left_next = left_first low (drop at f) w ∙ rw (drop-drop (record_size low (drop at f)) at f)

-- at the end
read_end : (k : ℕ) (f : List ℕ) (at : ℕ) (t : Tally) → eqb (header_refusal f) 0 ≡ true → at ≤ length f → length f - at ≤ 0
    → read_on (enough f) (suc k) f at t ≡ through f t (packets_of (low_first f) (drop at f)) (left_of (low_first f) (drop at f))
unfolding all_events
read_end k f at t sound within h =
    let none : length (drop at f) ≡ 0 = simp length-drop (omega arith) in
    let w = few_whole (low_first f) (drop at f) (omega arith) in
    let here : length f - 0 ≡ at = omega arith in
    rw (packets-none (low_first f) (drop at f) w, left_all (low_first f) (drop at f) w, none, here)
    (ended_turn k f at t (step_end f at t sound (omega arith)))

-- at bytes that are no whole record
read_short : (k : ℕ) (f : List ℕ) (at : ℕ) (t : Tally) → eqb (header_refusal f) 0 ≡ true → at < length f → whole (low_first f) (drop at f) ≡ false
    → read_on (enough f) (suc k) f at t ≡ through f t (packets_of (low_first f) (drop at f)) (left_of (low_first f) (drop at f))
unfolding all_events
read_short k f at t sound h w =
    let left : length (drop at f) ≡ length f - at = length-drop at f in
    let here : length f - (length f - at) ≡ at = omega arith in
    rw (packets-none (low_first f) (drop at f) w, left_all (low_first f) (drop at f) w, left, here, ne_eqb (length f - at) 0 (λ e. omega arith))
    (refused_turn k f at t short_record (step_short f at t sound h w))

-- from any place of a file with a sound header, with no end due
pub read_from : (m k : ℕ) (f : List ℕ) (at : ℕ) (t : Tally) → eqb (header_refusal f) 0 ≡ true → t.due ≡ false → at ≤ length f → length f - at ≤ m
    → length (all_events (map (outcome (ethernet f)) (packets_of (low_first f) (drop at f)))) ≤ k
    → read_on (enough f) (suc k) f at t ≡ through f t (packets_of (low_first f) (drop at f)) (left_of (low_first f) (drop at f))
unfolding all_events with_one
read_from zero k f at t sound due within far room = read_end k f at t sound within far
read_from (suc m) k f at t sound due within far room =
    both (ltb at (length f)) (λ more. let h = ltb-true at (length f) more in
    both (whole (low_first f) (drop at f)) (λ w.
    let low = low_first f in
    let p = packet low (drop at f) in
    let o = outcome (ethernet f) p in
    let next = at + record_size low (drop at f) in
    let behind = whole-behind low f at more w in
    let pe = packets_next low f at w in
    let room' = simp length-append at (rw pe at room) in
    let n = length (events_of o) in
    let split : suc k ≡ n + suc (k - n) = omega arith in
    ap (λ (c : ℕ). read_on (enough f) c f at t) split
    ∙ packet_turns (k - n) f at next t o (λ s. step_packet f at s sound h w) due
    ∙ ap (with_events (events_of o)) (read_from m (k - n) f next (with_one o.reason false t) sound refl behind.within (omega arith) (omega arith))
    ∙ rw (pe, left_next low f at w)) (λ w. read_short k f at t sound h w)) (λ more.
    read_end k f at t sound within (omega (arith, ltb-false at (length f) more)))

-- ---- a whole file

-- what the reader says at the end, by the bytes left
said_left : (left : List ℕ) (refusal : ℕ) → refusal ≡ cond (eqb (length left) 0) 0 short_record
    → cond (eqb (length left) 0) Finished (Refused short_record) ≡ said_at_end refusal
said_left left refusal e = both (eqb (length left) 0) (λ z. rw (e, z)) (λ z. rw (e, z))

reads_sound : (f : List ℕ) → eqb (header_refusal f) 0 ≡ true
    → ReadsAll f (through f nothing (packets_of (low_first f) (drop header_bytes f)) (left_of (low_first f) (drop header_bytes f)))
reads_sound f sound =
    let same = packets-behind f sound in
    record {
      events_are = ap (λ (ps : List (List ℕ)). all_events (map (outcome (ethernet f)) ps)) (sym same);
      said_is = said_left (left_of (low_first f) (drop header_bytes f)) (refusal_in f) (refusal_left f sound);
      stands = sym (refused_left f sound) ∙ rw sound;
      sums_are =
          counting_sums (map (outcome (ethernet f)) (packets_of (low_first f) (drop header_bytes f)))
          ∙ ap (λ (ps : List (List ℕ)). sums_of (map (outcome (ethernet f)) ps)) (sym same);
    }

reads_bad : (f : List ℕ) → eqb (header_refusal f) 0 ≡ false → ReadsAll f (stopped (Refused (header_refusal f)) header_bytes nothing)
unfolding all_events counted
reads_bad f bad =
    record {
      events_are = rw bad;
      said_is = rw (refusal_bad f bad, bad);
      stands = rw bad;
      sums_are = rw bad;
    }

pub step_bad : (f : List ℕ) (at : ℕ) (t : Tally) → eqb (header_refusal f) 0 ≡ false → step_at f at t ≡ silent (Refused (header_refusal f)) at t
unfolding step_at
step_bad f at t bad = rw bad

pub reads_all : Reading
reads_all f zero room = absurd (not-suc-le-zero room)
reads_all f (suc k) room =
    both (eqb (header_refusal f) 0) (λ sound.
    rw
    (read_from (length f) k f header_bytes nothing sound refl (sound_long f sound) (omega arith)
    (le_of_suc-le-suc (rw (packets-behind f sound) at room)))
    (reads_sound f sound))
    (λ bad. rw (refused_turn k f header_bytes nothing (header_refusal f) (step_bad f header_bytes nothing bad)) (reads_bad f bad))

pub one_reading : OneReading
one_reading f r s x y i =
    record {
      events = (x.events_are ∙ sym y.events_are) i;
      said = (x.said_is ∙ sym y.said_is) i;
      at = (x.stands ∙ sym y.stands) i;
      tally = (x.sums_are ∙ sym y.sums_are) i;
    }

-- ---- sums that fit

counted_few : (why : ℕ) (os : List Outcome) → counted why os ≤ length os
unfolding counted
counted_few why [] = omega arith
counted_few why (o ∷ os) =
    let fewer = counted_few why os in both (eqb o.reason why) (λ e. rw e (omega arith)) (λ e. rw e (omega arith))

fits : (n m : ℕ) → n ≤ m → m < 2 ^ 64 → n % 2 ^ 64 ≡ n
fits n m h small = omega arith

sums_exact : (os : List Outcome) → length os < 2 ^ 64 → sums_of os ≡ counts_of os
sums_exact os small i =
    record {
      due = false;
      read = fits (length os) (length os) (omega arith) small i;
      emitted = fits (counted 0 os) (length os) (counted_few 0 os) small i;
      linktype = fits (counted 1 os) (length os) (counted_few 1 os) small i;
      notipv4 = fits (counted 2 os) (length os) (counted_few 2 os) small i;
      fragment = fits (counted 3 os) (length os) (counted_few 3 os) small i;
      other = fits (counted 4 os) (length os) (counted_few 4 os) small i;
      short = fits (counted 5 os) (length os) (counted_few 5 os) small i;
    }

-- a file has fewer packets than bytes
packets_few : (n : ℕ) (low : Bool) (bytes : List ℕ) → length (packets n low bytes) ≤ length bytes
unfolding packets
packets_few zero low bytes = omega arith
packets_few (suc n) low bytes =
    both (whole low bytes) (λ w. let shorter = behind-length low bytes w in let fewer = packets_few n low (behind low bytes) in rw w (omega arith))
    (λ w. rw w (omega arith))

read_few : (f : List ℕ) → read_in f ≤ length f
read_few f =
    both (eqb (header_refusal f) 0) (λ e. rw e
    (let few = packets_few (length f) (low_first f) (drop header_bytes f) in omega (arith, length-drop header_bytes f)))
    (λ e. rw e (omega arith))

pub file_exact : (f : List ℕ) → length f < 2 ^ 64 → sums_of (outcomes_in f) ≡ counts_of (outcomes_in f)
file_exact f small = sums_exact (outcomes_in f) (let few = read_few f in simp length-map (omega arith))

pub reads_exactly : ReadingExactly
reads_exactly f k small room = (reads_all f k room).sums_are ∙ file_exact f small
