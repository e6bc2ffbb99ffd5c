-- A window is read: its events stand in the second buffer, and all of them have room there.
use Prim.Native.Nat.{ℕ, zero, suc, ◌*◌, ◌<◌, ◌≤◌}
use mathlib.Core.Bool.{Bool, true, false}
use mathlib.Core.List.{List, [], ◌∷◌, ◌++◌, map, append_assoc}
use mathlib.Core.Path.{◌≡◌, refl, sym, ap, ◌∙◌}
use native.Mathlib.Nat.{le_of_suc-le-suc}
use native.Mathlib.Omega.{arith}
use lib.Dec.{eqb}
use lib.ListN.{length, take, drop, length-append, length-drop}
use lib.Seq.{take_at}
use Rattle.sets.proofs.Cases.{both}
use Rattle.event.specs.Event.{event_bytes}
use Rattle.frames.specs.Frames.{Outcome, outcome, emitted}
use Rattle.pcap.specs.declared.Tally.{Tally}
use Rattle.pcap.specs.Captures.{Refused, low_first, ethernet, header_refusal, header_bytes, whole, behind, packet, packets, outcomes_in, events_in, events_of, all_events, refused_at}
use Rattle.pieces.specs.Pieces.{Ran, stopped, read_on, enough, room_for, joined, written}
use Rattle.claims_captures.specs.Captured.{Every, IsEvent}
use Rattle.claims_captures.proofs.Records.{behind-length}
use Rattle.claims_captures.proofs.Files.{sound_long, packets-behind, refused_left}
use Rattle.claims_captures.proofs.Sums.{counting}
use Rattle.claims_captures.proofs.ReadAll.{read_from, refused_turn, step_bad}
use Rattle.claims_captures.proofs.EventsRead.{events_read}

-- ---- room

two_most : (o : Outcome) → length (events_of o) ≤ 2
two_most o =
    both (eqb o.reason emitted) (λ e. rw e (both o.fin (λ f. rw f (omega arith)) (λ f. rw f (omega arith)))) (λ e. rw e (omega arith))

-- an event for every 8 bytes of records at most
events_few : (n : ℕ) (e low : Bool) (bytes : List ℕ) → 8 * length (all_events (map (outcome e) (packets n low bytes))) ≤ length bytes
unfolding packets all_events
events_few zero e low bytes = omega arith
events_few (suc n) e low bytes =
    both (whole low bytes) (λ w.
    let shorter = behind-length low bytes w in
    rw (w, length-append (events_of (outcome e (packet low bytes))) _)
    (omega (arith, two_most (outcome e (packet low bytes)), events_few n e low (behind low bytes))))
    (λ w. rw w (omega arith))

-- a second buffer twice as long as the window has room for all events, and for one more
pub events_room : (w out : List ℕ) → header_bytes ≤ length w → 2 * length w ≤ length out → length (events_in w) < room_for out
unfolding all_events
events_room w out long room =
    both (eqb (header_refusal w) 0) (λ sound. rw sound
    (omega (arith, events_few (length w) (ethernet w) (low_first w) (drop header_bytes w), length-drop header_bytes w)))
    (λ bad. rw bad (omega arith))

-- ---- the events as bytes

pub joined-append : (es gs : List (List ℕ)) → joined (es ++ gs) ≡ joined es ++ joined gs
unfolding joined
joined-append [] gs = refl
joined-append (e ∷ es) gs = ap (λ (l : List ℕ). e ++ l) (joined-append es gs) ∙ sym (append_assoc e (joined es) (joined gs))

joined_length : (es : List (List ℕ)) → Every IsEvent es → length (joined es) ≡ event_bytes * length es
unfolding joined
joined_length [] h = refl
joined_length (e ∷ es) h =
    length-append e (joined es) ∙ omega (arith, h.0.sized, joined_length es h.1)

written_given : (es : List (List ℕ)) (rest : List ℕ) → Every IsEvent es → take (event_bytes * length es) (joined es ++ rest) ≡ joined es
written_given es rest h = take_at (joined es) rest (event_bytes * length es) (joined_length es h)

-- ---- reading

-- what reading a window comes to
pub record WindowRead (w out : List ℕ) (t : Tally) (r : Ran) : Type 0 where
  pub at-is : r.at ≡ refused_at w
  pub tally_is : r.tally ≡ counting (outcomes_in w) t
  pub given_is : take (event_bytes * length r.events) (written r out) ≡ joined (events_in w)

pub reads_window : (k : ℕ) (w out : List ℕ) (t : Tally) → eqb (header_refusal w) 0 ≡ true → t.due ≡ false → length (events_in w) < k
    → WindowRead w out t (read_on (enough w) k w header_bytes t)
reads_window zero w out t sound due room = absurd (omega arith)
reads_window (suc k) w out t sound due room =
    let same = packets-behind w sound in
    rw
    (read_from (length w) k w header_bytes t sound due (sound_long w sound) (omega arith) (le_of_suc-le-suc (rw same at room)))
    record {
      at-is = sym (refused_left w sound);
      tally_is = ap (λ (ps : List (List ℕ)). counting (map (outcome (ethernet w)) ps) t) (sym same);
      given_is = rw (sym same) (written_given (events_in w) (drop (event_bytes * length (events_in w)) out) (events_read w));
    }

-- a refused header: nothing is read
pub reads_bad_window : (k : ℕ) (w : List ℕ) (t : Tally) → eqb (header_refusal w) 0 ≡ false → 0 < k
    → read_on (enough w) k w header_bytes t ≡ stopped (Refused (header_refusal w)) header_bytes t
reads_bad_window zero w t bad h = absurd (omega arith)
reads_bad_window (suc k) w t bad h = refused_turn k w header_bytes t (header_refusal w) (step_bad w header_bytes t bad)
