-- Filling a buffer turn by turn: no turn changes what the loop comes to; where it stops, that is what stands there; and each turn brings the
-- end nearer.
use Rattle.std.proofs.Common.{◌≡◌, ℕ, suc, ◌+◌, ◌-◌, ◌*◌, ◌/◌, ◌<◌, ◌≤◌, List, [], ◌++◌, length, take, drop, sym, refl, ap, ◌∙◌, append_assoc, append-nil, add-zero, zero-add, arith, take-append-drop, drop-drop, length-append, length-drop, length-take-le, true}
use Rattle.std.proofs.lemmas.List.{drop_at}
use lib.Seq.{take_at}
use borrow.Rule.Slice.PartMut.{put_mid, Post-is}
use Rattle.frames.specs.Frames.{reason_of}
use Rattle.frames.specs.declared.Skip.{Skip}
use Rattle.pcap.specs.declared.Refusal.{Refusal}
use Rattle.pcap.specs.declared.Said.TheVariants.{Event as event-given, Skipped as skip-said, Finished as end-said, Refused as refusal-said}
use Rattle.pcap.specs.declared.Step.{Step as Taken}
use Rattle.pcap.specs.declared.Tally.{Tally}
use Rattle.pcap.specs.Captures.{Said, Event, Skipped, Finished, Refused, Step, number_of, said_of, event_of, step_of, step_at}
use Rattle.pieces.specs.Pieces.{Ran, Filled, stopped, with_event, read_on, enough, room_for, joined, filled_by, written}
use Rattle.pieces.proofs.Turns.{ahead, goes_on, moves_on, turn_full, turn_event, turn_skipped, turn_finished, turn_refused}

-- what is answered, and the buffer: what a loop that has filled n bytes comes to, when the reader gives r from there on
abbrev pub Both : Type 0
Both = Filled × List ℕ

abbrev ended : ℕ → List ℕ → Ran → Both
ended n out r = (
  record { said = r.said; at = r.at; tally = r.tally; filled = n + 16 * length r.events },
  (take n out ++ joined r.events) ++ drop (n + 16 * length r.events) out,
)

-- what it comes to from where the reader is, and what the contract of `fill_events` says
abbrev pub comes_to : List ℕ → ℕ → Tally → ℕ → List ℕ → Both
comes_to f at t n out = ended n out (read_on (enough f) ((length out - n) / 16) f at t)

abbrev pub promised : List ℕ → ℕ → Tally → List ℕ → Both
promised f at t out = (filled_by (read_on (enough f) (room_for out) f at t), written (read_on (enough f) (room_for out) f at t) out)

-- ---- at the beginning
first : (out : List ℕ) (r : Ran) → ended 0 out r ≡ (filled_by r, written r out)
first out r =
    let n = 16 * length r.events in
    ap (λ (k : ℕ). (record { said = r.said; at = r.at; tally = r.tally; filled = k }, joined r.events ++ drop k out)) (zero-add n)

pub begins : (f : List ℕ) (at : ℕ) (t : Tally) (out : List ℕ) → comes_to f at t 0 out ≡ promised f at t out
begins f at t out =
    let all : length out - 0 ≡ length out = omega arith in
    ap (λ (n : ℕ). ended 0 out (read_on (enough f) (n / 16) f at t)) all ∙ first out (read_on (enough f) (room_for out) f at t)

-- ---- a turn

-- the buffer with an event put behind its first n bytes
abbrev pub put : ℕ → List ℕ → List ℕ → List ℕ
put n e out = take n out ++ (e ++ drop (n + 16) out)

put_regrouped : (n : ℕ) (out e : List ℕ) → put n e out ≡ (take n out ++ e) ++ drop (n + 16) out
put_regrouped n out e = sym (append_assoc (take n out) e (drop (n + 16) out))

front_length : (n : ℕ) (out e : List ℕ) → n + 16 ≤ length out → length e ≡ 16 → length (take n out ++ e) ≡ n + 16
front_length n out e room sized =
    length-append (take n out) e ∙ omega (arith, length-take-le n out (omega (arith, room)), sized)

put_before : (n : ℕ) (out e : List ℕ) → n + 16 ≤ length out → length e ≡ 16 → take (n + 16) (put n e out) ≡ take n out ++ e
put_before n out e room sized =
    ap (take (n + 16)) (put_regrouped n out e)
    ∙ take_at (take n out ++ e) (drop (n + 16) out) (n + 16) (front_length n out e room sized)

put_behind : (n k : ℕ) (out e : List ℕ) → n + 16 ≤ length out → length e ≡ 16 → drop ((n + 16) + k) (put n e out) ≡ drop ((n + 16) + k) out
put_behind n k out e room sized =
    sym (drop-drop k (n + 16) (put n e out))
    ∙ ap (λ (l : List ℕ). drop k (drop (n + 16) l)) (put_regrouped n out e)
    ∙ ap (drop k) (drop_at (take n out ++ e) (drop (n + 16) out) (n + 16) (front_length n out e room sized))
    ∙ drop-drop k (n + 16) out

event_put : (n : ℕ) (out e : List ℕ) (r : Ran) → n + 16 ≤ length out → length e ≡ 16
    → ended (n + 16) (put n e out) r ≡ ended n out (with_event e r)
unfolding joined
event_put n out e r room sized =
    let more : (n + 16) + 16 * length r.events ≡ n + 16 * suc (length r.events) = omega arith in
    rw
    (put_before n out e room sized, put_behind n (16 * length r.events) out e room sized, append_assoc (take n out) e (joined r.events), more)
    refl

-- the same, as the code puts it
pub put_is : (n : ℕ) (out new ev : List ℕ) → new ≡ ev → put_mid n ((n + 16) - n) out new ≡ put n ev out
put_is n out new ev e =
    ap (λ (l : List ℕ). take n out ++ (new ++ l)) (Post-is n (n + 16) out (omega arith))
    ∙ ap (λ (l : List ℕ). take n out ++ (l ++ drop (n + 16) out)) e

-- nothing more is put
stop_is : (n : ℕ) (out : List ℕ) (x : Said) (at : ℕ) (t : Tally)
    → ended n out (stopped x at t) ≡ (record { said = x; at = at; tally = t; filled = n }, out)
unfolding joined
stop_is n out x at t =
    ap (λ (m : ℕ). (record { said = x; at = at; tally = t; filled = m }, (take n out ++ []) ++ drop m out)) (add-zero n)
    ∙ ap (λ (l : List ℕ). (record { said = x; at = at; tally = t; filled = n }, l ++ drop n out)) (append-nil (take n out))
    ∙ ap (λ (l : List ℕ). (record { said = x; at = at; tally = t; filled = n }, l)) (take-append-drop n out)

-- a call's answer, as the code has it
module _ (f : List ℕ) (at : ℕ) (t : Tally) (s : Taken) (e : step_of s ≡ step_at f at t) where
  says : (x : Said) → said_of s.said ≡ x → (step_at f at t).said ≡ x
  says x is = ap (λ (u : Step). u.said) (sym e) ∙ is

  place : (step_at f at t).at ≡ s.at
  place = ap (λ (u : Step). u.at) (sym e)

  sums : (step_at f at t).tally ≡ s.tally
  sums = ap (λ (u : Step). u.tally) (sym e)

  -- the reader is nearer to its end where it is called again
  pub nearer_again : goes_on (said_of s.said) ≡ true → ahead f s.at s.tally < ahead f at t
  nearer_again g = rw (sym place, sym sums) (moves_on f at t (rw (says (said_of s.said) refl) g))

  module _ (n : ℕ) (out : List ℕ) (room : n + 16 ≤ length out) where
    abbrev k : ℕ
    k = (length out - (n + 16)) / 16

    one_more_turn : (length out - n) / 16 ≡ suc k
    one_more_turn = omega (arith, room)

    counted-turns : comes_to f at t n out ≡ ended n out (read_on (enough f) (suc k) f at t)
    counted-turns = ap (λ (c : ℕ). ended n out (read_on (enough f) c f at t)) one_more_turn

    pub put_length : (ev : List ℕ) → length ev ≡ 16 → length (put n ev out) ≡ length out
    put_length ev sized =
        simp (length-append, length-drop) (omega (arith, length-take-le n out (omega (arith, room)), sized))

    pub event_turn : (ev : List ℕ) → s.said ≡ event-given ev → length ev ≡ 16
        → comes_to f s.at s.tally (n + 16) (put n ev out) ≡ comes_to f at t n out
    event_turn ev is sized =
        let given : (step_at f at t).event ≡ ev = ap (λ (u : Step). u.event) (sym e) ∙ ap event_of is in
        ap (λ (m : ℕ). ended (n + 16) (put n ev out) (read_on (enough f) ((m - (n + 16)) / 16) f s.at s.tally)) (put_length ev sized)
        ∙ event_put n out ev (read_on (enough f) k f s.at s.tally) room sized
        ∙ ap (ended n out)
        (rw (sym given, sym place, sym sums) (sym (turn_event k f at t (says Event (ap said_of is)))))
        ∙ sym counted-turns

    pub skipped_turn : (why : Skip) → s.said ≡ skip-said why → comes_to f s.at s.tally n out ≡ comes_to f at t n out
    skipped_turn why is =
        ap (λ (c : ℕ). ended n out (read_on (enough f) c f s.at s.tally)) one_more_turn
        ∙ ap (ended n out)
        (rw (sym place, sym sums) (sym (turn_skipped k f at t (reason_of why) (says (Skipped (reason_of why)) (ap said_of is)))))
        ∙ sym counted-turns

    pub finished_turn : s.said ≡ end-said
        → ◌≡◌ {A = Both} (record { said = Finished; at = s.at; tally = s.tally; filled = n }, out) (comes_to f at t n out)
    finished_turn is =
        sym (stop_is n out Finished s.at s.tally)
        ∙ ap (ended n out) (rw (sym place, sym sums) (sym (turn_finished k f at t (says Finished (ap said_of is)))))
        ∙ sym counted-turns

    pub refused_turn : (r : Refusal) → s.said ≡ refusal-said r
        → ◌≡◌ {A = Both} (record { said = Refused (number_of r); at = s.at; tally = s.tally; filled = n }, out) (comes_to f at t n out)
    refused_turn r is =
        sym (stop_is n out (Refused (number_of r)) s.at s.tally)
        ∙ ap (ended n out)
        (rw (sym place, sym sums) (sym (turn_refused k f at t (number_of r) (says (Refused (number_of r)) (ap said_of is)))))
        ∙ sym counted-turns

-- ---- no room for another event
pub full_now : (f : List ℕ) (at : ℕ) (t : Tally) (n : ℕ) (out : List ℕ) → length out - n < 16
    → ◌≡◌ {A = Both} (record { said = Event; at = at; tally = t; filled = n }, out) (comes_to f at t n out)
full_now f at t n out none =
    let no_room : (length out - n) / 16 ≡ 0 = omega (arith, none) in
    sym
    (ap (λ (c : ℕ). ended n out (read_on (enough f) c f at t)) no_room
    ∙ ap (ended n out) (turn_full (enough f) f at t)
    ∙ stop_is n out Event at t)
