-- The reader called again and again: each call that gives an event or passes a packet brings it nearer to its end, so that calls enough are
-- enough. For a loop over the reader: what one more turn comes to.
use Rattle.std.proofs.Common.{◌≡◌, ℕ, zero, suc, ◌+◌, ◌-◌, ◌*◌, ◌<◌, ◌≤◌, Bool, true, false, cond, eqb, ltb, List, length, drop, refl, ap, ◌∙◌, not-suc-le-zero, arith, length-drop, ltb-true}
use Rattle.sets.proofs.Cases.{both, clash}
use Rattle.frames.specs.Frames.{Outcome, outcome, emitted}
use Rattle.pcap.specs.declared.Tally.{Tally}
use Rattle.pcap.proofs.Files.{whole_there}
use Rattle.pcap.specs.Captures.{Said, Event, Skipped, Finished, Refused, Step, header_refusal, low_first, ethernet, whole, packet, record_size, short_record, step_at, record_at, with_one, meets, silent}
use Rattle.pieces.specs.Pieces.{Ran, stopped, with_event, by_said, read_on, enough}

-- ---- the reader moves on

-- after these answers the reader is called again
abbrev pub goes_on : Said → Bool
goes_on Event = true
goes_on (Skipped why) = true
goes_on Finished = false
goes_on (Refused n) = false

-- two calls for each byte that is left, and one where no end is due
abbrev pub ahead : List ℕ → ℕ → Tally → ℕ
ahead f at t = 2 * (length f - at) + cond t.due 0 1

-- the place behind a whole record is within the file, and further on
pub record Behind (f : List ℕ) (at next : ℕ) : Type 0 where
  pub further : at < next
  pub within : next ≤ length f

pub whole-behind : (low : Bool) (f : List ℕ) (at : ℕ) → ltb at (length f) ≡ true → whole low (drop at f) ≡ true
    → Behind f at (at + record_size low (drop at f))
whole-behind low f at h w =
    let size : record_size low (drop at f) ≤ length f - at = rw length-drop at (whole_there low (drop at f) w) in
    record { further = omega arith; within = omega (arith, ltb-true at (length f) h) }

-- a packet: either the reader goes behind it, or it stays and the packet's end is due
meets-ahead : (f : List ℕ) (o : Outcome) (at next : ℕ) (t : Tally) → Behind f at next
    → ahead f (meets o at next t).at (meets o at next t).tally < ahead f at t
unfolding meets with_one
meets-ahead f o at next t b =
    both (eqb o.reason emitted) (λ e. rw e
    (both o.fin (λ fin. rw fin
    (both t.due (λ due. rw due (omega arith)) (λ due. rw due (omega arith))))
    (λ fin. rw fin (both t.due (λ due. rw due (omega arith)) (λ due. rw due (omega arith))))))
    (λ e. rw e (both t.due (λ due. rw due (omega arith)) (λ due. rw due (omega arith))))

-- what a call can meet
pub data Meeting (f : List ℕ) (at : ℕ) (t : Tally) : Step → Type 0 where
  header : eqb (header_refusal f) 0 ≡ false → Meeting f at t (silent (Refused (header_refusal f)) at t)
  end : eqb (header_refusal f) 0 ≡ true → ltb at (length f) ≡ false → Meeting f at t (silent Finished at t)
  short : eqb (header_refusal f) 0 ≡ true → ltb at (length f) ≡ true → whole (low_first f) (drop at f) ≡ false
      → Meeting f at t (silent (Refused short_record) at t)
  met : eqb (header_refusal f) 0 ≡ true → ltb at (length f) ≡ true → whole (low_first f) (drop at f) ≡ true
      → Meeting f at t
      (meets (outcome (ethernet f) (packet (low_first f) (drop at f))) at (at + record_size (low_first f) (drop at f)) t)

pub meeting : (f : List ℕ) (at : ℕ) (t : Tally) → Meeting f at t (step_at f at t)
unfolding step_at record_at
meeting f at t =
    both (eqb (header_refusal f) 0) (λ sound. rw sound
    (both (ltb at (length f)) (λ more. rw more
    (both (whole (low_first f) (drop at f)) (λ all. rw all (met sound more all)) (λ all. rw all (short sound more all))))
    (λ more. rw more (end sound more))))
    (λ sound. rw sound (header sound))

-- request [2]: the reader always moves on. A call after which it is called again brings it nearer to its end
nearer : {f : List ℕ} {at : ℕ} {t : Tally} {s : Step} → Meeting f at t s → goes_on s.said ≡ true → ahead f s.at s.tally < ahead f at t
nearer (header sound) g = clash g refl
nearer (end sound more) g = clash g refl
nearer (short sound more all) g = clash g refl
nearer {f} {at} {t} (met sound more all) g = meets-ahead f _ at _ t (whole-behind (low_first f) f at more all)

pub moves_on : (f : List ℕ) (at : ℕ) (t : Tally) → goes_on (step_at f at t).said ≡ true
    → ahead f (step_at f at t).at (step_at f at t).tally < ahead f at t
moves_on f at t = nearer (meeting f at t)

-- ---- calls enough

-- what follows counts only where the reader is called again
follows : (s : Said) (given passed given' passed' over : Ran) → (goes_on s ≡ true → given ≡ given') → (goes_on s ≡ true → passed ≡ passed')
    → by_said s given passed over ≡ by_said s given' passed' over
follows Event given passed given' passed' over g p = g refl
follows (Skipped why) given passed given' passed' over g p = p refl
follows Finished given passed given' passed' over g p = refl
follows (Refused n) given passed given' passed' over g p = refl

-- however many calls are allowed, once they are more than what is ahead
pub calls_enough : (n m k : ℕ) (f : List ℕ) (at : ℕ) (t : Tally) → ahead f at t < n → ahead f at t < m → read_on n k f at t ≡ read_on m k f at t
unfolding read_on
calls_enough zero m k f at t hn hm = absurd (not-suc-le-zero hn)
calls_enough (suc n) zero k f at t hn hm = absurd (not-suc-le-zero hm)
calls_enough (suc n) (suc m) zero f at t hn hm = refl
calls_enough (suc n) (suc m) (suc k) f at t hn hm =
    let s = step_at f at t in
    follows s.said _ _ _ _ _
    (λ g. ap (with_event s.event) (calls_enough n m k f s.at s.tally (omega (arith, moves_on f at t g)) (omega (arith, moves_on f at t g))))
    (λ g. calls_enough n m (suc k) f s.at s.tally (omega (arith, moves_on f at t g)) (omega (arith, moves_on f at t g)))

-- `enough` calls are enough from any place on
pub enough-ahead : (f : List ℕ) (at : ℕ) (t : Tally) → ahead f at t < enough f
enough-ahead f at t = both t.due (λ d. rw d (omega arith)) (λ d. rw d (omega arith))

-- ---- one turn of a loop over the reader

-- no room: nothing is read
pub turn_full : (n : ℕ) (f : List ℕ) (at : ℕ) (t : Tally) → read_on n 0 f at t ≡ stopped Event at t
unfolding read_on
turn_full zero f at t = refl
turn_full (suc n) f at t = refl

-- room: what the next call gives, and then the same from where that has left the reader
pub turn : (k : ℕ) (f : List ℕ) (at : ℕ) (t : Tally)
    → read_on (enough f) (suc k) f at t
    ≡ by_said (step_at f at t).said
    (with_event (step_at f at t).event (read_on (enough f) k f (step_at f at t).at (step_at f at t).tally))
    (read_on (enough f) (suc k) f (step_at f at t).at (step_at f at t).tally)
    (stopped (step_at f at t).said (step_at f at t).at (step_at f at t).tally)
unfolding read_on
turn k f at t =
    let s = step_at f at t in
    let n = 1 + 2 * length f in
    let more : enough f ≡ suc n = omega arith in
    let fewer : goes_on s.said ≡ true → ahead f s.at s.tally < n = λ g. omega (arith, moves_on f at t g, enough-ahead f at t) in
    ap (λ (c : ℕ). read_on c (suc k) f at t) more
    ∙ follows s.said _ _ _ _ _
    (λ g. ap (with_event s.event) (calls_enough n (enough f) k f s.at s.tally (fewer g) (enough-ahead f s.at s.tally)))
    (λ g. calls_enough n (enough f) (suc k) f s.at s.tally (fewer g) (enough-ahead f s.at s.tally))

-- the same by what the call says
module _ (k : ℕ) (f : List ℕ) (at : ℕ) (t : Tally) where
  pub turn_event : (step_at f at t).said ≡ Event
      → read_on (enough f) (suc k) f at t
      ≡ with_event (step_at f at t).event (read_on (enough f) k f (step_at f at t).at (step_at f at t).tally)
  turn_event e = turn k f at t ∙ rw e

  pub turn_skipped : (why : ℕ) → (step_at f at t).said ≡ Skipped why
      → read_on (enough f) (suc k) f at t ≡ read_on (enough f) (suc k) f (step_at f at t).at (step_at f at t).tally
  turn_skipped why e = turn k f at t ∙ rw e

  pub turn_finished : (step_at f at t).said ≡ Finished
      → read_on (enough f) (suc k) f at t ≡ stopped Finished (step_at f at t).at (step_at f at t).tally
  turn_finished e = turn k f at t ∙ rw e

  pub turn_refused : (n : ℕ) → (step_at f at t).said ≡ Refused n
      → read_on (enough f) (suc k) f at t ≡ stopped (Refused n) (step_at f at t).at (step_at f at t).tally
  turn_refused n e = turn k f at t ∙ rw e
