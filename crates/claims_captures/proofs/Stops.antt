-- A reader whose room is used up gives the first events, and reading on from there gives the rest.
use Prim.Native.Nat.{ℕ, zero, suc, ◌+◌, ◌<◌, ◌≤◌}
use mathlib.Core.Bool.{true}
use mathlib.Core.List.{List}
use mathlib.Core.Path.{◌≡◌, refl, sym, ap, ◌∙◌}
use native.Mathlib.Nat.{not-suc-le-zero, suc-add, zero-add}
use native.Mathlib.Omega.{arith}
use lib.ListN.{length, take}
use lib.Seq.{take-append_seam, take_all}
use Rattle.pcap.specs.declared.Tally.{Tally}
use Rattle.pcap.specs.Captures.{Said, Event, Skipped, Finished, Refused, step_at}
use Rattle.pieces.specs.Pieces.{Ran, stopped, with_event, by_said, read_on, enough}
use Rattle.pieces.proofs.Turns.{goes_on as nears, ahead, moves_on, calls_enough, enough-ahead}
use Rattle.claims_captures.specs.Captured.{goes_on, continued, ReadingOn, MovesOn}

-- an event in front stays in front
event_continued : (e : List ℕ) (r more : Ran) (said : Said) → r.said ≡ said → with_event e (continued r more) ≡ continued (with_event e r) more
event_continued e r more Event h = rw h
event_continued e r more (Skipped why) h = rw h
event_continued e r more Finished h = rw h
event_continued e r more (Refused n) h = rw h

-- ---- reading on

abbrev rest : ℕ → List ℕ → Ran → Ran
rest j f r = read_on (enough f) j f r.at r.tally

-- one call, by what it says: what follows it goes on
by_call : (said : Said) (e : List ℕ) (j : ℕ) (f : List ℕ) (given passed given' passed' : Ran) (at : ℕ) (t : Tally)
    → (nears said ≡ true → given' ≡ continued given (rest j f given)) → (nears said ≡ true → passed' ≡ continued passed (rest j f passed))
    → by_said said (with_event e given') passed' (stopped said at t)
    ≡ continued (by_said said (with_event e given) passed (stopped said at t)) (rest j f (by_said said (with_event e given) passed (stopped said at t)))
by_call Event e j f given passed given' passed' at t g p = ap (with_event e) (g refl) ∙ event_continued e given (rest j f given) given.said refl
by_call (Skipped why) e j f given passed given' passed' at t g p = p refl
by_call Finished e j f given passed given' passed' at t g p = refl
by_call (Refused n) e j f given passed given' passed' at t g p = refl

on_from : (n k j : ℕ) (f : List ℕ) (at : ℕ) (t : Tally) → ahead f at t < n
    → read_on n (k + j) f at t ≡ continued (read_on n k f at t) (rest j f (read_on n k f at t))
unfolding read_on
on_from zero k j f at t h = absurd (not-suc-le-zero h)
on_from (suc n) zero j f at t h = rw (zero-add j) (calls_enough (suc n) (enough f) j f at t h (enough-ahead f at t))
on_from (suc n) (suc k) j f at t h =
    let s = step_at f at t in
    rw (suc-add k j)
    (by_call s.said s.event j f (read_on n k f s.at s.tally) (read_on n (suc k) f s.at s.tally) _ _ s.at s.tally
    (λ g. on_from n k j f s.at s.tally (omega (arith, moves_on f at t g)))
    (λ g. ap (λ (c : ℕ). read_on n c f s.at s.tally) (sym (suc-add k j))
    ∙ on_from n (suc k) j f s.at s.tally (omega (arith, moves_on f at t g))))

-- ---- no more events than there is room for, and fewer only at the end

record Fits (k : ℕ) (r : Ran) : Type 0 where
  most : length r.events ≤ k
  filled : r.said ≡ Event → length r.events ≡ k

fits_event : (k : ℕ) (e : List ℕ) (r : Ran) → Fits k r → Fits (suc k) (with_event e r)
fits_event k e r h = record { most = omega (arith, h.most); filled = λ s. ap suc (h.filled s) }

fits_call : (said : Said) (e : List ℕ) (k : ℕ) (given passed : Ran) (at : ℕ) (t : Tally) → (nears said ≡ true → Fits k given)
    → (nears said ≡ true → Fits (suc k) passed) → Fits (suc k) (by_said said (with_event e given) passed (stopped said at t))
fits_call Event e k given passed at t g p = fits_event k e given (g refl)
fits_call (Skipped why) e k given passed at t g p = p refl
fits_call Finished e k given passed at t g p = record { most = omega arith; filled = λ s. let z : ◌≡◌ {A = ℕ} 0 1 = cc in absurd (omega arith) }
fits_call (Refused n) e k given passed at t g p = record { most = omega arith; filled = λ s. let z : ◌≡◌ {A = ℕ} 0 1 = cc in absurd (omega arith) }

fits_room : (n k : ℕ) (f : List ℕ) (at : ℕ) (t : Tally) → ahead f at t < n → Fits k (read_on n k f at t)
unfolding read_on
fits_room zero k f at t h = absurd (not-suc-le-zero h)
fits_room (suc n) zero f at t h = record { most = omega arith; filled = λ _. refl }
fits_room (suc n) (suc k) f at t h =
    let s = step_at f at t in
    fits_call s.said s.event k _ _ s.at s.tally
    (λ g. fits_room n k f s.at s.tally (omega (arith, moves_on f at t g)))
    (λ g. fits_room n (suc k) f s.at s.tally (omega (arith, moves_on f at t g)))

-- ---- the first events

first_of : (k : ℕ) (r more : Ran) (said : Said) → r.said ≡ said → Fits k r → take k (continued r more).events ≡ r.events
first_of k r more Event h fit =
    rw (h, sym (fit.filled h)) (take-append_seam r.events more.events)
first_of k r more (Skipped why) h fit = rw h (take_all k r.events fit.most)
first_of k r more Finished h fit = rw h (take_all k r.events fit.most)
first_of k r more (Refused n) h fit = rw h (take_all k r.events fit.most)

pub stops_when_full : ReadingOn
stops_when_full k j f at t =
    let r = read_on (enough f) k f at t in
    let on = on_from (enough f) k j f at t (enough-ahead f at t) in
    let fit = fits_room (enough f) k f at t (enough-ahead f at t) in
    record {
      going_on = on;
      first_events = ap (λ (q : Ran). take k q.events) on ∙ first_of k r (rest j f r) r.said refl fit;
      full = fit.filled;
    }

-- ---- the reader moves on

again : (said : Said) → goes_on said ≡ true → nears said ≡ true
again Event h = h
again (Skipped why) h = h
again Finished h = h
again (Refused n) h = h

pub always_moves_on : (f : List ℕ) (at : ℕ) (t : Tally) → MovesOn f at t
always_moves_on f at t =
    record { falls = λ g. moves_on f at t (again (step_at f at t).said g); ends = λ n m k. calls_enough n m k f at t }
