-- Refusals 9 and 11: what is left of an event once they are settled is judged as the rules judge the event.
use mathlib.Core.Bool.{Bool, true, false, cond}
use mathlib.Core.List.{List}
use mathlib.Core.Path.{◌≡◌, ap, ◌∙◌}
use Prim.Native.Nat.{ℕ}
use Rattle.sets.proofs.Cases.{both, clash}
use Rattle.std.specs.Prelude.{Result}
use Rattle.std.specs.Result.{IsErrAnd}
use Rattle.std.proofs.lemmas.Result.{err_from_is_err_and}
use Rattle.rows.specs.Rows.{Rows}
use Rattle.event.specs.Event.{Request, refused_by}
use Rattle.ring.specs.declared.Entry.{Entry}
use Rattle.roster.specs.declared.Roster.{Roster}
use Rattle.roster.specs.Roster.{sound}
use Rattle.table.specs.Table.{finding_of}
use Rattle.rules.specs.declared.Refusal.{Refusal}
use Rattle.rules.specs.Answer.{number_of}
use Rattle.rules.specs.Rules.{State, is, lent_bar, admitted, judged, refused, pick_by}
use Rattle.engine.specs.declared.Lookup.{Lookup}
use Rattle.answers.specs.declared.Done.{Done}
use Rattle.answers.specs.Reacting.{state_over, settled}
use Rattle.engine.specs.Looking.{asked_in, admitted_so_far, settle_of, react_of}

pub either : (p o : Bool) → o ≡ true → cond p true o ≡ true
either p o h = both p (λ q. rw q) (λ q. rw (q, h))

module _ (sized roster_sound : Bool) (e : Request) where
  -- all but packets
  other : (q : Request) → q ≡ admitted_so_far sized roster_sound e → is 1 q ≡ false → q ≡ admitted (lent_bar sized roster_sound) e
  unfolding admitted_so_far admitted lent_bar
  other q h n =
      both sized
      (λ s. both (is 1 e)
      (λ p. let w : q ≡ e = rw (s, p) at h in clash (ap (is 1) w ∙ p) n)
      (λ p. rw s (rw (s, p) at h)))
      (λ s. rw s (rw s at h))

  -- a packet, whose 11 is still to be tested
  packet : (q : Request) → q ≡ admitted_so_far sized roster_sound e → is 1 q ≡ true
      → admitted (lent_bar true roster_sound) q ≡ admitted (lent_bar sized roster_sound) e
  unfolding admitted_so_far admitted lent_bar
  packet q h m =
      both sized
      (λ s. both (is 1 e)
      (λ p. let w : q ≡ e = rw (s, p) at h in rw (s, w))
      (λ p. both roster_sound
      (λ o. let w : q ≡ e = rw (s, p, o) at h in clash m (ap (is 1) w ∙ p))
      (λ o. let w : q ≡ refused_by 11 = rw (s, p, o) at h in clash m (ap (is 1) w))))
      (λ s. let w : q ≡ refused_by 9 = rw s at h in clash m (ap (is 1) w))

  -- what passes both tests, or is a packet, is the event itself
  pub passed : sized ≡ true → cond (is 1 e) true roster_sound ≡ true → e ≡ admitted_so_far sized roster_sound e
  unfolding admitted_so_far admitted lent_bar
  passed s o = rw (s, o)

-- so what an event comes to that is admitted so far is the reaction
module _ (seen : Lookup) (spot : Entry) (st : State) where
  pub as_admitted : (q : Request) → q ≡ admitted_so_far seen.sized (sound st.roster) (asked_in seen.event)
      → settle_of q seen spot st ≡ react_of seen spot st
  as_admitted q h =
      let e = asked_in seen.event in
      ap
      (λ (x : Request). judged x (finding_of seen.found) (pick_by seen.f spot st) st)
      (both (is 1 q) (λ m. rw m (packet seen.sized (sound st.roster) e q h m)) (λ m. rw m (other seen.sized (sound st.roster) e q h m)))

  -- and so is its refusal
  pub as_refused : (n : ℕ) → refused_by n ≡ admitted_so_far seen.sized (sound st.roster) (asked_in seen.event)
      → refused n st ≡ react_of seen spot st
  unfolding judged
  as_refused n h = as_admitted (refused_by n) h

-- a refusal that a `?` hands on
pub handed_on : (v : Result Done Refusal) (e : Refusal) (t : List ℕ) (rows : Rows) (r : Roster) → IsErrAnd v (λ y. y ≡ e)
    → settled v t rows r ≡ refused (number_of e) (state_over t rows r)
handed_on v e t rows r i = let p = err_from_is_err_and v i in rw (p.1, p.2)
