-- The parts put together are the rules: a look, the ring's entry read for it, the reaction and the ring drawn for it are `event_of`.
use Prim.Native.Nat.{ℕ, ◌≤◌}
use mathlib.Core.Bool.{Bool, true, false, cond}
use mathlib.Core.List.{List}
use mathlib.Core.Path.{◌≡◌, refl, sym, ap, subst, ◌∙◌}
use native.Mathlib.Omega.{arith}
use lib.Dec.{eqb, ltb}
use lib.ListN.{length, length-take}
use borrow.Author.Tests.{ltb-true}
use Rattle.hash.specs.Hash.{F}
use Rattle.sets.proofs.Cases.{both, clash}
use Rattle.ranking.specs.declared.Pick.{Pick}
use Rattle.roster.specs.declared.Roster.{Roster}
use Rattle.roster.specs.Roster.{sound, held_servers, working_set, place_of, added_horizon, removed_horizon}
use Rattle.roster.proofs.Form.{sound_parts}
use Rattle.event.specs.Event.{Request, refused_by, event_in}
use Rattle.table.specs.Table.{Finding, find}
use Rattle.ring.specs.declared.Entry.{Entry}
use Rattle.ring.specs.Ring.{entry_read, overlaid}
use Rattle.ringplan.specs.Plan.{planned, drawn}
use Rattle.ringplan.proofs.Planning.{overlaid-drawn}
use Rattle.rows.specs.Rows.{Rows}
use Rattle.rules.specs.Answer.{answer_of}
use Rattle.rules.specs.Rules.{state_with, world_with, State, World, Change, is, lent_bar, admitted, judged, barred, effect, packet, pick_by, sized_for, settled, event_of, EventPromise}
use Rattle.rules.proofs.Sizes.{right_sizes}
use Rattle.rules.proofs.Still.{packet_still, end_still}
use Rattle.engine.specs.declared.Lookup.{Lookup}
use Rattle.answers.specs.declared.Reaction.{Reaction}
use Rattle.answers.specs.Reacting.{reacted}
use Rattle.engine.specs.Looking.{LookupFacts, lookup_facts, look_of, react_of, redrawn}

-- what is found and picked matters only where the kind looks at it
module _ (e : Request) (st : State) where
  found_free : (found found' : Finding) (p : Pick) → is 1 e ≡ false → is 2 e ≡ false → judged e found p st ≡ judged e found' p st
  unfolding judged barred effect
  found_free found found' p a b = rw (a, b)

  pick_free : (found : Finding) (p q : Pick) → is 1 e ≡ false → judged e found p st ≡ judged e found q st
  unfolding judged barred effect
  pick_free found p q a = rw a

  pick_known : (found : Finding) (p q : Pick) → found.found ≡ true → judged e found p st ≡ judged e found q st
  unfolding judged barred effect packet
  pick_known found p q a = rw a

-- nothing that is found matters to a refused event
refused_free : (n : ℕ) (t rows flags : List ℕ) (r : Roster) (found found' : Finding) (p q : Pick)
    → judged (refused_by n) found p (state_with t rows flags r) ≡ judged (refused_by n) found' q (state_with t rows flags r)
unfolding judged
refused_free n t rows flags r found found' p q = refl

-- the ring's entry matters only under method 2
pick_spot : (f : ℕ) (s s' : Entry) (st : State) → eqb st.roster.settings.method 2 ≡ false → pick_by f s st ≡ pick_by f s' st
unfolding pick_by
pick_spot f s s' st n = rw n

-- so what a look finds is enough
module _ (e : Request) (t rows flags : List ℕ) (r : Roster) (ring : List Entry) where
  looked_enough : (sized : Bool) → let st = state_with t rows flags r in
      let l = look_of sized e t r in
      judged e l.found (pick_by l.f (entry_read l.places l.f ring) st) st
      ≡ judged e (find e.key t) (pick_by (F e.key) (entry_read r.held (F e.key) ring) st) st
  unfolding look_of
  looked_enough sized =
      let st = state_with t rows flags r in
      both
      (is 1 e)
      (
      λ p. both
      (find e.key t).found
      (λ k. rw p (pick_known e st (find e.key t) _ _ k))
      (
      λ k. both
      (eqb r.settings.method 2)
      (λ m. rw (p, k, m))
      (
      λ m. rw
      (p, k, m)
      (ap
      (λ (x : Pick). judged e (record { found = false; reads = (find e.key t).reads }) x st)
      (pick_spot (F e.key) (entry_read 0 (F e.key) ring) (entry_read r.held (F e.key) ring) st m)))))
      (
      λ p. both
      (is 2 e)
      (λ q. rw (p, q) (pick_free e st (find e.key t) _ _ p))
      (λ q. rw (p, q) (found_free e st _ (find e.key t) _ p q ∙ pick_free e st (find e.key t) _ _ p)))

-- and it needs no more where the event is refused by 9 or 11, whatever was found
module _ (sized roster_sound : Bool) (e : Request) (t rows flags : List ℕ) (r : Roster) (ring : List Entry) where
  looked_admitted : let st = state_with t rows flags r in
      let l = look_of sized e t r in
      let a = admitted (lent_bar sized roster_sound) e in
      judged (admitted (lent_bar l.sized roster_sound) l.request) l.found (pick_by l.f (entry_read l.places l.f ring) st) st
      ≡ judged a (find a.key t) (pick_by (F a.key) (entry_read r.held (F a.key) ring) st) st
  unfolding look_of admitted lent_bar
  looked_admitted =
      both
      sized
      (
      λ a. both
      roster_sound
      (λ b. rw (a, b) (looked_enough e t rows flags r ring true))
      (λ b. rw (a, b) (refused_free 11 t rows flags r _ _ _ _)))
      (λ a. rw a (refused_free 9 t rows flags r _ _ _ _))

-- a refused event draws no ring: where the ring is drawn, every buffer has its length
redraw_sized : (sized roster_sound : Bool) (e : Request) (found : Finding) (p : Pick) (st : State)
    → (judged (admitted (lent_bar sized roster_sound) e) found p st).redraw ≡ true → sized ≡ true
unfolding admitted lent_bar judged
redraw_sized true roster_sound e found p st q = refl
redraw_sized false roster_sound e found p st q = clash q refl

redraw_sound : (sized roster_sound : Bool) (e : Request) (found : Finding) (p : Pick) (st : State)
    → (judged (admitted (lent_bar sized roster_sound) e) found p st).redraw ≡ true → roster_sound ≡ true
unfolding admitted lent_bar judged
redraw_sound true true e found p st q = refl
redraw_sound true false e found p st q = clash q refl
redraw_sound false roster_sound e found p st q = clash q refl

-- a roster of at most 64 servers stays one
added_few : (s : ℕ) (r : Roster) → r.held ≤ 64 → (added_horizon s r).held ≤ 64
unfolding added_horizon
added_few s r h = both (ltb r.held 64) (λ t. rw t (omega (arith, ltb-true r.held 64 t))) (λ t. rw t h)

removed_few : (s : ℕ) (r : Roster) → r.held ≤ 64 → (removed_horizon s r).held ≤ 64
unfolding removed_horizon
removed_few s r h =
    both (ltb (place_of s r) (length (held_servers r))) (λ t. rw t (omega arith)) (λ t. rw t h)

-- where the ring is drawn, the roster afterwards holds at most 64
redraw_few : (e : Request) (found : Finding) (p : Pick) (st : State) → st.roster.held ≤ 64
    → (judged e found p st).redraw ≡ true → (judged e found p st).state.roster.held ≤ 64
unfolding judged effect
redraw_few e found p st h q =
    both
    (is 0 e)
    (λ a. clash (rw a at q) refl)
    (
    λ a. both
    (eqb (barred e found p st) 0)
    (
    λ b. both
    (is 1 e)
    (λ k. clash (rw (a, b, k) at q) (packet_still e.key found p st))
    (
    λ k1. both
    (is 2 e)
    (λ k. clash (rw (a, b, k1, k) at q) (end_still found st))
    (
    λ k2. both
    (is 3 e)
    (λ k. rw (a, b, k1, k2, k) h)
    (
    λ k3. both
    (is 4 e)
    (λ k. rw (a, b, k1, k2, k3, k) h)
    (
    λ k4. both
    (is 5 e)
    (λ k. rw (a, b, k1, k2, k3, k4, k) (added_few e.server st.roster h))
    (
    λ k5. both
    (is 6 e)
    (λ k. rw (a, b, k1, k2, k3, k4, k5, k) (removed_few e.server st.roster h))
    (λ k6. clash (rw (a, b, k1, k2, k3, k4, k5, k6) at q) refl)))))))
    (λ b. clash (rw (a, b) at q) refl))

-- the ring drawn in code is the ring drawn by the rules
pub redrawn-is : (wanted : Bool) (r : Roster) (ring : List Entry) → length r.servers ≡ 64
    → (wanted ≡ true → (length ring ≡ 64) × (r.held ≤ 64))
    → redrawn wanted r ring ≡ cond wanted (drawn (held_servers r) (working_set r) ring) ring
unfolding redrawn
redrawn-is false r ring n h = refl
redrawn-is true r ring n h =
    let (a, b) = h refl in
    let l : length (held_servers r) ≡ r.held = length-take r.held r.servers ∙ omega arith in
    ap (λ (k : ℕ). overlaid (planned (held_servers r) (working_set r)) k ring) (sym l)
    ∙ overlaid-drawn (held_servers r) (working_set r) ring (omega arith) (omega arith)

module _ (bytes : List ℕ) (w : World) where
  abbrev st : State
  st = w.state

  abbrev sized_here : Bool
  sized_here = sized_for (length w.ring) st

  abbrev admitted_here : Request
  admitted_here = admitted (lent_bar sized_here (sound st.roster)) (event_in bytes)

  abbrev judged_here : Change
  judged_here =
      judged
      admitted_here
      (find admitted_here.key st.table)
      (pick_by (F admitted_here.key) (entry_read st.roster.held (F admitted_here.key) w.ring) st)
      st

  -- THE WHOLE: what the four calls of `event` promise, together
  pub whole_event : (seen : Lookup) (spot : Entry) (out : Reaction) (t' : List ℕ) (rows' : Rows) (ring' : List Entry)
      → length out.roster.servers ≡ 64
      → lookup_facts seen ≡ look_of sized_here (event_in bytes) st.table st.roster
      → spot ≡ entry_read seen.places seen.f w.ring
      → reacted out t' rows' ≡ react_of seen spot st
      → ring' ≡ redrawn out.redraw out.roster w.ring
      → EventPromise bytes w (world_with t' rows'.servers rows'.flags ring' out.roster) out.reply
  unfolding event_of look_of
  whole_event seen spot out t' rows' ring' n look read react draw =
      let reactTo : LookupFacts → Change =
      λ l. judged (admitted (lent_bar l.sized (sound st.roster)) l.request) l.found (pick_by l.f (entry_read l.places l.f w.ring) st) st in
      let change : reacted out t' rows' ≡ judged_here =
      react
      ∙ ap (λ (x : Entry). react_of seen x st) read
      ∙ ap reactTo look
      ∙ looked_admitted sized_here (sound st.roster) (event_in bytes) st.table st.rows st.flags st.roster w.ring in
      let drawing : out.redraw ≡ true → judged_here.redraw ≡ true = λ q. ap (λ (c : Change). c.redraw) (sym change) ∙ q in
      let sized : out.redraw ≡ true → (length w.ring ≡ 64) × (out.roster.held ≤ 64) =
      λ q. let d = drawing q in (
        (right_sizes _ _ _ _ (redraw_sized _ (sound st.roster) (event_in bytes) _ _ st d)).ring_64,
        subst
            (λ (c : Change). c.state.roster.held ≤ 64)
            (sym change)
            (redraw_few admitted_here _ _ st (sound_parts st.roster (redraw_sound _ (sound st.roster) (event_in bytes) _ _ st d)).few d),
      ) in
      ap
      (λ (es : List Entry). record { answer = answer_of out.reply; world = world_with t' rows'.servers rows'.flags es out.roster })
      (draw ∙ redrawn-is out.redraw out.roster w.ring n sized)
      ∙ ap (λ (c : Change). settled c w.ring) change
