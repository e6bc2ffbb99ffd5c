-- Refusals 8, 9 and 11 occur in no history from an accepted start.
use Prim.Native.Nat.{ℕ, ◌-◌, ◌<◌}
use mathlib.Core.Bool.{true}
use mathlib.Core.List.{List}
use mathlib.Core.Path.{◌≡◌, refl, sym, ap, ◌∙◌}
use native.Mathlib.Omega.{arith}
use lib.Dec.{eqb}
use borrow.Author.Tests.{eqb-true, not-false}
use Rattle.sets.specs.Sets.{member}
use Rattle.sets.proofs.Cases.{both, clash}
use Rattle.ranking.specs.declared.Pick.{Pick}
use Rattle.ranking.specs.Ranking.{choice}
use Rattle.ranking.proofs.Choice.{choice-member}
use Rattle.roster.specs.Roster.{working, state_of, working_set}
use Rattle.roster.proofs.Sets.{working_state}
use Rattle.event.specs.Event.{Request, event_in}
use Rattle.event.proofs.Reading.{reading}
use Rattle.table.specs.Table.{Finding, find, server_at, used_part}
use Rattle.table.proofs.Records.{server_used}
use Rattle.table.proofs.Finds.{found_from, found_within, found_first}
use Rattle.ringplan.specs.Plan.{some}
use Rattle.ringplan.proofs.Members.{some-member}
use Rattle.rules.specs.Rules.{World, State, Done, is, target, barred, judged, event_of}
use Rattle.claims_histories.specs.Histories.{start_accepted, after, answer, AllBytes, ranking_for}
use Rattle.claims_histories.proofs.Inner.{Inner}
use Rattle.claims_histories.proofs.Picking.{pick_at, ranking_strict, pick_right}
use Rattle.rules.proofs.Refusals.{effect_unrefused}
use Rattle.claims_histories.proofs.Recorded.{named-at}
use Rattle.claims_histories.proofs.Barring.{barred_not_9, barred_not_11, barred_8}
use Rattle.claims_histories.proofs.Along.{event_judged, inner}

-- the number of a refusal is the record's own, up to 2, or the refusal table's
judged-number : {C : Type 0} (e : Request) (found : Finding) (pick : Pick) (st : State) (n : ℕ) → (judged e found pick st).answer.refusal ≡ n
    → (e.refusal ≡ n → C) → (0 ≡ n → C) → (barred e found pick st ≡ n → C) → C
unfolding judged
judged-number e found pick st n q own none table =
    both (is 0 e) (λ z. own (rw z at q)) (λ z.
    both (eqb (barred e found pick st) 0)
    (λ b. none (sym (effect_unrefused e found pick st) ∙ (rw (z, b) at q)))
    (λ b. table (rw (z, b) at q)))

module _ (w : World) (i : Inner w) (key : List ℕ) where
  -- the record that a key has names a working server,
  recorded_works : (find key w.state.table).found ≡ true → state_of (server_at (find key w.state.table).reads w.state.table) w.state.roster ≡ working
  recorded_works f =
      let t = w.state.table in
      rw (server_used t (find key t).reads (found_from key t f) (found_within key t f))
      (named-at w.state.roster (used_part t) i.along.named ((find key t).reads - 1) (found_first key t f).within)

  -- and so does the pick, while some server works
  picked_works : (s : ℕ) → member s (working_set w.state.roster) ≡ true
      → state_of (pick_at w key).server w.state.roster ≡ working
  picked_works s m =
      let r = w.state.roster in
      let R = ranking_for r.settings key in
      let c = choice R (working_set r) in
      let p : (pick_at w key).server ≡ c = ap (λ (x : Pick). x.server) (pick_right w i key s m) in
      let q : member c (working_set r) ≡ true = choice-member R (ranking_strict r.settings key) s (working_set r) m in
      rw p (eqb-true (state_of c r) 1 (sym (working_state r i.along.roster_sound c) ∙ q))

  pub target_works : (s : ℕ) → member s (working_set w.state.roster) ≡ true
      → state_of (target (find key w.state.table) (pick_at w key) w.state) w.state.roster ≡ working
  target_works s m =
      both (find key w.state.table).found (λ f. rw f (recorded_works f)) (λ f. rw f (picked_works s m))

-- line 8 of the refusal table applies to no packet that passed line 7
module _ (w : World) (i : Inner w) (e : Request) where
  never_barred_8 : barred e (find e.key w.state.table) (pick_at w e.key) w.state ≡ 8 → ⊥
  never_barred_8 q =
      let r = w.state.roster in
      let (seven, eight) = barred_8 e (find e.key w.state.table) (pick_at w e.key) w.state q in
      both (is 1 e)
      (λ k.
      let (s, m) = some-member (working_set r) (not-false (some (working_set r)) (rw k at seven)) in
      clash (rw (k, target_works w i e.key s m) at eight) refl)
      (λ k. clash (rw k at eight) refl)

-- at a world that a history left
module _ (w : World) (i : Inner w) (bytes : List ℕ) where
  abbrev number : ℕ
  number = (event_of bytes w).answer.refusal

  number-cases : {C : Type 0} (n : ℕ) → 2 < n → number ≡ n
      → (barred (event_in bytes) (find (event_in bytes).key w.state.table) (pick_at w (event_in bytes).key) w.state ≡ n → C)
      → C
  number-cases n high q table =
      judged-number (event_in bytes) _ _ w.state n
      (sym (ap (λ (d : Done). d.answer.refusal) (event_judged w i.along bytes)) ∙ q)
      (λ own. absurd (omega (arith, (reading bytes).refusal_small, own)))
      (λ none. absurd (omega arith))
      table

  pub not_8 : number ≡ 8 → ⊥
  not_8 q = number-cases 8 (omega arith) q (never_barred_8 w i (event_in bytes))

  pub not_9 : number ≡ 9 → ⊥
  not_9 q = number-cases 9 (omega arith) q (barred_not_9 (event_in bytes) _ _ w.state)

  pub not_11 : number ≡ 11 → ⊥
  not_11 q = number-cases 11 (omega arith) q (barred_not_11 (event_in bytes) _ _ w.state)

module _ (w : World) (s : start_accepted w ≡ true) (h : List (List ℕ)) (b : AllBytes h) (bytes : List ℕ) where
  pub never_8 : (answer w h bytes).refusal ≡ 8 → ⊥
  never_8 = not_8 (after w h) (inner w s h b) bytes

  pub never_9 : (answer w h bytes).refusal ≡ 9 → ⊥
  never_9 = not_9 (after w h) (inner w s h b) bytes

  pub never_11 : (answer w h bytes).refusal ≡ 11 → ⊥
  never_11 = not_11 (after w h) (inner w s h b) bytes
