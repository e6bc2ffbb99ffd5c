-- Engines that do right at first and then depart: by answer, table or roster, at any one event, were it by one record. And that demand 2 can be met.
use Prim.Native.Nat.{ℕ, ◌+◌, ◌%◌, ◌<◌, ◌≤◌}
use mathlib.Core.Bool.{true, false}
use mathlib.Core.List.{List, [], ◌∷◌}
use mathlib.Core.Logic.{◌≢◌, ◌⊎◌, ⊎_elim}
use mathlib.Core.Path.{◌≡◌, refl, sym, ap, subst, ◌∙◌}
use native.Mathlib.Omega.{arith}
use lib.ListN.{length, replicate, length-replicate}
use borrow.Author.Tests.{eq-eqb, ne_eqb, le-leb}
use Rattle.sets.specs.Sets.{in_state}
use Rattle.sets.proofs.Cases.{clash}
use Rattle.spans.specs.Spans.{all_zero}
use Rattle.roster.specs.declared.Roster.{Roster}
use Rattle.lists.specs.Lists.{before, put_in}
use Rattle.roster.specs.Roster.{working_set, empty_roster, state_in, restated, added_horizon}
use Rattle.event.specs.Event.{all_bytes, event_in, by_kind, asks_server}
use Rattle.table.specs.Table.{used}
use Rattle.ring.specs.Ring.{blank}
use Rattle.ringplan.specs.Plan.{some}
use Rattle.rules.specs.Answer.{Answer}
use Rattle.rules.specs.Rules.{World, barred, effect, judged, sizes_right, sized_for}
use Rattle.claims_histories.specs.Histories.{start_accepted, AllBytes}
use Rattle.claims_demands.specs.Demands.{Engine, ours, Demand2}
use Rattle.claims_demands.proofs.Obeys.{start_sizes, ours_obeys}
use Rattle.claims_demands.proofs.Same.{unserved_seen, same_engines, same_answers}
use Rattle.claims_demands.proofs.Witness.{stand, enter, packet_p, waiting, plain_seen, written_part}

-- at an event after the history h the two differ: in the answer, or in the table or the roster after it
abbrev pub Differ : Engine → Engine → List (List ℕ) → List ℕ → Type 0
Differ E G h bytes =
    (E.says h bytes ≢ G.says h bytes)
    ⊎ ((E.table (bytes ∷ h) ≢ G.table (bytes ∷ h)) ⊎ (E.roster (bytes ∷ h) ≢ G.roster (bytes ∷ h)))

-- one that honours the first event and only pretends afterwards: whatever it does otherwise than an engine that obeys, at whatever event
-- (h is any history, so the event may be the second or any later one)
pub not_departing : (n : ℕ) (E G : Engine) → Demand2 n E → (h : List (List ℕ)) (bytes : List ℕ) → AllBytes (bytes ∷ h)
    → Differ E G h bytes → Demand2 n G → ⊥
not_departing n E G d h bytes b other g =
    let same = same_engines n E G d g (bytes ∷ h) b in
    ⊎_elim (λ a. a (same_answers n E G d g h b.1 bytes b.0)) (⊎_elim (λ t. t same.0) (λ r. r same.1)) other

-- one record less, after one history
pub not_one_less : (n : ℕ) (E G : Engine) → Demand2 n E → (h : List (List ℕ)) → AllBytes h → used (G.table h) + 1 ≡ used (E.table h)
    → Demand2 n G → ⊥
not_one_less n E G d h b less g =
    let same : used (E.table h) ≡ used (G.table h) = ap used (same_engines n E G d g h b).0 in
    omega arith

-- and there is a history that shows it: this one leaves one record
pub one_record : (n : ℕ) (E : Engine) → Demand2 n E → 20 ≤ n → used (E.table (packet_p ∷ waiting)) ≡ 1
one_record n E d room = ap length (written_part n E d room)

-- the second event: server 1, in the horizon, enters work, or stands again
abbrev standing : Roster
standing = record { servers = 1 ∷ replicate 63 0; states = 2 ∷ replicate 63 0; held = 1; settings = empty_roster.settings }

module _ (n : ℕ) (E : Engine) (d : Demand2 n E) where
  pub stood : E.roster (stand 1 ∷ []) ≡ standing
  unfolding all_bytes judged barred effect added_horizon put_in before state_in event_in by_kind asks_server all_zero
  stood = (plain_seen n E d (stand 1 ∷ []) (refl, tt) refl).1

  -- one whose roster stands still after the first event
  pub not-standing-still
      : ((first bytes : List ℕ) → AllBytes (bytes ∷ first ∷ []) → E.roster (bytes ∷ first ∷ []) ≡ E.roster (first ∷ [])) → ⊥
  unfolding all_bytes judged barred effect added_horizon put_in before state_in restated event_in by_kind asks_server all_zero in_state
  not-standing-still all =
      let entered : some (working_set (E.roster (enter 1 ∷ stand 1 ∷ []))) ≡ true =
      ap (λ (r : Roster). some (working_set r)) (plain_seen n E d (enter 1 ∷ stand 1 ∷ []) (refl, (refl, tt)) refl).1 in
      let still = all (stand 1) (enter 1) (refl, (refl, tt)) ∙ stood in
      clash (rw still at entered) refl

  -- one that gives the same answer to whatever comes second
  pub not_reciting : (a : Answer) → ((first bytes : List ℕ) → AllBytes (bytes ∷ first ∷ []) → E.says (first ∷ []) bytes ≡ a) → ⊥
  unfolding all_bytes judged barred effect state_in event_in by_kind asks_server all_zero
  not_reciting a all =
      let again : (E.says (stand 1 ∷ []) (stand 1)).accepted ≡ false =
      ap (λ (x : Answer). x.accepted) (unserved_seen n E d (stand 1 ∷ []) (stand 1) (refl, (refl, tt)) refl).answer ∙ rw stood in
      let enters : (E.says (stand 1 ∷ []) (enter 1)).accepted ≡ true =
      ap (λ (x : Answer). x.accepted) (unserved_seen n E d (stand 1 ∷ []) (enter 1) (refl, (refl, tt)) refl).answer ∙ rw stood in
      clash
      (ap (λ (x : Answer). x.accepted) (sym (all (stand 1) (enter 1) (refl, (refl, tt)))) ∙ enters)
      (ap (λ (x : Answer). x.accepted) (sym (all (stand 1) (stand 1) (refl, (refl, tt)))) ∙ again)

-- demand 2 can be met at each size of table that a start accepts, so none of this is said of no engine at all
abbrev pub blank_world : ℕ → World
blank_world n =
    record {
      state = record { table = replicate n 0; rows = replicate 4096 0; flags = replicate 4096 0; roster = empty_roster };
      ring = replicate 64 blank;
    }

module _ (n : ℕ) (above : 0 < n) (few : n ≤ 65520) (whole : n % 20 ≡ 0) where
  blank_sized : sized_for 64 (blank_world n).state ≡ true
  unfolding sizes_right
  blank_sized = rw (length-replicate {A = ℕ} n 0, ne_eqb n 0 (omega arith), le-leb n 65520 few, eq-eqb (n % 20) 0 whole)

  pub blank_starts : start_accepted (blank_world n) ≡ true
  blank_starts = start_sizes (blank_world n) ∙ blank_sized

  pub blank_obeys : Demand2 n (ours (blank_world n))
  blank_obeys = subst (λ (m : ℕ). Demand2 m (ours (blank_world n))) (length-replicate n 0) (ours_obeys (blank_world n) blank_starts)

  pub met : (E : Engine) × Demand2 n E
  met = (ours (blank_world n), blank_obeys)
