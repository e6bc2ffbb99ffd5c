-- Demands 2 and 3 of every balancer whose calls keep the promises that the contracts of `start` and `event` cite, and demand 3 of every engine
-- that obeys demand 2: what each shows is what our engine shows.
use Prim.Native.Nat.{ℕ, ◌+◌, ◌%◌, ◌<◌, ◌≤◌}
use mathlib.Core.Bool.{true, false}
use mathlib.Core.List.{List, [], ◌∷◌}
use mathlib.Core.Logic.{◌≢◌}
use mathlib.Core.Path.{◌≡◌, refl, ap, ◌∙◌}
use lib.ListN.{length}
use Rattle.event.specs.Event.{asks_key, event_in}
use Rattle.table.specs.Table.{server_of, find, tag_at, removed, entries}
use Rattle.rules.specs.Answer.{answer_of}
use Rattle.rules.specs.Rules.{World, Done, event_of}
use Rattle.claims_histories.specs.Histories.{start_accepted, after, answer, AllBytes, Distinct}
use Rattle.claims_histories.proofs.Along.{along}
use Rattle.claims_demands.specs.Demands.{Engine, ours, InUse, Keeps, shown, Demand2, ends_since, FewerThanTwo, ProvisosWith, Steady, Demand3}
use Rattle.claims_demands.proofs.Alike.{Alike, same_ends, alike_obeys, alike_enough, alike_steady}
use Rattle.claims_demands.proofs.Demand1.{demand1_met, demand1_start_met}
use Rattle.claims_demands.proofs.Obeys.{ours_obeys}
use Rattle.claims_demands.proofs.Same.{next_end, same_engines, same_answers}
use Rattle.claims_demands.proofs.SteadyRecords.{read_missing, read_ended}
use Rattle.claims_demands.proofs.TagCounts.{tag_counts}
use Rattle.claims_demands.proofs.Steady.{ends_enough, ours_steady}
use Rattle.claims_demands.proofs.Pretenders.{blank_world, blank_starts, blank_obeys}

-- ---- a balancer that keeps its promises
module _ (B : InUse) (k : Keeps B) where
  abbrev w : World
  w = B.former

  start_taken : start_accepted w ≡ true
  start_taken = rw (start_accepted, ← (ap (λ (d : Done). d.answer.accepted) k.starts)) k.accepted

  world_is : (h : List (List ℕ)) → AllBytes h → B.world h ≡ after w h
  unfolding after
  world_is [] b = ap (λ (d : Done). d.world) k.starts
  world_is (bytes ∷ h) b =
      ap (λ (d : Done). d.world) (k.goes h bytes b) ∙ ap (λ (v : World). (event_of bytes v).world) (world_is h b.1)

  reply_is : (h : List (List ℕ)) (bytes : List ℕ) → AllBytes (bytes ∷ h) → answer_of (B.reply h bytes) ≡ answer w h bytes
  reply_is h bytes b =
      ap (λ (d : Done). d.answer) (k.goes h bytes b) ∙ ap (λ (v : World). (event_of bytes v).answer) (world_is h b.1)

  shown_alike : Alike (shown B) (ours w)
  shown_alike =
      record {
        table = λ h b. ap (λ (v : World). v.state.table) (world_is h b);
        roster = λ h b. ap (λ (v : World). v.state.roster) (world_is h b);
        says = reply_is;
      }

  -- DEMAND 2
  pub kept_obeys : Demand2 (length w.state.table) (shown B)
  kept_obeys = alike_obeys (shown B) (ours w) shown_alike _ (ours_obeys w start_taken)

  -- DEMAND 3
  pub kept_steady : Demand3 (shown B)
  kept_steady = alike_steady (shown B) (ours w) shown_alike (ours_steady w start_taken)

-- ---- an engine that obeys demand 2, for the lengths that a table can have
module _ (n : ℕ) (above : 0 < n) (few : n ≤ 65520) (whole : n % 20 ≡ 0) (E : Engine) (d : Demand2 n E) where
  every_alike : Alike E (ours (blank_world n))
  every_alike =
      let g = blank_obeys n above few whole in
      let o = ours (blank_world n) in
      record {
        table = λ h b. (same_engines n E o d g h b).0;
        roster = λ h b. (same_engines n E o d g h b).1;
        says = λ h bytes b. same_answers n E o d g h b.1 bytes b.0;
      }

  -- the sentence about two successive packets, with the first half of the proviso about ends
  pub every_enough : Steady (λ h earlier key m between. ProvisosWith (FewerThanTwo E key) E h earlier key m between) E
  every_enough = alike_enough E (ours (blank_world n)) every_alike (ends_enough (blank_world n) (blank_starts n above few whole))

  -- DEMAND 3
  pub every_steady : Demand3 E
  every_steady = alike_steady E (ours (blank_world n)) every_alike (ours_steady (blank_world n) (blank_starts n above few whole))

  -- the tag counts the ends
  pub every_counts : (h : List (List ℕ)) → AllBytes h → (key : List ℕ) → (find key (E.table h)).found ≡ true
      → tag_at (find key (E.table h)).reads (E.table h) ≡ 1 + ends_since E key h
  every_counts h b key =
      rw (every_alike.table h b, same_ends E (ours (blank_world n)) every_alike key h b)
      (tag_counts (blank_world n) (blank_starts n above few whole) h b key)

  -- a key that is ended for the second time has no record then. (It rests on no key being recorded twice.)
  pub second_removes : (h : List (List ℕ)) (bytes key : List ℕ) → AllBytes (bytes ∷ h) → event_in bytes ≡ asks_key 2 key
      → (find key (E.table h)).found ≡ true → tag_at (find key (E.table h)).reads (E.table h) ≢ 1 → (find key (E.table (bytes ∷ h))).found ≡ false
  second_removes h bytes key b e f other =
      let t = E.table h in
      let distinct : Distinct (entries t) =
      rw (every_alike.table h b.1) (along (blank_world n) (blank_starts n above few whole) h b.1).distinct in
      rw (next_end n E d h bytes b key e f other).1
      (read_missing server_of key (removed (find key t).reads t) (read_ended server_of key t f distinct))

-- ---- there are balancers that keep their promises, from every accepted start
module _ (w : World) where
  abbrev grown : List (List ℕ) → World
  grown [] = (demand1_start_met w).0
  grown (bytes ∷ h) = (demand1_met bytes (grown h)).0

  abbrev keeper : InUse
  keeper =
      record {
        former = w;
        started = (demand1_start_met w).1;
        world = grown;
        reply = λ h bytes. (demand1_met bytes (grown h)).1;
      }

  pub keepers_met : start_accepted w ≡ true → (B : InUse) × (B.former ≡ w) × Keeps B
  keepers_met a = (
    keeper,
    refl,
    record {
      accepted = ap (λ (d : Done). d.answer.accepted) (demand1_start_met w).2 ∙ a;
      starts = (demand1_start_met w).2;
      goes = λ h bytes b. (demand1_met bytes (grown h)).2;
    },
  )
