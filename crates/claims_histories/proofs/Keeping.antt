-- Each thing that an event can do keeps the facts: another table, a record written, half-closed or taken away, a change of roster, new settings.
use Prim.Native.Nat.{ℕ, ◌^◌, ◌<◌}
use mathlib.Core.Bool.{true, false, cond, not}
use mathlib.Core.List.{List, map}
use mathlib.Core.Path.{◌≡◌, ap, ◌∙◌}
use native.Mathlib.Omega.{arith}
use lib.Dec.{eqb, ltb}
use lib.ListN.{length}
use borrow.Author.Tests.{ltb-true}
use Rattle.sets.proofs.Cases.{both}
use Rattle.ranking.specs.declared.Pick.{Pick}
use Rattle.settings.specs.declared.Settings.{Settings}
use Rattle.settings.specs.Settings.{valid}
use Rattle.roster.specs.declared.Roster.{Roster}
use Rattle.roster.specs.Roster.{sound, working, state_of, held_servers, working_set}
use Rattle.roster.proofs.Form.{Sized, sound_parts, held_servers_lem, settings_sized, settings_sound}
use Rattle.roster.proofs.Sets.{working_state}
use Rattle.roster.proofs.Bounds.{Below, working_below}
use Rattle.table.specs.Table.{find, used, room, used_part, appended, half_closed, removed, rec_of, entries, no_stray}
use Rattle.table.proofs.HalfClosed.{used_half, length_half, clean_half}
use Rattle.table.proofs.Records.{used-removed, length_removed, length-written}
use Rattle.table.proofs.Finds.{missing_none, missing_reads}
use Rattle.table.proofs.Stray.{entries-appended, clean_appended, clean_removed}
use Rattle.ringplan.specs.Plan.{drawn}
use Rattle.rules.specs.Rules.{World, Change, rows_of, with_table, with_settings, target, packet, end, changed, configured, settled}
use Rattle.rules.proofs.Ends.{Ends, first, next, nothing, ends}
use Rattle.claims_histories.specs.Histories.{Distinct, AllWorking}
use Rattle.rules.proofs.Sizes.{right_sizes}
use Rattle.claims_histories.proofs.Inner.{Inner}
use Rattle.claims_histories.proofs.Recorded.{recorded_nowhere, distinct_append, distinct_without, named-append, named-without, named_under, distinct_half, named_half}
use Rattle.claims_histories.proofs.Drawing.{drawn_again, drawn-length, drawn-none, none_held, refilled_again, refilled_lengths, refilled-cleared, cleared_lengths}

-- a working server of the roster is one of 4 bytes
working_fits : (r : Roster) → sound r ≡ true → Below (2 ^ 32) r.servers → (s : ℕ) → state_of s r ≡ working → s < 2 ^ 32
working_fits r so b s e = working_below (2 ^ 32) r b s (working_state r so s ∙ rw e)

module _ (w : World) (i : Inner w) where
  table_keeps : (t : List ℕ) → length t ≡ length w.state.table → Distinct (entries t) → AllWorking w.state.roster (entries t)
      → no_stray t ≡ true → Inner (record { state = with_table t w.state; ring = w.ring })
  table_keeps t n d a c =
      record {
        along =
            record {
              sized = rw n i.along.sized;
              roster_sound = i.along.roster_sound;
              distinct = d;
              named = a;
              clean = c;
              rows_right = i.along.rows_right;
              ring_right = i.along.ring_right;
            };
        places = i.places;
        below = i.below;
      }

  -- a key that has no record yet, and a server that works
  appended_keeps : (key : List ℕ) (s : ℕ) → length key ≡ 13 → (find key w.state.table).found ≡ false
      → used w.state.table < room w.state.table → state_of s w.state.roster ≡ working
      → Inner (record { state = with_table (appended key s w.state.table) w.state; ring = w.ring })
  appended_keeps key s k f h e =
      let t = w.state.table in
      let fits : s < 2 ^ 32 = working_fits w.state.roster i.along.roster_sound i.below s e in
      let es = entries-appended t i.along.clean h key s k fits in
      table_keeps
      (appended key s t)
      (length-written t (used t) key s k)
      (rw es (distinct_append (entries t) _ i.along.distinct (recorded_nowhere key (used_part t) (missing_none key t f))))
      (rw es (named-append w.state.roster (entries t) _ i.along.named e))
      (clean_appended t i.along.clean key s k)

  pub packet_keeps : (key : List ℕ) (pick : Pick) → length key ≡ 13
      → state_of (target (find key w.state.table) pick w.state) w.state.roster ≡ working
      → Inner (settled (packet key (find key w.state.table) pick w.state) w.ring).world
  unfolding packet
  packet_keeps key pick k e =
      let t = w.state.table in
      both (find key t).found (λ a. rw a i) (λ a.
      both (not pick.flag) (λ b. rw (a, b) i) (λ b.
      both (ltb (find key t).reads (room t))
      (λ c.
      let u : ltb (used t) (room t) ≡ true = rw (missing_reads key t a) at c in
      rw (a, b, c, missing_reads key t a) (appended_keeps key pick.server k a (ltb-true (used t) (room t) u) (rw a at e)))
      (λ c. rw (a, b, c) i)))

  -- a table that has these records of the used part
  part_keeps : (t : List ℕ) {rs : List (List ℕ)} → used_part t ≡ rs → length t ≡ length w.state.table → no_stray t ≡ true
      → Distinct (map rec_of rs) → AllWorking w.state.roster (map rec_of rs)
      → Inner (record { state = with_table t w.state; ring = w.ring })
  part_keeps t u n c d a = table_keeps t n (rw u d) (rw u a) c

  ended_keeps : (key : List ℕ) {c : Change} → Ends (find key w.state.table) w.state c → Inner (settled c w.ring).world
  ended_keeps key (first f tag) =
      let t = w.state.table in
      let p = (find key t).reads in
      part_keeps (half_closed p t) (used_half t p) (length_half t p) (clean_half t p ∙ i.along.clean)
      (distinct_half p (used_part t) i.along.distinct)
      (named_half w.state.roster p (used_part t) i.along.named)
  ended_keeps key (next f tag) =
      let t = w.state.table in
      let p = (find key t).reads in
      part_keeps (removed p t) (used-removed t p) (length_removed t p) (clean_removed t i.along.clean p)
      (distinct_without p (used_part t) i.along.distinct)
      (named-without w.state.roster p (used_part t) i.along.named)
  ended_keeps key (nothing f) = i

  pub end_keeps : (key : List ℕ) → Inner (settled (end (find key w.state.table) w.state) w.ring).world
  end_keeps key = ended_keeps key (ends (find key w.state.table) w.state)

  -- a sound roster, with a table whose records name its working servers
  module _ (r : Roster) (z : Sized r) (so : sound r ≡ true) where
    ring-length : length (cond (eqb r.settings.method 2) (drawn (held_servers r) (working_set r) w.ring) w.ring) ≡ length w.ring
    ring-length =
        let n = right_sizes (length w.state.table) (length w.state.rows) (length w.state.flags) (length w.ring) i.along.sized in
        let few = (sound_parts r so).few in
        both
        (eqb r.settings.method 2)
        (λ t. rw t (drawn-length (held_servers r) (working_set r) w.ring (omega (arith, few, held_servers_lem r z few, n.ring_64))))
        (λ t. rw t)

    pub changed_keeps : Below (2 ^ 32) r.servers → (t : List ℕ) → length t ≡ length w.state.table → Distinct (entries t)
        → AllWorking r (entries t) → no_stray t ≡ true → Inner (settled (changed r t w.state) w.ring).world
    changed_keeps b t n d a c =
        let rows = rows_of w.state in
        record {
          along =
              record {
                sized = rw (n, (refilled_lengths r rows).0, (refilled_lengths r rows).1, ring-length) i.along.sized;
                roster_sound = so;
                distinct = d;
                named = a;
                clean = c;
                rows_right = refilled_again r rows;
                ring_right = λ m. rw m (drawn_again (held_servers r) (working_set r) w.ring);
              };
          places = z;
          below = b;
        }

  -- new settings, while no server is held
  pub configured_keeps : (c : Settings) → valid c ≡ true → w.state.roster.held ≡ 0
      → Inner (settled (configured c w.state) w.ring).world
  configured_keeps c v none =
      let r = w.state.roster in
      let r' = with_settings c r in
      let rows = rows_of w.state in
      record {
        along =
            record {
              sized = rw ((cleared_lengths c.rows rows).0, (cleared_lengths c.rows rows).1) i.along.sized;
              roster_sound = settings_sound c r v i.along.roster_sound;
              distinct = i.along.distinct;
              named = named_under r r' (entries w.state.table) (λ x q. q) i.along.named;
              clean = i.along.clean;
              rows_right = refilled-cleared r' none rows;
              ring_right =
                  λ m. ap (λ (l : List ℕ). drawn l (working_set r') w.ring) (none_held r' none)
                  ∙ drawn-none (working_set r') w.ring;
            };
        places = settings_sized c r i.places;
        below = i.below;
      }
