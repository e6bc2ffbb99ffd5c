-- What a packet without a record is given, read from rows, ring or the sets themselves, is what the ranking of the method in force picks.
use Prim.Native.Nat.{ℕ, ◌%◌}
use mathlib.Core.Bool.{true}
use mathlib.Core.List.{List}
use mathlib.Core.Path.{◌≡◌, sym, ap, ◌∙◌}
use native.Mathlib.Omega.{arith}
use lib.Dec.{eqb}
use lib.ListN.{length}
use Rattle.sets.specs.Sets.{member}
use Rattle.sets.proofs.Cases.{both}
use Rattle.hash.specs.Hash.{F, digest, row, point}
use Rattle.hash.proofs.Bounds.{F-fits}
use Rattle.ranking.specs.declared.Pick.{Pick}
use Rattle.ranking.specs.Ranking.{Strict, picked}
use Rattle.ranking.specs.Methods.{in_row, ring as ring-at}
use Rattle.ranking.proofs.Instances.{hrw_strict, in_row_strict, ring_strict}
use Rattle.settings.specs.declared.Settings.{Settings}
use Rattle.roster.specs.Roster.{held_servers, working_set, horizon}
use Rattle.roster.proofs.Form.{sound_parts, held_servers_lem}
use Rattle.roster.proofs.Sets.{held_sets}
use Rattle.rows.specs.Rows.{filled, row_read}
use Rattle.rows.proofs.Reading.{read_filled}
use Rattle.ring.specs.declared.Entry.{Entry}
use Rattle.ring.specs.Ring.{entry_read, gives}
use Rattle.ringplan.specs.Plan.{drawn}
use Rattle.ringplan.proofs.Reading.{ring_reads}
use Rattle.rules.specs.Rules.{World, rows_of, refilled, pick_by}
use Rattle.claims_histories.specs.Histories.{ranking_for}
use Rattle.rules.proofs.Sizes.{right_sizes}
use Rattle.claims_histories.proofs.Sizes.{rows_counted}
use Rattle.claims_histories.proofs.Inner.{Inner}

-- what a world gives a key that has no record
abbrev pub pick_at : World → List ℕ → Pick
pick_at w key = pick_by (F key) (entry_read w.state.roster.held (F key) w.ring) w.state

-- whatever the method, the ranking in force is strict
pub ranking_strict : (c : Settings) (key : List ℕ) → Strict (ranking_for c key)
ranking_strict c key =
    both (eqb c.method 3) (λ t. rw t (in_row_strict (row key c.rows))) (λ t.
    both (eqb c.method 2) (λ u. rw (t, u) (ring_strict (point key))) (λ u. rw (t, u) (hrw_strict (digest (F key)))))

module _ (w : World) (i : Inner w) (key : List ℕ) (s : ℕ) (works : member s (working_set w.state.roster) ≡ true) where
  from_row : eqb w.state.roster.settings.method 3 ≡ true
      → row_read w.state.roster.settings.rows (F key) (rows_of w.state)
      ≡ picked (in_row (F key % w.state.roster.settings.rows)) (working_set w.state.roster) (horizon w.state.roster)
  unfolding refilled
  from_row t =
      let r = w.state.roster in
      let n = right_sizes (length w.state.table) (length w.state.rows) (length w.state.flags) (length w.ring) i.along.sized in
      let c = rows_counted r.settings (sound_parts r i.along.roster_sound).settings_valid t in
      let e : filled r.settings.rows (working_set r) (horizon r) (rows_of w.state) ≡ rows_of w.state = rw t at i.along.rows_right in
      ap (row_read r.settings.rows (F key)) (sym e)
      ∙ read_filled
      r.settings.rows
      (working_set r)
      (horizon r)
      (rows_of w.state)
      (F key)
      c.some
      (omega (arith, c.few, n.rows_4096))
      (omega (arith, c.few, n.flags_4096))

  from-ring : eqb w.state.roster.settings.method 2 ≡ true
      → gives (entry_read w.state.roster.held (F key) w.ring)
      ≡ picked (ring-at (F key)) (working_set w.state.roster) (horizon w.state.roster)
  from-ring t =
      let r = w.state.roster in
      let held : length (held_servers r) ≡ r.held = held_servers_lem r i.places (sound_parts r i.along.roster_sound).few in
      ap (λ (l : List Entry). gives (entry_read r.held (F key) l)) (sym (i.along.ring_right t))
      ∙ ap (λ (n : ℕ). gives (entry_read n (F key) (drawn (held_servers r) (working_set r) w.ring))) (sym held)
      ∙ ring_reads
      (working_set r)
      (horizon r)
      (held_servers r)
      (F key)
      s
      (F-fits key)
      works
      (held_sets r i.along.roster_sound i.places)
      w.ring

  pub pick_right : pick_by (F key) (entry_read w.state.roster.held (F key) w.ring) w.state
      ≡ picked (ranking_for w.state.roster.settings key) (working_set w.state.roster) (horizon w.state.roster)
  unfolding pick_by
  pick_right =
      both
      (eqb w.state.roster.settings.method 3)
      (λ t. rw t (from_row t))
      (λ t. both (eqb w.state.roster.settings.method 2) (λ u. rw (t, u) (from-ring u)) (λ u. rw (t, u)))
