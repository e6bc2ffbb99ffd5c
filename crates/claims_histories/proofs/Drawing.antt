-- Filling rows or drawing a ring a second time changes nothing more, and no length; a roster that holds no server leaves both as they are.
use Prim.Native.Nat.{ℕ, ◌≤◌}
use mathlib.Core.List.{List, [], ◌++◌}
use mathlib.Core.Path.{◌≡◌, refl, sym, ap}
use native.Mathlib.Omega.{arith}
use lib.Dec.{eqb}
use lib.ListN.{length, drop, length-append, length-drop}
use lib.Seq.{drop_at}
use Rattle.sets.specs.Sets.{in_state}
use Rattle.sets.proofs.Cases.{both}
use Rattle.roster.specs.declared.Roster.{Roster}
use Rattle.roster.specs.Roster.{held_servers, working_set, horizon}
use Rattle.rows.specs.Rows.{Rows, filled, cleared}
use Rattle.rows.proofs.Reading.{filled_lengths, filled_again, filled_none}
use Rattle.ring.specs.declared.Entry.{Entry}
use Rattle.ringplan.specs.Plan.{arranged, entries, drawn}
use Rattle.ringplan.proofs.Reading.{length-entries}
use Rattle.rules.specs.Rules.{refilled}

-- the ring
module _ (held working : List ℕ) (old : List Entry) where
  pub drawn_again : drawn held working (drawn held working old) ≡ drawn held working old
  unfolding drawn
  drawn_again =
      ap
      (λ (l : List Entry). entries held working ++ l)
      (drop_at (entries held working) (drop (length held) old) (length held) (length-entries held working))

  pub drawn-length : length held ≤ length old → length (drawn held working old) ≡ length old
  unfolding drawn
  drawn-length h = simp (length-append, length-drop) (omega (arith, length-entries held working))

pub drawn-none : (working : List ℕ) (old : List Entry) → drawn [] working old ≡ old
unfolding drawn entries arranged
drawn-none working old = refl

-- the rows
module _ (r : Roster) (rows : Rows) where
  pub refilled_again : refilled r (refilled r rows) ≡ refilled r rows
  unfolding refilled
  refilled_again =
      both
      (eqb r.settings.method 3)
      (λ t. rw t (filled_again r.settings.rows (working_set r) (horizon r) rows (working_set r) (horizon r)))
      (λ t. rw t)

  pub refilled_lengths : (length (refilled r rows).servers ≡ length rows.servers) × (length (refilled r rows).flags ≡ length rows.flags)
  unfolding refilled
  refilled_lengths =
      both
      (eqb r.settings.method 3)
      (λ t. rw t (filled_lengths r.settings.rows (working_set r) (horizon r) rows))
      (λ t. rw t (refl, refl))

-- cleared rows are those of no working server
module _ (count : ℕ) (rows : Rows) where
  cleared-filled : (horizon : List ℕ) → cleared count rows ≡ filled count [] horizon rows
  unfolding cleared
  cleared-filled horizon = sym (filled_none count horizon rows)

  pub cleared_lengths : (length (cleared count rows).servers ≡ length rows.servers) × (length (cleared count rows).flags ≡ length rows.flags)
  cleared_lengths = rw (cleared-filled []) (filled_lengths count [] [] rows)

  filled-cleared : (horizon : List ℕ) → filled count [] horizon (cleared count rows) ≡ cleared count rows
  filled-cleared horizon = rw (cleared-filled horizon) (filled_again count [] horizon rows [] horizon)

-- a roster that holds no server
module _ (r : Roster) (none : r.held ≡ 0) where
  pub none_held : held_servers r ≡ []
  none_held = rw none

  none-working : working_set r ≡ []
  unfolding in_state
  none-working = rw none

  pub refilled-cleared : (rows : Rows) → refilled r (cleared r.settings.rows rows) ≡ cleared r.settings.rows rows
  unfolding refilled
  refilled-cleared rows =
      both
      (eqb r.settings.method 3)
      (λ t. rw (t, none-working) (filled-cleared r.settings.rows rows (horizon r)))
      (λ t. rw t)
