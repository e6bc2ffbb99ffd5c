-- What each change of a sound roster does to the working set and to the horizon.
use Prim.Native.Nat.{ℕ, ◌<◌}
use mathlib.Core.Bool.{Bool, true, false, cond, not, ◌&&◌, ◌||◌}
use mathlib.Core.Logic.{◌≢◌}
use mathlib.Core.Path.{◌≡◌, refl, ◌∙◌}
use native.Mathlib.Omega.{arith}
use lib.Dec.{eqb}
use borrow.Author.Tests.{eq-eqb}
use Rattle.sets.specs.Sets.{member}
use Rattle.roster.specs.declared.Roster.{Roster}
use Rattle.lists.specs.Lists.{before}
use Rattle.roster.specs.Roster.{working, standby, sound, held_servers, held_states, state_of, working_set, horizon, added_working, removed_working, added_horizon, removed_horizon}
use Rattle.roster.proofs.InState.{in_state_in, in_state_out}
use Rattle.roster.proofs.Form.{Sized, sound_parts, held_same}
use Rattle.roster.proofs.Changes.{added_working-sound, added_working_state, removed_working-sound, removed_working_state, added_horizon-sound, added_horizon_state, added_horizon_servers, added_horizon_states}
use Rattle.roster.proofs.Removed.{removed_horizon-sound, removed_horizon_state, removed_horizon_servers, removed_horizon_states}
use Rattle.roster.proofs.Sets.{working_state, horizon_state}

-- the test for state k, where the servers of a test get k, and where they get another state
gains : (b : Bool) (n k : ℕ) → eqb (cond b k n) k ≡ b || eqb n k
gains true n k = eq-eqb k k refl
gains false n k = refl

loses : (b : Bool) (m n k : ℕ) → eqb m k ≡ false → eqb (cond b m n) k ≡ not b && eqb n k
loses true m n k e = e
loses false m n k e = refl

-- add working
module _ (s : ℕ) (r : Roster) (so : sound r ≡ true) (e : state_of s r ≡ standby) where
  pub added_working-working : (x : ℕ) → member x (working_set (added_working s r)) ≡ eqb x s || member x (working_set r)
  added_working-working x =
      working_state (added_working s r) (added_working-sound s r so) x
      ∙ rw (added_working_state s r e x, working_state r so x) (gains (eqb x s) (state_of x r) 1)

  pub added_working-horizon : (x : ℕ) → member x (horizon (added_working s r)) ≡ not (eqb x s) && member x (horizon r)
  added_working-horizon x =
      horizon_state (added_working s r) (added_working-sound s r so) x
      ∙ rw (added_working_state s r e x, horizon_state r so x) (loses (eqb x s) 1 (state_of x r) 2 refl)

-- remove working
module _ (s : ℕ) (r : Roster) (so : sound r ≡ true) (e : state_of s r ≡ working) where
  pub removed_working-working : (x : ℕ) → member x (working_set (removed_working s r)) ≡ not (eqb x s) && member x (working_set r)
  removed_working-working x =
      working_state (removed_working s r) (removed_working-sound s r so) x
      ∙ rw (removed_working_state s r e x, working_state r so x) (loses (eqb x s) 2 (state_of x r) 1 refl)

  pub removed_working-horizon : (x : ℕ) → member x (horizon (removed_working s r)) ≡ eqb x s || member x (horizon r)
  removed_working-horizon x =
      horizon_state (removed_working s r) (removed_working-sound s r so) x
      ∙ rw (removed_working_state s r e x, horizon_state r so x) (gains (eqb x s) (state_of x r) 2)

-- add horizon
module _ (s : ℕ) (r : Roster) (z : Sized r) (so : sound r ≡ true) (room : r.held < 64) where
  pub added_horizon-working : working_set (added_horizon s r) ≡ working_set r
  added_horizon-working =
      rw (added_horizon_servers s r room z, added_horizon_states s r room z)
      (in_state_in 1 s 2 (before s (held_servers r)) (held_servers r) (held_states r) refl (held_same r z (omega arith)))

  pub added_horizon-horizon : s ≢ 0 → state_of s r ≡ 0 → (x : ℕ) → member x (horizon (added_horizon s r)) ≡ eqb x s || member x (horizon r)
  added_horizon-horizon n e x =
      horizon_state (added_horizon s r) (added_horizon-sound s r room z so n e) x
      ∙ rw (added_horizon_state s r room z x, horizon_state r so x) (gains (eqb x s) (state_of x r) 2)

-- remove horizon
module _ (s : ℕ) (r : Roster) (z : Sized r) (so : sound r ≡ true) (e : state_of s r ≡ standby) where
  pub removed_horizon-working : working_set (removed_horizon s r) ≡ working_set r
  removed_horizon-working =
      rw (removed_horizon_servers s r z so e, removed_horizon_states s r z so e)
      (in_state_out 1 s (held_servers r) (held_states r) (rw e) (held_same r z (sound_parts r so).few))

  pub removed_horizon-horizon : (x : ℕ) → member x (horizon (removed_horizon s r)) ≡ not (eqb x s) && member x (horizon r)
  removed_horizon-horizon x =
      horizon_state (removed_horizon s r) (removed_horizon-sound s r z so e) x
      ∙ rw (removed_horizon_state s r z so e x, horizon_state r so x) (loses (eqb x s) 0 (state_of x r) 2 refl)
