-- Each of the four changes of roster keeps the facts: who works goes on working, or its records are taken away.
use Prim.Native.Nat.{ℕ, ◌^◌, ◌<◌}
use mathlib.Core.Bool.{cond}
use mathlib.Core.Logic.{◌≢◌}
use mathlib.Core.Path.{◌≡◌, refl, ◌∙◌}
use native.Mathlib.Omega.{arith}
use lib.Dec.{eqb, lit<}
use borrow.Author.Tests.{eqb-true}
use Rattle.sets.proofs.Cases.{both}
use Rattle.roster.specs.declared.Roster.{Roster}
use Rattle.roster.specs.Roster.{working, standby, state_of, added_working, removed_working, added_horizon, removed_horizon}
use Rattle.roster.proofs.Changes.{added_working_sized, added_working-sound, added_working_state, removed_working_sized, removed_working-sound, removed_working_state, added_horizon_sized, added_horizon-sound, added_horizon_state}
use Rattle.roster.proofs.Removed.{removed_horizon_sized, removed_horizon-sound, removed_horizon_state}
use Rattle.roster.proofs.Bounds.{added_working_below, removed_working_below, added_horizon_below, removed_horizon_below}
use Rattle.table.specs.Table.{used_part, removed_server, entries}
use Rattle.table.proofs.Records.{entries-removed_server, length-removed_server}
use Rattle.table.proofs.Stray.{clean_removed_server}
use Rattle.rules.specs.Rules.{World, changed, settled}
use Rattle.claims_histories.proofs.Inner.{Inner}
use Rattle.claims_histories.proofs.Recorded.{distinct_not_naming, named_under, named-not_naming}
use Rattle.claims_histories.proofs.Keeping.{changed_keeps}

-- a server that works is not the one in another state, whatever that one's state becomes
works_on : (r : Roster) (s x k : ℕ) → state_of s r ≢ working → state_of x r ≡ working → cond (eqb x s) k (state_of x r) ≡ working
works_on r s x k n q =
    both
    (eqb x s)
    (λ t. let e : x ≡ s = eqb-true x s t in absurd (n (rw e at q)))
    (λ t. rw t q)

module _ (w : World) (i : Inner w) (s : ℕ) where
  pub added_working_keeps : state_of s w.state.roster ≡ standby
      → Inner (settled (changed (added_working s w.state.roster) w.state.table w.state) w.ring).world
  added_working_keeps e =
      let r = w.state.roster in
      changed_keeps w i
      (added_working s r)
      (added_working_sized s r i.places)
      (added_working-sound s r i.along.roster_sound)
      (added_working_below (2 ^ 32) s r i.below)
      w.state.table
      refl
      i.along.distinct
      (named_under r (added_working s r) (entries w.state.table)
      (λ x q. added_working_state s r e x ∙ both (eqb x s) (λ t. rw t) (λ t. rw t q))
      i.along.named)
      i.along.clean

  pub removed_working_keeps : state_of s w.state.roster ≡ working
      → Inner (settled (changed (removed_working s w.state.roster) (removed_server s w.state.table) w.state) w.ring).world
  removed_working_keeps e =
      let r = w.state.roster in
      let t = w.state.table in
      changed_keeps w i
      (removed_working s r)
      (removed_working_sized s r i.places)
      (removed_working-sound s r i.along.roster_sound)
      (removed_working_below (2 ^ 32) s r i.below)
      (removed_server s t)
      (length-removed_server t s)
      (rw (entries-removed_server t s) (distinct_not_naming s (used_part t) i.along.distinct))
      (rw (entries-removed_server t s)
      (named-not_naming r (removed_working s r) s (used_part t)
      (λ x u q. removed_working_state s r e x ∙ rw u q)
      i.along.named))
      (clean_removed_server t i.along.clean s)

  pub added_horizon_keeps : 0 < s → s < 2 ^ 32 → w.state.roster.held < 64 → state_of s w.state.roster ≡ 0
      → Inner (settled (changed (added_horizon s w.state.roster) w.state.table w.state) w.ring).world
  added_horizon_keeps some fits room e =
      let r = w.state.roster in
      changed_keeps w i
      (added_horizon s r)
      (added_horizon_sized s r room i.places)
      (added_horizon-sound s r room i.places i.along.roster_sound (λ q. omega arith) e)
      (added_horizon_below (2 ^ 32) s r i.below fits)
      w.state.table
      refl
      i.along.distinct
      (named_under r (added_horizon s r) (entries w.state.table)
      (λ x q. added_horizon_state s r room i.places x ∙ works_on r s x 2 (λ u. omega (arith, e, u)) q)
      i.along.named)
      i.along.clean

  pub removed_horizon_keeps : state_of s w.state.roster ≡ standby
      → Inner (settled (changed (removed_horizon s w.state.roster) w.state.table w.state) w.ring).world
  removed_horizon_keeps e =
      let r = w.state.roster in
      let so = i.along.roster_sound in
      changed_keeps w i
      (removed_horizon s r)
      (removed_horizon_sized s r i.places so e)
      (removed_horizon-sound s r i.places so e)
      (removed_horizon_below (2 ^ 32) s r i.below (lit< tt))
      w.state.table
      refl
      i.along.distinct
      (named_under r (removed_horizon s r) (entries w.state.table)
      (λ x q. removed_horizon_state s r i.places so e x ∙ works_on r s x 0 (λ u. omega (arith, e, u)) q)
      i.along.named)
      i.along.clean
