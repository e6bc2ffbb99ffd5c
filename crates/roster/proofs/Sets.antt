-- The working set and the horizon of a sound roster, by the state of each server: apart, without 0, and together all the servers held.
use Prim.Native.Nat.{ℕ, ◌+◌}
use mathlib.Core.Bool.{true, false, ◌||◌}
use mathlib.Core.Path.{◌≡◌, refl, sym, ◌∙◌}
use native.Mathlib.Omega.{arith}
use lib.Dec.{eqb}
use lib.ListN.{length}
use borrow.Author.Tests.{eqb-true}
use Rattle.sets.specs.Sets.{member, Within}
use Rattle.sets.proofs.Cases.{both}
use Rattle.roster.specs.declared.Roster.{Roster}
use Rattle.lists.specs.Lists.{rising}
use Rattle.roster.specs.Roster.{working, standby, sound, held_servers, held_states, state_of, working_set, horizon}
use Rattle.lists.proofs.Order.{rise_none, rise_in_state}
use Rattle.roster.proofs.States.{state_absent, absent_state, state_held}
use Rattle.roster.proofs.InState.{in_state_within, member-in_state, in_state-count}
use Rattle.roster.proofs.Form.{Sized, sound_parts, held_servers_lem, held_same}

pub working_within : (r : Roster) → Within (working_set r) (held_servers r)
working_within r = in_state_within 1 (held_servers r) (held_states r)

pub horizon_within : (r : Roster) → Within (horizon r) (held_servers r)
horizon_within r = in_state_within 2 (held_servers r) (held_states r)

module _ (r : Roster) (so : sound r ≡ true) where
  pub working_state : (x : ℕ) → member x (working_set r) ≡ eqb (state_of x r) working
  working_state x = member-in_state 0 x 1 (held_servers r) (held_states r) refl (sound_parts r so).rises

  pub horizon_state : (x : ℕ) → member x (horizon r) ≡ eqb (state_of x r) standby
  horizon_state x = member-in_state 0 x 2 (held_servers r) (held_states r) refl (sound_parts r so).rises

  -- each stands once, in rising order
  pub working_rises : rising 0 (working_set r) ≡ true
  working_rises = rise_in_state 0 1 (held_servers r) (held_states r) (sound_parts r so).rises

  pub horizon_rises : rising 0 (horizon r) ≡ true
  horizon_rises = rise_in_state 0 2 (held_servers r) (held_states r) (sound_parts r so).rises

  -- no server is in both
  pub sets_apart : (x : ℕ) → member x (working_set r) ≡ true → member x (horizon r) ≡ false
  sets_apart x m =
      let w : state_of x r ≡ 1 = eqb-true (state_of x r) 1 (sym (working_state x) ∙ m) in
      horizon_state x ∙ rw w

  -- 0 is in neither
  pub zero_unknown : state_of 0 r ≡ 0
  zero_unknown = state_absent 0 (held_servers r) (held_states r) (rise_none 0 0 (held_servers r) (sound_parts r so).rises (omega arith))

  pub working_nonzero : member 0 (working_set r) ≡ false
  working_nonzero = working_state 0 ∙ rw zero_unknown

  pub horizon_nonzero : member 0 (horizon r) ≡ false
  horizon_nonzero = horizon_state 0 ∙ rw zero_unknown

  module _ (z : Sized r) where
    same : length (held_servers r) ≡ length (held_states r)
    same = held_same r z (sound_parts r so).few

    -- a held server is in one of the two, and only a held one
    pub held_sets : (x : ℕ) → member x (held_servers r) ≡ member x (working_set r) || member x (horizon r)
    held_sets x =
        rw (working_state x, horizon_state x)
        (both
        (member x (held_servers r))
        (λ m.
        state_held x (held_servers r) (held_states r) same (sound_parts r so).stated m
        (λ q. rw (m, q))
        (λ q. rw (m, q)))
        (λ m. rw (m, state_absent x (held_servers r) (held_states r) m)))

    pub unknown_free : (x : ℕ) → state_of x r ≡ 0 → member x (held_servers r) ≡ false
    unknown_free x e = absent_state x (held_servers r) (held_states r) same (sound_parts r so).stated e

    -- a state is 0, working or standby
    pub state_cases : {C : Type 0} (x : ℕ) → (state_of x r ≡ 0 → C) → (state_of x r ≡ working → C) → (state_of x r ≡ standby → C) → C
    state_cases x a b c =
        both
        (member x (held_servers r))
        (λ m. state_held x (held_servers r) (held_states r) same (sound_parts r so).stated m b c)
        (λ m. a (state_absent x (held_servers r) (held_states r) m))

    pub sets_count : length (working_set r) + length (horizon r) ≡ r.held
    sets_count =
        in_state-count (held_servers r) (held_states r) same (sound_parts r so).stated ∙ held_servers_lem r z (sound_parts r so).few
