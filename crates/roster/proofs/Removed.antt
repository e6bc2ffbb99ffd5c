-- A server of the horizon taken off a sound roster: the roster is sound again, and the state of every server after it is known.
use Prim.Native.Nat.{ℕ, suc, ◌-◌, ◌<◌, ◌≤◌}
use mathlib.Core.Bool.{true, cond}
use mathlib.Core.List.{List, ◌∷◌, ◌++◌}
use mathlib.Core.Path.{◌≡◌, ◌∙◌}
use native.Mathlib.Omega.{arith}
use lib.Dec.{eqb, ltb}
use lib.ListN.{length, take, drop}
use borrow.Author.Tests.{lt-ltb, ltb-true, ltb-false}
use Rattle.sets.proofs.Cases.{both}
use Rattle.spans.specs.Spans.{all_zero}
use Rattle.roster.specs.declared.Roster.{Roster}
use Rattle.lists.specs.Lists.{taken_out}
use Rattle.roster.specs.Roster.{standby, sound, held_servers, held_states, state_of, place_of, removed_horizon}
use Rattle.roster.proofs.Places.{state_none}
use Rattle.lists.proofs.Order.{rise_out}
use Rattle.roster.proofs.States.{state_out}
use Rattle.lists.proofs.OfStates.{stated_out}
use Rattle.lists.proofs.Fronts.{held_taken_out, rest-taken_out, length-taken_out}
use Rattle.roster.proofs.Form.{Sized, sound_parts, parts_sound, held_servers_lem, held_same}

zero_more : (l : List ℕ) → all_zero l ≡ true → all_zero (0 ∷ l) ≡ true
unfolding all_zero
zero_more l e = e

module _ (s : ℕ) (r : Roster) (z : Sized r) (so : sound r ≡ true) (e : state_of s r ≡ standby) where
  few : r.held ≤ 64
  few = (sound_parts r so).few

  stands : place_of s r < length (held_servers r)
  stands =
      both
      (ltb (place_of s r) (length (held_servers r)))
      (λ t. ltb-true (place_of s r) (length (held_servers r)) t)
      (λ t.
      let h : length (held_servers r) ≤ place_of s r = ltb-false (place_of s r) (length (held_servers r)) t in
      let q : state_of s r ≡ 0 = state_none s (held_servers r) (held_states r) h in
      absurd (omega (arith, e, q)))

  found : place_of s r < r.held
  found = omega (arith, stands, held_servers_lem r z few)

  pub removed_horizon-is : removed_horizon s r
      ≡ record {
        servers = taken_out (place_of s r) r.held r.servers;
        states = taken_out (place_of s r) r.held r.states;
        held = r.held - 1;
        settings = r.settings;
      }
  unfolding removed_horizon
  removed_horizon-is = rw (lt-ltb (place_of s r) (length (held_servers r)) stands)

  pub removed_horizon_held : (removed_horizon s r).held ≡ r.held - 1
  removed_horizon_held = rw removed_horizon-is

  pub removed_horizon_settings : (removed_horizon s r).settings ≡ r.settings
  removed_horizon_settings = rw removed_horizon-is

  pub removed_horizon_sized : Sized (removed_horizon s r)
  removed_horizon_sized =
      rw removed_horizon-is
      (record {
        servers_64 = length-taken_out (place_of s r) r.held r.servers found (omega (arith, few, z.servers_64)) ∙ z.servers_64;
        states_64 = length-taken_out (place_of s r) r.held r.states found (omega (arith, few, z.states_64)) ∙ z.states_64;
      })

  pub removed_horizon_servers : held_servers (removed_horizon s r)
      ≡ take (place_of s r) (held_servers r) ++ drop (suc (place_of s r)) (held_servers r)
  removed_horizon_servers =
      rw removed_horizon-is (held_taken_out (place_of s r) r.held r.servers found (omega (arith, few, z.servers_64)))

  pub removed_horizon_states : held_states (removed_horizon s r)
      ≡ take (place_of s r) (held_states r) ++ drop (suc (place_of s r)) (held_states r)
  removed_horizon_states =
      rw removed_horizon-is (held_taken_out (place_of s r) r.held r.states found (omega (arith, few, z.states_64)))

  pub removed_horizon_state : (x : ℕ) → state_of x (removed_horizon s r) ≡ cond (eqb x s) 0 (state_of x r)
  removed_horizon_state x =
      rw (removed_horizon_servers, removed_horizon_states)
      (state_out 0 x s (held_servers r) (held_states r) (sound_parts r so).rises (held_same r z few))

  pub removed_horizon-sound : sound (removed_horizon s r) ≡ true
  removed_horizon-sound =
      let p = sound_parts r so in
      let q = place_of s r in
      parts_sound (removed_horizon s r)
      (record {
        few = rw removed_horizon-is (omega (arith, few));
        rises = rw removed_horizon_servers (rise_out 0 q (held_servers r) p.rises);
        stated = rw removed_horizon_states (stated_out q (held_states r) p.stated);
        servers_zero =
            rw (removed_horizon-is, rest-taken_out q r.held r.servers found (omega (arith, few, z.servers_64)))
            (zero_more (drop r.held r.servers) p.servers_zero);
        states_zero =
            rw (removed_horizon-is, rest-taken_out q r.held r.states found (omega (arith, few, z.states_64)))
            (zero_more (drop r.held r.states) p.states_zero);
        settings_valid = rw removed_horizon-is p.settings_valid;
      })
