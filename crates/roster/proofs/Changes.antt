-- Each change of a sound roster: it is sound again, and the state of every server after it is known.
use Prim.Native.Nat.{ℕ, ◌+◌, ◌<◌, ◌≤◌}
use mathlib.Core.Bool.{true, false, cond}
use mathlib.Core.List.{List, [], ◌∷◌, ◌++◌}
use mathlib.Core.Logic.{◌≢◌}
use mathlib.Core.Path.{◌≡◌, refl, ◌∙◌}
use native.Mathlib.Numerals.{add-one}
use native.Mathlib.Omega.{arith}
use lib.Dec.{eqb}
use lib.ListN.{length, get_or, take, drop}
use lib.Seq.{drop-cons}
use borrow.Author.Tests.{lt-ltb}
use Rattle.sets.specs.Sets.{member}
use Rattle.sets.proofs.Cases.{both, clash}
use Rattle.spans.specs.Spans.{all_zero}
use Rattle.roster.specs.declared.Roster.{Roster}
use Rattle.lists.specs.Lists.{all_stated, before, put_in}
use Rattle.roster.specs.Roster.{working, standby, sound, held_servers, held_states, state_of, restated, with_state, added_working, removed_working, added_horizon}
use Rattle.lists.proofs.Scans.{before-le}
use Rattle.lists.proofs.Order.{rise_in}
use Rattle.roster.proofs.States.{absent_state, state_restated, state_in_lem}
use Rattle.lists.proofs.OfStates.{stated_in}
use Rattle.lists.proofs.Fronts.{held_put_in, rest-put_in, length-put_in}
use Rattle.roster.proofs.Held.{held_restated, rest-restated, length-restated, stated_restated}
use Rattle.roster.proofs.Form.{Sized, sound_parts, parts_sound, held_servers_lem, held_same}

-- a state set
module _ (s k : ℕ) (r : Roster) where
  restate_held : held_states (with_state s k r) ≡ restated s k (held_servers r) (held_states r)
  restate_held = held_restated s k r.held r.servers r.states

  restate_sized : Sized r → Sized (with_state s k r)
  restate_sized z = record { servers_64 = z.servers_64; states_64 = length-restated s k (held_servers r) r.states ∙ z.states_64 }

  restate_sound : all_stated (k ∷ []) ≡ true → sound r ≡ true → sound (with_state s k r) ≡ true
  restate_sound ok so =
      let p = sound_parts r so in
      parts_sound (with_state s k r)
      (record {
        few = p.few;
        rises = p.rises;
        stated = rw restate_held (stated_restated s k (held_servers r) (held_states r) ok p.stated);
        servers_zero = p.servers_zero;
        states_zero = rw (rest-restated s k r.held r.servers r.states) p.states_zero;
        settings_valid = p.settings_valid;
      })

  restate_state : (x : ℕ) → state_of s r ≢ 0 → state_of x (with_state s k r) ≡ cond (eqb x s) k (state_of x r)
  restate_state x n = rw restate_held (state_restated x s k (held_servers r) (held_states r) n)

-- add working
module _ (s : ℕ) (r : Roster) where
  pub added_working_sized : Sized r → Sized (added_working s r)
  added_working_sized z = restate_sized s 1 r z

  pub added_working-sound : sound r ≡ true → sound (added_working s r) ≡ true
  unfolding all_stated
  added_working-sound so = restate_sound s 1 r refl so

  pub added_working_state : state_of s r ≡ standby → (x : ℕ) → state_of x (added_working s r) ≡ cond (eqb x s) working (state_of x r)
  added_working_state e x = restate_state s 1 r x (λ q. omega (arith, e, q))

-- remove working
module _ (s : ℕ) (r : Roster) where
  pub removed_working_sized : Sized r → Sized (removed_working s r)
  removed_working_sized z = restate_sized s 2 r z

  pub removed_working-sound : sound r ≡ true → sound (removed_working s r) ≡ true
  unfolding all_stated
  removed_working-sound so = restate_sound s 2 r refl so

  pub removed_working_state : state_of s r ≡ working → (x : ℕ) → state_of x (removed_working s r) ≡ cond (eqb x s) standby (state_of x r)
  removed_working_state e x = restate_state s 2 r x (λ q. omega (arith, e, q))

all_zero_tail : (l : List ℕ) (n : ℕ) → n < length l → all_zero (drop n l) ≡ true → all_zero (drop (n + 1) l) ≡ true
unfolding all_zero
all_zero_tail l n h e =
    rw add-one
    (both (eqb (get_or l n 0) 0) (λ t. rw (drop-cons l n 0 h, t) at e) (λ t. clash (rw (drop-cons l n 0 h, t) at e) refl))

-- add horizon, with fewer than 64 held
module _ (s : ℕ) (r : Roster) (room : r.held < 64) where
  pub added_horizon-is : added_horizon s r
      ≡ record {
        servers = put_in (before s (held_servers r)) r.held s r.servers;
        states = put_in (before s (held_servers r)) r.held standby r.states;
        held = r.held + 1;
        settings = r.settings;
      }
  unfolding added_horizon
  added_horizon-is = rw (lt-ltb r.held 64 room)

  pub added_horizon_held : (added_horizon s r).held ≡ r.held + 1
  added_horizon_held = rw added_horizon-is

  pub added_horizon_settings : (added_horizon s r).settings ≡ r.settings
  added_horizon_settings = rw added_horizon-is

  module _ (z : Sized r) where
    within : before s (held_servers r) ≤ r.held
    within = omega (arith, before-le s (held_servers r), held_servers_lem r z (omega arith))

    pub added_horizon_sized : Sized (added_horizon s r)
    added_horizon_sized =
        rw added_horizon-is
        (record {
          servers_64 = length-put_in (before s (held_servers r)) r.held s r.servers within (omega (arith, z.servers_64)) ∙ z.servers_64;
          states_64 = length-put_in (before s (held_servers r)) r.held standby r.states within (omega (arith, z.states_64)) ∙ z.states_64;
        })

    pub added_horizon_servers : held_servers (added_horizon s r)
        ≡ take (before s (held_servers r)) (held_servers r) ++ (s ∷ drop (before s (held_servers r)) (held_servers r))
    added_horizon_servers =
        rw added_horizon-is (held_put_in (before s (held_servers r)) r.held s r.servers within (omega (arith, z.servers_64)))

    pub added_horizon_states : held_states (added_horizon s r)
        ≡ take (before s (held_servers r)) (held_states r) ++ (2 ∷ drop (before s (held_servers r)) (held_states r))
    added_horizon_states =
        rw added_horizon-is (held_put_in (before s (held_servers r)) r.held standby r.states within (omega (arith, z.states_64)))

    pub added_horizon_state : (x : ℕ) → state_of x (added_horizon s r) ≡ cond (eqb x s) standby (state_of x r)
    added_horizon_state x =
        rw (added_horizon_servers, added_horizon_states)
        (state_in_lem x s 2 (held_servers r) (held_states r) (held_same r z (omega arith)))

    pub added_horizon-sound : sound r ≡ true → s ≢ 0 → state_of s r ≡ 0 → sound (added_horizon s r) ≡ true
    unfolding all_stated
    added_horizon-sound so n e =
        let p = sound_parts r so in
        let b = before s (held_servers r) in
        let a : member s (held_servers r) ≡ false =
        absent_state s (held_servers r) (held_states r) (held_same r z (omega arith)) p.stated e in
        parts_sound (added_horizon s r)
        (record {
          few = rw added_horizon-is (omega arith);
          rises = rw added_horizon_servers (rise_in 0 s (held_servers r) p.rises (omega (arith, n)) a);
          stated = rw added_horizon_states (stated_in 2 b (held_states r) refl p.stated);
          servers_zero =
              rw (added_horizon-is, rest-put_in b r.held s r.servers within (omega (arith, z.servers_64)))
              (all_zero_tail r.servers r.held (omega (arith, z.servers_64)) p.servers_zero);
          states_zero =
              rw (added_horizon-is, rest-put_in b r.held standby r.states within (omega (arith, z.states_64)))
              (all_zero_tail r.states r.held (omega (arith, z.states_64)) p.states_zero);
          settings_valid = rw added_horizon-is p.settings_valid;
        })
