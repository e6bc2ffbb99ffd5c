-- Document 01, "The movers at the door": the roster, by value. It has 64 places; the first `held` of them are in use.
use Rattle.std.specs.Prelude.{ℕ, ◌+◌, ◌-◌, Bool, false, cond, List, [], ◌∷◌, eqb, leb, ltb, length, take, drop, replicate}
use Rattle.sets.specs.Sets.{in_state}
use Rattle.spans.specs.Spans.{all_zero}
use Rattle.lists.specs.Lists.{rising, all_stated, before, put_in, place_in, taken_out}
use Rattle.settings.specs.Settings.{valid, fresh}
use Rattle.roster.specs.declared.Roster.{Roster}
-- the two states of a held server and the most servers held, passed on
pub use Rattle.sets.specs.Sets.{working, standby, most_servers}

-- the servers held, and their states
abbrev pub held_servers : Roster → List ℕ
held_servers r = take r.held r.servers

abbrev pub held_states : Roster → List ℕ
held_states r = take r.held r.states

-- refusal 11, turned round: "more than 64, out of order, server 0 or twice, a used unused place, bad method or row count"
unfoldable pub sound : Roster → Bool
sound r =
    cond (leb r.held most_servers)
    (cond (rising 0 (held_servers r))
    (cond (all_stated (held_states r))
    (cond (all_zero (drop r.held r.servers))
    (cond (all_zero (drop r.held r.states))
    (valid r.settings) false) false) false) false) false

-- the working set and the horizon, in rising order
abbrev pub working_set : Roster → List ℕ
working_set r = in_state working (held_servers r) (held_states r)

abbrev pub horizon : Roster → List ℕ
horizon r = in_state standby (held_servers r) (held_states r)

-- the state of a server: 0 where it is unknown
unfoldable pub state_in : ℕ → List ℕ → List ℕ → ℕ
state_in s [] xs = 0
state_in s (y ∷ ys) [] = 0
state_in s (y ∷ ys) (x ∷ xs) = cond (eqb y s) x (state_in s ys xs)

abbrev pub state_of : ℕ → Roster → ℕ
state_of s r = state_in s (held_servers r) (held_states r)

-- the states, with a held server's state set to k
unfoldable pub restated : ℕ → ℕ → List ℕ → List ℕ → List ℕ
restated s k [] xs = xs
restated s k (y ∷ ys) [] = []
restated s k (y ∷ ys) (x ∷ xs) = cond (eqb y s) (k ∷ xs) (x ∷ restated s k ys xs)

abbrev pub with_state : ℕ → ℕ → Roster → Roster
with_state s k r =
    record { servers = r.servers; states = restated s k (held_servers r) r.states; held = r.held; settings = r.settings }

-- add working: from the horizon into work. Remove working: "A server leaving work goes straight to the horizon."
abbrev pub added_working : ℕ → Roster → Roster
added_working s r = with_state s working r

abbrev pub removed_working : ℕ → Roster → Roster
removed_working s r = with_state s standby r

-- add horizon: a new server, in its rising place, where fewer than the most are held; else the roster stays as it is
unfoldable pub added_horizon : ℕ → Roster → Roster
added_horizon s r =
    cond (ltb r.held most_servers)
    (record {
      servers = put_in (before s (held_servers r)) r.held s r.servers;
      states = put_in (before s (held_servers r)) r.held standby r.states;
      held = r.held + 1;
      settings = r.settings;
    })
    r

-- the place of a server among those held
abbrev pub place_of : ℕ → Roster → ℕ
place_of s r = place_in s (held_servers r)

-- remove horizon: the server taken out; a roster that doesn't hold it stays as it is
unfoldable pub removed_horizon : ℕ → Roster → Roster
removed_horizon s r =
    cond (ltb (place_of s r) (length (held_servers r)))
    (record {
      servers = taken_out (place_of s r) r.held r.servers;
      states = taken_out (place_of s r) r.held r.states;
      held = r.held - 1;
      settings = r.settings;
    })
    r

-- "Starting .. empties the roster and selects method 1."
abbrev pub empty_roster : Roster
empty_roster = record { servers = replicate most_servers 0; states = replicate most_servers 0; held = 0; settings = fresh }
