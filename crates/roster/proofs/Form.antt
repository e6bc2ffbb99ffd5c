-- A sound roster by its parts, and its lists' lengths; a fresh roster, and one with other valid settings, are sound.
use Prim.Native.Nat.{ℕ, ◌≤◌}
use mathlib.Core.Bool.{Bool, true, false, cond}
use mathlib.Core.Path.{◌≡◌, refl, sym, ◌∙◌}
use native.Mathlib.Omega.{arith}
use lib.Dec.{leb}
use lib.ListN.{length, drop}
use lib.Seq.{length-take-le}
use borrow.Author.Tests.{leb-true, le-leb}
use Rattle.sets.proofs.Cases.{both, clash}
use Rattle.spans.specs.Spans.{all_zero}
use Rattle.settings.specs.declared.Settings.{Settings}
use Rattle.settings.specs.Settings.{valid}
use Rattle.roster.specs.declared.Roster.{Roster}
use Rattle.lists.specs.Lists.{rising, all_stated}
use Rattle.roster.specs.Roster.{sound, held_servers, held_states, state_in, state_of, empty_roster}

-- 64 places, as every roster in code has
pub record Sized (r : Roster) : Type 0 where
  pub servers_64 : length r.servers ≡ 64
  pub states_64 : length r.states ≡ 64

pub record SoundParts (r : Roster) : Type 0 where
  pub few : r.held ≤ 64
  pub rises : rising 0 (held_servers r) ≡ true
  pub stated : all_stated (held_states r) ≡ true
  pub servers_zero : all_zero (drop r.held r.servers) ≡ true
  pub states_zero : all_zero (drop r.held r.states) ≡ true
  pub settings_valid : valid r.settings ≡ true

-- a chain of tests that holds: each of them holds
record Every (a b c d e f : Bool) : Type 0 where
  pub first : a ≡ true
  pub second : b ≡ true
  pub third : c ≡ true
  pub fourth : d ≡ true
  pub fifth : e ≡ true
  pub sixth : f ≡ true

every : (a b c d e f : Bool) → cond a (cond b (cond c (cond d (cond e f false) false) false) false) false ≡ true → Every a b c d e f
every true true true true true f g = record { first = refl; second = refl; third = refl; fourth = refl; fifth = refl; sixth = g }
every true true true true false f g = clash g refl
every true true true false e f g = clash g refl
every true true false d e f g = clash g refl
every true false c d e f g = clash g refl
every false b c d e f g = clash g refl

pub sound_parts : (r : Roster) → sound r ≡ true → SoundParts r
unfolding sound
sound_parts r so =
    let a =
    every
    (leb r.held 64)
    (rising 0 (held_servers r))
    (all_stated (held_states r))
    (all_zero (drop r.held r.servers))
    (all_zero (drop r.held r.states))
    (valid r.settings)
    so in
    record {
      few = leb-true r.held 64 a.first;
      rises = a.second;
      stated = a.third;
      servers_zero = a.fourth;
      states_zero = a.fifth;
      settings_valid = a.sixth;
    }

pub parts_sound : (r : Roster) → SoundParts r → sound r ≡ true
unfolding sound
parts_sound r p = rw (le-leb r.held 64 p.few, p.rises, p.stated, p.servers_zero, p.states_zero) p.settings_valid

-- no roster in code holds more than its lists have places, unless it claims more than 64
pub sound_fits : (r : Roster) → Sized r → (v : Bool)
    → v ≡ cond (leb r.held (length r.servers)) (cond (leb r.held (length r.states)) (sound r) false) false → v ≡ sound r
unfolding sound
sound_fits r z v e =
    (rw (z.servers_64, z.states_64) at e)
    ∙ both (leb r.held 64) (λ t. rw t) (λ t. rw t)

module _ (r : Roster) (z : Sized r) (few : r.held ≤ 64) where
  pub held_servers_lem : length (held_servers r) ≡ r.held
  held_servers_lem = length-take-le r.held r.servers (omega (arith, z.servers_64))

  pub held_states_lem : length (held_states r) ≡ r.held
  held_states_lem = length-take-le r.held r.states (omega (arith, z.states_64))

  pub held_same : length (held_servers r) ≡ length (held_states r)
  held_same = held_servers_lem ∙ sym held_states_lem

-- a fresh start
pub empty_sized : Sized empty_roster
empty_sized = record { servers_64 = refl; states_64 = refl }

pub empty-sound : sound empty_roster ≡ true
unfolding sound rising all_stated all_zero valid
empty-sound = refl

-- "Starting .. empties the roster": every server is unknown
pub empty_unknown : (x : ℕ) → state_of x empty_roster ≡ 0
unfolding state_in
empty_unknown x = refl

-- configure: the same servers under other settings
abbrev pub with_settings : Settings → Roster → Roster
with_settings t r = record { servers = r.servers; states = r.states; held = r.held; settings = t }

pub settings_sized : (t : Settings) (r : Roster) → Sized r → Sized (with_settings t r)
settings_sized t r z = record { servers_64 = z.servers_64; states_64 = z.states_64 }

pub settings_sound : (t : Settings) (r : Roster) → valid t ≡ true → sound r ≡ true → sound (with_settings t r) ≡ true
settings_sound t r v so =
    let p = sound_parts r so in
    parts_sound (with_settings t r)
    (record {
      few = p.few;
      rises = p.rises;
      stated = p.stated;
      servers_zero = p.servers_zero;
      states_zero = p.states_zero;
      settings_valid = v;
    })
