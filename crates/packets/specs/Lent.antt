-- What a packet sees of a roster.
use Rattle.std.specs.Prelude.{true, List, ◌≡◌, ℕ}
use Rattle.roster.specs.declared.Roster.{Roster}
use Rattle.roster.specs.Roster.{held_servers, held_states}
use Rattle.roster.specs.Roster.{sound as sound_of}
use Rattle.event.specs.Event.{asks_key}
use Rattle.table.specs.declared.Found.{Found}
use Rattle.table.specs.Table.{finding_of}
use Rattle.ring.specs.declared.Entry.{Entry}
use Rattle.rules.specs.Rules.{State, Change, lent_bar, admitted, judged, pick_by}

-- a roster in its stated form, whose servers held (ss) and their states (xs) are lent as two lists
pub record Lent (r : Roster) (ss xs : List ℕ) : Type 0 where
  pub sound : sound_of r ≡ true
  pub servers : held_servers r ≡ ss
  pub states : held_states r ≡ xs

-- a packet of a key, with what was found for it, F of the key and the ring's entry read: on a sound roster, and on any
abbrev pub led_of : List ℕ → Found → ℕ → Entry → State → Change
led_of key found f spot st = judged (asks_key 1 key) (finding_of found) (pick_by f spot st) st

abbrev pub packet_of : List ℕ → Found → ℕ → Entry → State → Change
packet_of key found f spot st =
    judged (admitted (lent_bar true (sound_of st.roster)) (asks_key 1 key)) (finding_of found) (pick_by f spot st) st
