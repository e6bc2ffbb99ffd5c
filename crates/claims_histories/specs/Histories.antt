-- Histories: any sequence of event records from an accepted start, with buffers and roster that only the balancer alters.
use Rattle.std.specs.Prelude.{ℕ, Bool, true, false, cond, ◌||◌, List, [], ◌∷◌, ◌≡◌, eqb, length}
use Rattle.hash.specs.Hash.{F, digest, row, point}
use Rattle.spans.specs.Spans.{same}
use Rattle.ranking.specs.Ranking.{Ranking}
use Rattle.ranking.specs.Methods.{hrw, in_row, ring as ring-at}
use Rattle.settings.specs.declared.Settings.{Settings}
use Rattle.settings.specs.Settings.{by_ring, by_row_table}
use Rattle.roster.specs.declared.Roster.{Roster}
use Rattle.roster.specs.Roster.{sound, state_of, working, held_servers, working_set}
use Rattle.event.specs.Event.{all_bytes}
use Rattle.table.specs.Table.{Rec, entries, no_stray}
use Rattle.ringplan.specs.Plan.{drawn}
use Rattle.rules.specs.Answer.{Answer}
use Rattle.rules.specs.Rules.{World, rows_of, refilled, sized_for, start_of, event_of}

-- what `start` leaves of any former world, and whether it was accepted
abbrev pub begins : World → World
begins w = (start_of w).world

abbrev pub start_accepted : World → Bool
start_accepted w = (start_of w).answer.accepted

-- the world after a history of event records, the newest first, and the answer to the next record
unfoldable pub after : World → List (List ℕ) → World
after w [] = begins w
after w (bytes ∷ h) = (event_of bytes (after w h)).world

abbrev pub answer : World → List (List ℕ) → List ℕ → Answer
answer w h bytes = (event_of bytes (after w h)).answer

-- the only hypothesis on a history: its numbers are bytes
abbrev pub AllBytes : List (List ℕ) → Type 0
AllBytes [] = Unit {0}
AllBytes (bytes ∷ h) = (all_bytes bytes ≡ true) × AllBytes h

-- the ranking of the method in force for a key, written out from the hashes
abbrev pub ranking_for : Settings → List ℕ → Ranking
ranking_for c key =
    cond (eqb c.method by_row_table) (in_row (row key c.rows))
    (cond (eqb c.method by_ring) (ring-at (point key))
    (hrw (digest (F key))))

-- some record has a key; no key is recorded twice
abbrev pub recorded : List ℕ → List Rec → Bool
recorded key [] = false
recorded key (r ∷ rs) = same r.key key || recorded key rs

abbrev pub Distinct : List Rec → Type 0
Distinct [] = Unit {0}
Distinct (r ∷ rs) = (recorded r.key rs ≡ false) × Distinct rs

-- every record names a working server
abbrev pub AllWorking : Roster → List Rec → Type 0
AllWorking r [] = Unit {0}
AllWorking r (e ∷ es) = (state_of e.server r ≡ working) × AllWorking r es

-- what holds along every history
pub record Along (w : World) : Type 0 where
  -- refusals 9 and 11 don't occur
  pub sized : sized_for (length w.ring) w.state ≡ true
  pub roster_sound : sound w.state.roster ≡ true
  -- "no key is recorded twice and every record names a working mover"
  pub distinct : Distinct (entries w.state.table)
  pub named : AllWorking w.state.roster (entries w.state.table)
  -- no used tag stands behind the used part
  pub clean : no_stray w.state.table ≡ true
  -- "ring and rows then equal the definition over the sets": filled or drawn anew they stay the same
  pub rows_right : refilled w.state.roster (rows_of w.state) ≡ rows_of w.state
  pub ring_right : eqb w.state.roster.settings.method by_ring ≡ true
      → drawn (held_servers w.state.roster) (working_set w.state.roster) w.ring ≡ w.ring
