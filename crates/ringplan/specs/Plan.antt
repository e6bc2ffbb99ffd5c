-- Document 01, "Rows and ring": which entries a ring has to hold for the servers held and the working set.
use Rattle.std.specs.Prelude.{ℕ, ◌-◌, Bool, true, false, cond, List, [], ◌∷◌, ◌++◌, map, leb, length, drop, replicate}
use Rattle.hash.specs.Hash.{position}
use Rattle.sets.specs.Sets.{member}
use Rattle.ranking.specs.Ranking.{Ranking, choice}
use Rattle.ranking.specs.Methods.{by_distance, ring}
use Rattle.ring.specs.declared.Entry.{Entry}
use Rattle.ring.specs.Ring.{blank, ring_places}

-- "in order of position, then falling server number": the first stands before the second
abbrev pub stands_before : Ranking
stands_before = by_distance position

-- a server put among others: of it and their first, the one that stands before goes in front, and the other among the rest
unfoldable pub placed : ℕ → List ℕ → List ℕ
placed s [] = s ∷ []
placed s (x ∷ l) = cond (stands_before x s) (x ∷ placed s l) (s ∷ placed x l)

unfoldable pub arranged : List ℕ → List ℕ
arranged [] = []
arranged (s ∷ l) = placed s (arranged l)

-- some server works
abbrev pub some : List ℕ → Bool
some [] = false
some (s ∷ l) = true

-- the entry that a server owns: its own where it works. "A horizon server's entry names instead the working set's choice for a point at
-- its position and is flagged; with no working server every entry names 0, unflagged."
abbrev pub entry_of : List ℕ → ℕ → Entry
entry_of working s =
    record {
      position = position s;
      server = cond (member s working) s (choice (ring (position s)) working);
      track = cond (member s working) 0 (cond (some working) 1 0);
    }

-- the entries for the servers held: "The order goes by the server that owns the entry."
unfoldable pub entries : List ℕ → List ℕ → List Entry
entries held working = map (entry_of working) (arranged held)

-- "Entries in use equal the roster's size; the rest stay as they are."
unfoldable pub drawn : List ℕ → List ℕ → List Entry → List Entry
drawn held working old = entries held working ++ drop (length held) old

-- the entries laid out in a plan of 64 places, blank behind them; a plan for more servers is blank
unfoldable pub planned : List ℕ → List ℕ → List Entry
planned held working =
    cond (leb (length held) ring_places) (entries held working ++ replicate (ring_places - length held) blank) (replicate ring_places blank)
