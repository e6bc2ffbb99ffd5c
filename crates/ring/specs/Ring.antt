-- Document 01, "Rows and ring": "The ring is a list of 64 places whose entries each hold a position, a server and a track flag": how a
-- lent ring is read, and its first entries written. What the entries have to be is in the crate `ringplan`.
use Rattle.std.specs.Prelude.{ℕ, cond, not, List, [], ◌∷◌, ◌++◌, eqb, leb, length, get_or, take, drop}
use Rattle.ranking.specs.declared.Pick.{Pick}
use Rattle.ranking.specs.Ranking.{pick_of}
use Rattle.ring.specs.declared.Entry.{Entry}

-- "a list of 64 places"
abbrev pub ring_places : ℕ
ring_places = 64

-- what stands past the end of a ring
abbrev pub blank : Entry
blank = record { position = 0; server = 0; track = 0 }

-- "A key reads the first entry in use whose position is not below its point, else the first entry."
unfoldable pub first_from : ℕ → List Entry → Entry → Entry
first_from point [] otherwise = otherwise
first_from point (e ∷ l) otherwise = cond (leb point e.position) e (first_from point l otherwise)

unfoldable pub entry_read : ℕ → ℕ → List Entry → Entry
entry_read places point es = first_from point (take places es) (get_or es 0 blank)

-- what an entry gives a packet: "A flag byte other than 0 counts as set."
abbrev pub gives : Entry → Pick
gives e = pick_of e.server (not (eqb e.track 0))

-- the first entries of a ring written from a plan of 64, "the rest stay as they are"; more than the plan or the ring has are not written at all
unfoldable pub overlaid : List Entry → ℕ → List Entry → List Entry
overlaid plan places es =
    cond (leb places ring_places) (cond (leb places (length es)) (take places plan ++ drop places es) es) es
