-- Document 01, "Hashes": which server outranks which, for each of the three methods.
use Rattle.std.specs.Prelude.{ℕ, Bool, cond, List, eqb, ltb}
use Rattle.hash.specs.Hash.{weight, position, distance}
use Rattle.ranking.specs.Ranking.{Ranking, choice, unsafe}

-- "a higher weight outranks. Equal weights occur between S and S + 2^31 and then the higher number outranks": weight and number of a, then of b
abbrev pub heavier : ℕ → ℕ → ℕ → ℕ → Bool
heavier wa a wb b = cond (eqb wa wb) (ltb b a) (ltb wb wa)

-- "The smaller distance outranks, distance 0 included. At equal positions the higher number outranks.": distance and number of a, then of b
abbrev pub nearer : ℕ → ℕ → ℕ → ℕ → Bool
nearer da a db b = cond (eqb da db) (ltb b a) (ltb da db)

abbrev pub by_weight : (ℕ → ℕ) → Ranking
by_weight w a b = heavier (w a) a (w b) b

abbrev pub by_distance : (ℕ → ℕ) → Ranking
by_distance d a b = nearer (d a) a (d b) b

-- HRW at a digest
abbrev pub hrw : ℕ → Ranking
hrw d = by_weight (λ s. weight s d)

-- "Servers are ranked in row r as HRW does with D = r."
abbrev pub in_row : ℕ → Ranking
in_row r = hrw r

-- the ring, for a key's point
abbrev pub ring : ℕ → Ranking
ring p = by_distance (λ s. distance (position s) p)

-- "Row r holds the choice over the working set; its flag is 1 when some horizon server outranks it, else 0"; "With no working server all rows in use are 0 with flag 0."
abbrev pub row_server : List ℕ → ℕ → ℕ
row_server working r = choice (in_row r) working

abbrev pub row_flag : List ℕ → List ℕ → ℕ → ℕ
row_flag working horizon r = cond (unsafe (in_row r) working horizon) 1 0
