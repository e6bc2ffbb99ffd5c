-- Document 01, "Rows and ring": the rows are a lent list of numbers with flag bytes beside it.
use Rattle.std.specs.Prelude.{ℕ, zero, suc, ◌%◌, min, false, cond, not, List, [], ◌∷◌, ◌++◌, eqb, length, get_or, drop, replicate}
use Rattle.ranking.specs.declared.Pick.{Pick}
use Rattle.ranking.specs.Ranking.{pick_of}
use Rattle.ranking.specs.Methods.{row_server, row_flag}

-- "a lent list of 4,096 32-bit numbers with 4,096 flag bytes beside it"
abbrev pub row_places : ℕ
row_places = 4096

-- rows and flags together
pub record Rows : Type 0 where
  pub servers : List ℕ
  pub flags : List ℕ

-- f at 0, 1, .. up to, not including, n
unfoldable pub up_to : (ℕ → ℕ) → ℕ → List ℕ
up_to f zero = []
up_to f (suc n) = up_to f n ++ (f n ∷ [])

-- the first n of a list written anew, "no matter what they held before"; those past n stay
unfoldable pub written : (ℕ → ℕ) → ℕ → List ℕ → List ℕ
written f n l = up_to f n ++ drop n l

-- the rows in use: as many as are counted, where both lists have them
abbrev pub in_use : ℕ → Rows → ℕ
in_use count rows = min count (min (length rows.servers) (length rows.flags))

-- "Row r holds the choice over the working set; its flag is 1 when some horizon server outranks it, else 0"; "With no working server all
-- rows in use are 0 with flag 0. Rows past the count are never touched"
unfoldable pub filled : ℕ → List ℕ → List ℕ → Rows → Rows
filled count working horizon rows =
    record {
      servers = written (row_server working) (in_use count rows) rows.servers;
      flags = written (row_flag working horizon) (in_use count rows) rows.flags;
    }

-- "zeroes the rows it counts and their flags"
unfoldable pub cleared : ℕ → Rows → Rows
cleared count rows =
    record {
      servers = replicate (in_use count rows) 0 ++ drop (in_use count rows) rows.servers;
      flags = replicate (in_use count rows) 0 ++ drop (in_use count rows) rows.flags;
    }

-- a row as a packet reads it: "A flag byte other than 0 counts as set."
abbrev pub row_at : ℕ → Rows → Pick
row_at r rows = pick_of (get_or rows.servers r 0) (not (eqb (get_or rows.flags r 0) 0))

-- "the row is F(key) modulo the number of rows": f is F(key); with no rows nothing is read
unfoldable pub row_read : ℕ → ℕ → Rows → Pick
row_read count f rows = cond (eqb count 0) (pick_of 0 false) (row_at (f % count) rows)
