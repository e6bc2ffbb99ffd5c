-- What configure sets for the whole roster: the method and the row count. One definition of which settings
-- are valid serves refusal 1 (configure) and refusal 11 (roster).
use Rattle.std.specs.Prelude.{ℕ, Bool, true, false, cond, List, eqb, leb, get_or, drop}
use Rattle.bigendian.specs.BigEndian.{number2_at}
use Rattle.spans.specs.Spans.{all_zero}
use Rattle.settings.specs.declared.Settings.{Settings}

-- "three methods: 1 HRW, 2 ring, 3 row table"
abbrev pub by_hrw : ℕ
by_hrw = 1

abbrev pub by_ring : ℕ
by_ring = 2

abbrev pub by_row_table : ℕ
by_row_table = 3

-- the highest row count
abbrev pub most_rows : ℕ
most_rows = 4096

-- what stands in an event record behind its kind and the two zeros: "Bytes 3 to 15"
abbrev pub body_bytes : ℕ
body_bytes = 13

-- "Row count is 1 to 4,096 for method 3 and 0 for the others."
unfoldable pub valid : Settings → Bool
valid s =
    cond (eqb s.method by_row_table)
    (cond (leb 1 s.rows) (leb s.rows most_rows) false)
    (cond (eqb s.rows 0) (cond (eqb s.method by_hrw) true (eqb s.method by_ring)) false)

-- "Starting .. selects method 1"; its row count is 0
abbrev pub fresh : Settings
fresh = record { method = by_hrw; rows = 0 }

-- the settings that configure's bytes 3 to 15 name: "method 1, row count 2 big-endian, then zeros"
abbrev pub named : List ℕ → Settings
named body = record { method = get_or body 0 0; rows = number2_at body 1 }

-- refusal 1 for configure, turned round: no non-zero filler, no bad method or row count
unfoldable pub well_formed : List ℕ → Bool
well_formed body = cond (all_zero (drop 3 body)) (valid (named body)) false
