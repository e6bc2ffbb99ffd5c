-- What a packet reads from filled rows is what its row's ranking picks over the sets that they were filled for, whatever they held before;
-- rows past the count stay.
use Prim.Native.Nat.{ℕ, ◌%◌, ◌<◌, ◌≤◌}
use mathlib.Core.Bool.{Bool, true, false, cond, not}
use mathlib.Core.List.{List, [], ◌∷◌, ◌++◌}
use mathlib.Core.Path.{◌≡◌, ap}
use native.Mathlib.Omega.{arith}
use native.Mathlib.Nat.{mod-lt}
use lib.Dec.{eqb}
use lib.ListN.{length, get_or, drop, replicate}
use borrow.Author.Tests.{ne_eqb}
use Rattle.ranking.specs.declared.Pick.{Pick}
use Rattle.ranking.specs.Ranking.{unsafe, pick_of, picked}
use Rattle.ranking.specs.Methods.{in_row}
use Rattle.rows.specs.Rows.{Rows, in_use, filled, row_at, row_read}
use Rattle.rows.proofs.Filling.{both_are}
use Rattle.rows.proofs.Written.{written-length, written_at, written-rest, written_over, written_zeros, past}

-- a flag byte, read back
flag_back : (u : Bool) {x : ℕ} → x ≡ cond u 1 0 → not (eqb x 0) ≡ u
flag_back true e = rw e
flag_back false e = rw e

pick_is : {s t : ℕ} {f g : Bool} → s ≡ t → f ≡ g → pick_of s f ≡ pick_of t g
pick_is p q = cc

-- of what the rows held before, only the number in use and those past it count
filled_over : (count : ℕ) (working horizon : List ℕ) (a b : Rows) → in_use count a ≡ in_use count b
    → drop (in_use count b) a.servers ≡ drop (in_use count b) b.servers → drop (in_use count b) a.flags ≡ drop (in_use count b) b.flags
    → filled count working horizon a ≡ filled count working horizon b
unfolding filled
filled_over count working horizon a b e p q =
    both_are
    (written_over _ (in_use count a) (in_use count b) a.servers b.servers e p)
    (written_over _ (in_use count a) (in_use count b) a.flags b.flags e q)

module _ (count : ℕ) (working horizon : List ℕ) (rows : Rows) where
  -- both lists keep their lengths
  pub filled_lengths : (length (filled count working horizon rows).servers ≡ length rows.servers)
      × (length (filled count working horizon rows).flags ≡ length rows.flags)
  unfolding filled
  filled_lengths = (
    written-length _ (in_use count rows) rows.servers (omega arith),
    written-length _ (in_use count rows) rows.flags (omega arith),
  )

  filled-in_use : in_use count (filled count working horizon rows) ≡ in_use count rows
  filled-in_use = rw (filled_lengths.0, filled_lengths.1)

  -- a row in use holds the choice over the working servers and whether it is unsafe; where none works, 0 and no flag
  pub row-filled : (r : ℕ) → r < in_use count rows → row_at r (filled count working horizon rows) ≡ picked (in_row r) working horizon
  unfolding filled
  row-filled r h =
      pick_is
      (written_at _ (in_use count rows) rows.servers r h)
      (flag_back (unsafe (in_row r) working horizon) (written_at _ (in_use count rows) rows.flags r h))

  -- so a packet, whose row is F(key) modulo the number of rows, gets what that row's ranking picks
  pub read_filled : (f : ℕ) → 1 ≤ count → count ≤ length rows.servers → count ≤ length rows.flags
      → row_read count f (filled count working horizon rows) ≡ picked (in_row (f % count)) working horizon
  unfolding row_read
  read_filled f h a b =
      rw
      (ne_eqb count 0 (λ e. omega arith))
      (row-filled (f % count) (omega (arith, mod-lt f h)))

  -- rows past those in use stay: as lists, and one by one
  pub filled-rest : (drop (in_use count rows) (filled count working horizon rows).servers ≡ drop (in_use count rows) rows.servers)
      × (drop (in_use count rows) (filled count working horizon rows).flags ≡ drop (in_use count rows) rows.flags)
  unfolding filled
  filled-rest = (
    written-rest _ (in_use count rows) rows.servers,
    written-rest _ (in_use count rows) rows.flags,
  )

  pub filled_past : (i : ℕ) → in_use count rows ≤ i
      → (get_or (filled count working horizon rows).servers i 0 ≡ get_or rows.servers i 0)
      × (get_or (filled count working horizon rows).flags i 0 ≡ get_or rows.flags i 0)
  filled_past i h = (
    past (in_use count rows) i (filled count working horizon rows).servers rows.servers h filled-rest.0,
    past (in_use count rows) i (filled count working horizon rows).flags rows.flags h filled-rest.1,
  )

  -- "Rows past the count are never touched"
  pub filled_uncounted : (i : ℕ) → count ≤ i
      → (get_or (filled count working horizon rows).servers i 0 ≡ get_or rows.servers i 0)
      × (get_or (filled count working horizon rows).flags i 0 ≡ get_or rows.flags i 0)
  filled_uncounted i h = filled_past i (omega arith)

  -- "no matter what they held before": a second fill leaves nothing of the first
  pub filled_again : (working' horizon' : List ℕ)
      → filled count working' horizon' (filled count working horizon rows) ≡ filled count working' horizon' rows
  filled_again working' horizon' =
      filled_over
      count
      working'
      horizon'
      (filled count working horizon rows)
      rows
      filled-in_use
      filled-rest.0
      filled-rest.1

-- "With no working server all rows in use are 0 with flag 0"
pub filled_none : (count : ℕ) (horizon : List ℕ) (rows : Rows)
    → filled count [] horizon rows
    ≡ record {
      servers = replicate (in_use count rows) 0 ++ drop (in_use count rows) rows.servers;
      flags = replicate (in_use count rows) 0 ++ drop (in_use count rows) rows.flags;
    }
unfolding filled
filled_none count horizon rows =
    rw (written_zeros (in_use count rows) rows.servers, written_zeros (in_use count rows) rows.flags)

-- after the last working server has gone, the next one fills every row in use, none of which is flagged then
pub next_everywhere : (count s : ℕ) (horizon horizon' : List ℕ) (rows : Rows) (r : ℕ) → r < in_use count rows
    → (row_at r (filled count (s ∷ []) horizon' (filled count [] horizon rows))).server ≡ s
next_everywhere count s horizon horizon' rows r h =
    rw
    (filled_again count [] horizon rows (s ∷ []) horizon')
    (ap (λ (p : Pick). p.server) (row-filled count (s ∷ []) horizon' rows r h))
