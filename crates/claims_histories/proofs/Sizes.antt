-- What the test behind refusal 11 tells of the settings: how many rows method 3 counts.
use Prim.Native.Nat.{ℕ, ◌≤◌}
use mathlib.Core.Bool.{true}
use mathlib.Core.Path.{◌≡◌}
use lib.Dec.{eqb, leb}
use borrow.Author.Tests.{leb-true}
use Rattle.settings.specs.declared.Settings.{Settings}
use Rattle.settings.specs.Settings.{valid}
use Rattle.rules.proofs.Sizes.{and_first, and_second}

-- method 3 counts 1 to 4096 rows
pub record Counted (rows : ℕ) : Type 0 where
  pub some : 1 ≤ rows
  pub few : rows ≤ 4096

pub rows_counted : (c : Settings) → valid c ≡ true → eqb c.method 3 ≡ true → Counted c.rows
unfolding valid
rows_counted c v t =
    let e = rw t at v in
    record {
      some = leb-true 1 c.rows (and_first (leb 1 c.rows) _ e);
      few = leb-true c.rows 4096 (and_second (leb 1 c.rows) _ e);
    }
