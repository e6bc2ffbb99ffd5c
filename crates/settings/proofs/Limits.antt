-- Both sides of each limit of the settings, as one table, and the settings of a fresh start: in plain numbers.
use Prim.Native.Nat.{ℕ}
use mathlib.Core.Bool.{Bool, true, false}
use mathlib.Core.List.{List, [], ◌∷◌, map}
use mathlib.Core.Path.{◌≡◌, refl}
use Rattle.settings.specs.Settings.{valid, fresh}

-- a method, a row count, and whether document 01 takes the two together
pub record Case : Type 0 where
  pub method : ℕ
  pub rows : ℕ
  pub good : Bool

abbrev case : ℕ → ℕ → Bool → Case
case m n g = record { method = m; rows = n; good = g }

-- "three methods: 1 HRW, 2 ring, 3 row table"; "Row count is 1 to 4,096 for method 3 and 0 for the others."; "row count 4,096 accepted, 4,097 refused"
abbrev pub cases : List Case
cases =
    case 0 0 false
    ∷ case 1 0 true
    ∷ case 1 1 false
    ∷ case 2 0 true
    ∷ case 2 1 false
    ∷ case 3 0 false
    ∷ case 3 1 true
    ∷ case 3 4096 true
    ∷ case 3 4097 false
    ∷ case 4 0 false
    ∷ case 4 1 false
    ∷ []

pub limits : map (λ (c : Case). valid (record { method = c.method; rows = c.rows })) cases ≡ map (λ (c : Case). c.good) cases
unfolding valid
limits = refl

-- "Starting .. selects method 1."
pub fresh-is : fresh ≡ record { method = 1; rows = 0 }
fresh-is = refl
