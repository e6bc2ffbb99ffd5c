-- The best of the working servers and a search of the horizon give a row its server and its flag.
use Prim.Native.Nat.{ℕ}
use mathlib.Core.Bool.{Bool, cond}
use mathlib.Core.List.{List}
use mathlib.Core.Path.{◌≡◌, refl, ap}
use Rattle.std.proofs.Common.{None, Some}
use Rattle.hash.specs.Hash.{weight}
use Rattle.ranking.specs.declared.Best.{Best}
use Rattle.ranking.specs.declared.Pick.{Pick}
use Rattle.ranking.specs.Best.{best_of, beaten}
use Rattle.ranking.specs.Methods.{heavier, in_row, row_server, row_flag}
use Rattle.ranking.proofs.Scan.{pick_none, pick_some}
use Rattle.rows.specs.Rows.{Rows}

-- what row r gets
module _ (working horizon : List ℕ) (r : ℕ) where
  -- with no working server, server 0 and flag 0,
  pub server_none : None ≡ best_of (in_row r) (λ s. weight s r) working → 0 ≡ row_server working r
  server_none e = ap (λ (p : Pick). p.server) (pick_none heavier (λ s. weight s r) horizon working e)

  pub flag_none : None ≡ best_of (in_row r) (λ s. weight s r) working → 0 ≡ row_flag working horizon r
  flag_none e = ap (λ (p : Pick). cond p.flag 1 0) (pick_none heavier (λ s. weight s r) horizon working e)

  -- and else the best, and whether the horizon has one that beats it
  pub server_some : (b : Best) → Some b ≡ best_of (in_row r) (λ s. weight s r) working → b.server ≡ row_server working r
  server_some b e = ap (λ (p : Pick). p.server) (pick_some heavier (λ s. weight s r) horizon working b _ e refl)

  pub flag_some : (b : Best) (v : Bool) → Some b ≡ best_of (in_row r) (λ s. weight s r) working → v ≡ beaten heavier (λ s. weight s r) b horizon
      → cond v 1 0 ≡ row_flag working horizon r
  flag_some b v e q = ap (λ (p : Pick). cond p.flag 1 0) (pick_some heavier (λ s. weight s r) horizon working b v e q)

-- rows and flags, each settled, settle the two together
pub both_are : {a b c d : List ℕ} → a ≡ c → b ≡ d → ◌≡◌ {A = Rows} (record { servers = a; flags = b }) (record { servers = c; flags = d })
both_are p q = cc
