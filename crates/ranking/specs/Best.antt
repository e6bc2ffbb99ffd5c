-- The best server so far, as a loop over a set keeps it; none before the first server.
use Rattle.std.specs.Prelude.{ℕ, Bool, false, cond, ◌||◌, List, [], ◌∷◌, Option, None, Some}
use Rattle.ranking.specs.declared.Best.{Best}
use Rattle.ranking.specs.Ranking.{Ranking, choice}

abbrev pub none_yet : Option Best
none_yet = None

abbrev pub best_is : ℕ → ℕ → Best
best_is s m = record { server = s; measure = m }

-- one more server: it takes the best's place where there is none yet, or where it outranks it; `outranks` goes by measure and number of each
unfoldable pub kept : (ℕ → ℕ → ℕ → ℕ → Bool) → Option Best → Best → Best
kept outranks None more = more
kept outranks (Some b) more = cond (outranks more.measure more.server b.measure b.server) more b

-- the best of a set: its choice, with the choice's measure; none of no server
unfoldable pub best_of : Ranking → (ℕ → ℕ) → List ℕ → Option Best
best_of R measure [] = none_yet
best_of R measure (s ∷ l) = Some (best_is (choice R (s ∷ l)) (measure (choice R (s ∷ l))))

-- some server of a set outranks the best
unfoldable pub beaten : (ℕ → ℕ → ℕ → ℕ → Bool) → (ℕ → ℕ) → Best → List ℕ → Bool
beaten outranks measure b [] = false
beaten outranks measure b (h ∷ l) = outranks (measure h) h b.measure b.server || beaten outranks measure b l
