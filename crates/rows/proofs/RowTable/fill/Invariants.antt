-- Row by row: the lists are written up to row r, and the search has met no horizon server yet that beats the row's best.
use mathlib.Core.Path.{◌≡◌}
use Rattle.hash.specs.Hash.{weight}
use Rattle.sets.specs.Sets.{in_state}
use Rattle.ranking.specs.Best.{beaten}
use Rattle.ranking.specs.Methods.{heavier, row_server, row_flag}
use Rattle.ranking.proofs.Loop.{left}
use Rattle.rows.specs.Rows.{written}
use Rattle.rows.proofs.RowTable.fill.Given as goal

abbrev pub invariant-search : goal.invariant-search
invariant-search l =
    (beaten heavier (λ s. weight s l.digest) l.best (left 2 l.standby-iterator) ≡ beaten heavier (λ s. weight s l.digest) l.best (in_state 2 l.movers.servers.now l.movers.states.now))
    × (l.flag ≡ 0)

abbrev pub invariant-loop-r : goal.invariant-loop-r
invariant-loop-r l =
    (l.servers ≡ written (row_server (in_state 1 l.movers.servers.now l.movers.states.now)) l.r l.initial.servers)
    × (l.flags ≡ written (row_flag (in_state 1 l.movers.servers.now l.movers.states.now) (in_state 2 l.movers.servers.now l.movers.states.now)) l.r l.initial.flags)
