-- No second answer satisfies a promise of this crate, stated of the contracts: the reaction, and what was lent as it is afterwards, are determined.
-- A promise holds whatever was found and picked, so one value of each is enough.
use mathlib.Core.Bool.{false}
use mathlib.Core.List.{[]}
use Rattle.rows.specs.Lent.{rows_in}
use Rattle.ranking.specs.Ranking.{pick_of}
use Rattle.roster.specs.Roster.{empty_roster}
use Rattle.table.specs.Table.{Finding}
use Rattle.std.specs.Prelude.{Result, ◌≡◌}
use Rattle.rules.specs.declared.Refusal.{Refusal}
use Rattle.answers.specs.declared.Facts.{Facts}
use Rattle.answers.specs.declared.Done.{Done}
use Rattle.answers.proofs.Unique.{none as no-rows, SameDone, done_unique, served_unique}
use Rattle.changes.proofs.end.Reads.{Learnt as end-promise}
use Rattle.changes.proofs.add_working.Reads.{Learnt as add-working-promise}
use Rattle.changes.proofs.remove_working.Reads.{Learnt as remove-working-promise}
use Rattle.changes.proofs.add_horizon.Reads.{Learnt as add-horizon-promise}
use Rattle.changes.proofs.remove_horizon.Reads.{Learnt as remove-horizon-promise}
use Rattle.changes.proofs.configure.Reads.{Learnt as configure-promise}

abbrev none : Finding
none = record { found = false; reads = 0 }

pub end_unique : (κs : _) (a : _) (v v' : Facts) (e e' : _) → end-promise κs a v e → end-promise κs a v' e'
    → (v ≡ v') × (e.1.0.now ≡ e'.1.0.now)
end_unique κs a v v' e e' p q =
    served_unique v v' _ _ no-rows empty_roster _ (p [] (pick_of 0 false) no-rows empty_roster) (q [] (pick_of 0 false) no-rows empty_roster)

pub add-working_unique : (κs : _) (a : _) (v v' : Result Done Refusal) (e e' : _) → add-working-promise κs a v e → add-working-promise κs a v' e'
    → SameDone v v' [] [] (rows_in e.1.0.now) (rows_in e'.1.0.now) e.1.1.0.now e'.1.1.0.now
add-working_unique κs a v v' e e' p q = done_unique v v' _ _ _ _ _ _ _ (p.1 [] none (pick_of 0 false)) (q.1 [] none (pick_of 0 false))

pub add-horizon_unique : (κs : _) (a : _) (v v' : Result Done Refusal) (e e' : _) → add-horizon-promise κs a v e → add-horizon-promise κs a v' e'
    → SameDone v v' [] [] (rows_in e.1.0.now) (rows_in e'.1.0.now) e.1.1.0.now e'.1.1.0.now
add-horizon_unique κs a v v' e e' p q = done_unique v v' _ _ _ _ _ _ _ (p.1 [] none (pick_of 0 false)) (q.1 [] none (pick_of 0 false))

pub remove_horizon_unique : (κs : _) (a : _) (v v' : Result Done Refusal) (e e' : _) → remove-horizon-promise κs a v e → remove-horizon-promise κs a v' e'
    → SameDone v v' [] [] (rows_in e.1.0.now) (rows_in e'.1.0.now) e.1.1.0.now e'.1.1.0.now
remove_horizon_unique κs a v v' e e' p q = done_unique v v' _ _ _ _ _ _ _ (p.1 [] none (pick_of 0 false)) (q.1 [] none (pick_of 0 false))

pub remove_working_unique : (κs : _) (a : _) (v v' : Result Done Refusal) (e e' : _) → remove-working-promise κs a v e → remove-working-promise κs a v' e'
    → SameDone v v' e.1.0.now e'.1.0.now (rows_in e.1.1.0.now) (rows_in e'.1.1.0.now) e.1.1.1.0.now e'.1.1.1.0.now
remove_working_unique κs a v v' e e' p q = done_unique v v' _ _ _ _ _ _ _ (p.1 none (pick_of 0 false)) (q.1 none (pick_of 0 false))

-- `configure` only reads the table
pub configure_unique : (κs : _) (a : _) (v v' : Result Done Refusal) (e e' : _) → configure-promise κs a v e → configure-promise κs a v' e'
    → SameDone v v' a.1.0.now a.1.0.now (rows_in e.1.1.0.now) (rows_in e'.1.1.0.now) e.1.1.1.0.now e'.1.1.1.0.now
configure_unique κs a v v' e e' p q = done_unique v v' _ _ _ _ _ _ _ (p.1 none (pick_of 0 false)) (q.1 none (pick_of 0 false))
