-- What "no key is recorded twice" and "every record names a working mover" mean, record by record.
use mathlib.Core.Bool.{true}
use mathlib.Core.List.{List, [], ◌∷◌, ◌++◌}
use mathlib.Core.Path.{◌≡◌}
use Rattle.sets.proofs.Cases.{clash, or_left, or_right}
use Rattle.spans.specs.Spans.{same}
use Rattle.spans.proofs.Scans.{same_self}
use Rattle.roster.specs.declared.Roster.{Roster}
use Rattle.roster.specs.Roster.{state_of, working}
use Rattle.table.specs.Table.{Rec}
use Rattle.claims_histories.specs.Histories.{recorded, Distinct, AllWorking}

-- the key of each record is recorded
pub recorded_there : (front back : List Rec) (r : Rec) → recorded r.key (front ++ (r ∷ back)) ≡ true
recorded_there [] back r = or_left (recorded r.key back) (same_self r.key)
recorded_there (x ∷ front) back r = or_right (same x.key r.key) (recorded_there front back r)

-- so two records of one key aren't distinct: the first record with a key is its only one
pub distinct_apart : (front middle back : List Rec) (r r' : Rec) → Distinct (front ++ (r ∷ (middle ++ (r' ∷ back)))) → r.key ≡ r'.key → ⊥
distinct_apart [] middle back r r' d e = clash (recorded_there middle back r') (rw e at d.0)
distinct_apart (x ∷ front) middle back r r' d e = distinct_apart front middle back r r' d.1 e

pub works_each : (roster : Roster) (front back : List Rec) (r : Rec) → AllWorking roster (front ++ (r ∷ back)) → state_of r.server roster ≡ working
works_each roster [] back r a = a.0
works_each roster (x ∷ front) back r a = works_each roster front back r a.1
