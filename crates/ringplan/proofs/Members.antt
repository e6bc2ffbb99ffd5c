-- Some server works exactly where one is in the working set.
use Prim.Native.Nat.{ℕ}
use mathlib.Core.Bool.{true}
use mathlib.Core.List.{List, [], ◌∷◌}
use mathlib.Core.Path.{◌≡◌, refl}
use Rattle.sets.specs.Sets.{member}
use Rattle.sets.proofs.Cases.{clash}
use Rattle.sets.proofs.Members.{member_head}
use Rattle.ringplan.specs.Plan.{some}

pub some-member : (l : List ℕ) → some l ≡ true → (s : ℕ) × (member s l ≡ true)
some-member [] e = clash e refl
some-member (x ∷ l) e = (x, member_head x l)

pub member-some : (x : ℕ) (l : List ℕ) → member x l ≡ true → some l ≡ true
member-some x [] m = m
member-some x (s ∷ l) m = refl
