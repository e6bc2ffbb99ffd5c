-- The central equivalence, for any strict ranking and while some server works. Three ways to say that a choice is unsafe:
-- there is a list of horizon servers whose addition changes it; the choice over working and horizon together differs from it
-- (Algorithm 1, line 5); some horizon server outranks it (the paper's theorem 4.4).
use Prim.Native.Nat.{ℕ}
use mathlib.Core.Bool.{true, false}
use mathlib.Core.List.{List, [], ◌∷◌, ◌++◌}
use mathlib.Core.Logic.{◌≢◌, ◌↔◌}
use mathlib.Core.Path.{◌≡◌, refl}
use Rattle.sets.specs.Sets.{member, Within}
use Rattle.sets.proofs.Cases.{both, clash}
use Rattle.sets.proofs.Members.{member_head, member_right, member-cases}
use Rattle.ranking.specs.Ranking.{Ranking, Strict, choice, outranked, unsafe, SomeChange}
use Rattle.ranking.proofs.Choice.{choice_tops, choice_more, outranked_by, outranked-none}

module _ (R : Ranking) (S : Strict R) (s : ℕ) (working horizon : List ℕ) (works : member s working ≡ true) where
  -- "unsafe" while some server works
  pub unsafe-outranked : unsafe R working horizon ≡ outranked R (choice R working) horizon
  unsafe-outranked = some working works
    where
      some : (w : List ℕ) → member s w ≡ true → unsafe R w horizon ≡ outranked R (choice R w) horizon
      some [] m = clash m refl
      some (x ∷ w) m = refl

  -- any addition that has a server which outranks the choice changes it
  over_changes : (g : ℕ) (added : List ℕ) → member g added ≡ true → R g (choice R working) ≡ true
      → choice R (working ++ added) ≢ choice R working
  over_changes g added m o q = clash o (rw q at (choice_tops R S g (working ++ added) (member_right g working added m)))

  -- no addition from the horizon changes the choice where no horizon server outranks it
  none_changes : (added : List ℕ) → Within added horizon → outranked R (choice R working) horizon ≡ false
      → choice R (working ++ added) ≡ choice R working
  none_changes added within t =
      choice_more R S s working added works (λ x q. outranked-none R _ x horizon t (within x q))

  pub change_outranked : SomeChange R working horizon ↔ (outranked R (choice R working) horizon ≡ true)
  change_outranked = (
    λ p. both (outranked R (choice R working) horizon) (λ t. t) (λ t. absurd (p.2 (none_changes p.0 p.1 t))),
    λ t. let (g, m, o) = outranked_by R _ horizon t in (
      g ∷ [],
      λ x q. member-cases x g [] q (λ r. rw r m) (λ r. clash r refl),
      over_changes g (g ∷ []) (member_head g []) o,
    ),
  )

  pub together_outranked : (choice R (working ++ horizon) ≢ choice R working) ↔ (outranked R (choice R working) horizon ≡ true)
  together_outranked = (
    λ p. both (outranked R (choice R working) horizon) (λ t. t) (λ t. absurd (p (none_changes horizon (λ x q. q) t))),
    λ t. let (g, m, o) = outranked_by R _ horizon t in over_changes g horizon m o,
  )
