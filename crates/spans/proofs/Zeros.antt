-- A span whose bytes are all zero, and one whose bytes are not, byte by byte.
use Prim.Native.Nat.{ℕ, zero, suc, ◌<◌}
use mathlib.Core.Bool.{true, false}
use mathlib.Core.List.{List, [], ◌∷◌}
use mathlib.Core.Logic.{◌≢◌}
use mathlib.Core.Path.{◌≡◌, refl}
use native.Mathlib.Omega.{arith}
use lib.Dec.{eqb}
use lib.ListN.{length, get_or}
use borrow.Author.Tests.{eqb-true, eqb-false}
use Rattle.sets.proofs.Cases.{both, clash}
use Rattle.spans.specs.Spans.{all_zero}

-- every byte is zero; past the end nothing stands
pub zero-at : (s : List ℕ) → all_zero s ≡ true → (i : ℕ) → get_or s i 0 ≡ 0
unfolding all_zero
zero-at [] e i = refl
zero-at (x ∷ s) e zero = both (eqb x 0) (λ t. eqb-true x 0 t) (λ t. clash (rw t at e) refl)
zero-at (x ∷ s) e (suc i) = both (eqb x 0) (λ t. zero-at s (rw t at e) i) (λ t. clash (rw t at e) refl)

-- there is one that isn't
pub nonzero_at : (s : List ℕ) → all_zero s ≡ false → (i : ℕ) × (i < length s) × (get_or s i 0 ≢ 0)
unfolding all_zero
nonzero_at [] e = clash refl e
nonzero_at (x ∷ s) e =
    both (eqb x 0)
    (λ t. let (i, within, n) = nonzero_at s (rw t at e) in (suc i, omega arith, n))
    (λ t. (0, omega arith, eqb-false x 0 t))
