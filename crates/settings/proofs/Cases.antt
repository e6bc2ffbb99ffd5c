-- Valid settings, method by method; and what is wrong with the others.
use Prim.Native.Nat.{◌<◌, ◌≤◌}
use mathlib.Core.Bool.{true, false}
use mathlib.Core.Logic.{◌≢◌}
use mathlib.Core.Path.{◌≡◌, refl}
use native.Mathlib.Omega.{arith}
use lib.Dec.{eqb, leb}
use borrow.Author.Tests.{eqb-true, eqb-false, leb-true, leb-false}
use Rattle.sets.proofs.Cases.{both, clash}
use Rattle.settings.specs.declared.Settings.{Settings}
use Rattle.settings.specs.Settings.{valid}

module _ {ℓ} {C : Type ℓ} (s : Settings) where
  pub valid-cases : valid s ≡ true → (s.method ≡ 1 → s.rows ≡ 0 → C) → (s.method ≡ 2 → s.rows ≡ 0 → C)
      → (s.method ≡ 3 → 1 ≤ s.rows → s.rows ≤ 4096 → C) → C
  unfolding valid
  valid-cases v one two three =
      both (eqb s.method 3)
      (λ m.
      both (leb 1 s.rows)
      (λ l. three (eqb-true s.method 3 m) (leb-true 1 s.rows l) (leb-true s.rows 4096 (rw (m, l) at v)))
      (λ l. clash (rw (m, l) at v) refl))
      (λ m.
      both (eqb s.rows 0)
      (λ z.
      both (eqb s.method 1)
      (λ o. one (eqb-true s.method 1 o) (eqb-true s.rows 0 z))
      (λ o. two (eqb-true s.method 2 (rw (m, z, o) at v)) (eqb-true s.rows 0 z)))
      (λ z. clash (rw (m, z) at v) refl))

  pub invalid_cases : valid s ≡ false → (s.method ≢ 1 → s.method ≢ 2 → s.method ≢ 3 → C) → (s.method ≡ 3 → s.rows ≡ 0 → C)
      → (s.method ≡ 3 → 4096 < s.rows → C) → (s.method ≢ 3 → s.rows ≢ 0 → C) → C
  unfolding valid
  invalid_cases v none few many needless =
      both (eqb s.method 3)
      (λ m.
      both (leb 1 s.rows)
      (λ l. many (eqb-true s.method 3 m) (leb-false s.rows 4096 (rw (m, l) at v)))
      (λ l. few (eqb-true s.method 3 m) (omega (arith, leb-false 1 s.rows l))))
      (λ m.
      both (eqb s.rows 0)
      (λ z.
      both (eqb s.method 1)
      (λ o. clash refl (rw (m, z, o) at v))
      (λ o. none (eqb-false s.method 1 o) (eqb-false s.method 2 (rw (m, z, o) at v)) (eqb-false s.method 3 m)))
      (λ z. needless (eqb-false s.method 3 m) (eqb-false s.rows 0 z)))
