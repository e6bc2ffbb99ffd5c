-- What the test behind refusal 9 tells: the lengths of rows, flags and ring.
use Prim.Native.Nat.{ℕ, ◌%◌}
use mathlib.Core.Bool.{Bool, true, false, cond}
use mathlib.Core.Path.{◌≡◌, refl}
use lib.Dec.{eqb, leb}
use borrow.Author.Tests.{eqb-true}
use Rattle.sets.proofs.Cases.{both, clash}
use Rattle.rules.specs.Rules.{sizes_right}

-- two tests in a row, of which the second counts only where the first holds
module _ (a b : Bool) where
  pub and_first : cond a b false ≡ true → a ≡ true
  and_first e = both a (λ t. t) (λ t. clash (rw t at e) refl)

  pub and_second : cond a b false ≡ true → b ≡ true
  and_second e = both a (λ t. rw t at e) (λ t. clash (rw t at e) refl)

-- what right sizes say of rows, flags and ring
pub record RightSizes (rows flags ring : ℕ) : Type 0 where
  pub rows_4096 : rows ≡ 4096
  pub flags_4096 : flags ≡ 4096
  pub ring_64 : ring ≡ 64

pub right_sizes : (table rows flags ring : ℕ) → sizes_right table rows flags ring ≡ true → RightSizes rows flags ring
unfolding sizes_right
right_sizes table rows flags ring =
    both (eqb table 0) (λ z. rw z (λ e. clash e refl)) (λ z. rw z (λ e.
    let a = and_second (leb table 65520) _ e in
    let b = and_second (eqb (table % 20) 0) _ a in
    let c = and_second (eqb rows 4096) _ b in
    record {
      rows_4096 = eqb-true rows 4096 (and_first (eqb rows 4096) _ b);
      flags_4096 = eqb-true flags 4096 (and_first (eqb flags 4096) _ c);
      ring_64 = eqb-true ring 64 (and_second (eqb flags 4096) _ c);
    }))
