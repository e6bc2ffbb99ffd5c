-- Each method's ranking is strict: HRW and the row by weight, the ring by distance, ties to the higher number in both.
use Prim.Native.Nat.{ℕ}
use mathlib.Core.Bool.{Bool, true, false, cond}
use mathlib.Core.Path.{◌≡◌, refl, sym, ◌∙◌}
use native.Mathlib.Omega.{arith}
use lib.Dec.{eqb, ltb}
use borrow.Author.Tests.{eqb-true, eqb-false, eq-eqb, ne_eqb, ltb-true, ltb-false, lt-ltb, le-ltb}
use Rattle.hash.specs.Hash.{weight, position, distance}
use Rattle.sets.proofs.Cases.{both, clash}
use Rattle.ranking.specs.Ranking.{Ranking, Strict}
use Rattle.ranking.specs.Methods.{by_weight, by_distance, hrw, in_row, ring}

-- by a measure of each server: `better x y` says that measure x outranks measure y; ties go to the higher number
measured : (ℕ → ℕ → Bool) → (ℕ → ℕ) → Ranking
measured better v a b = cond (eqb (v a) (v b)) (ltb b a) (better (v a) (v b))

-- any strict order of the measures ranks the servers strictly
module _ (better : ℕ → ℕ → Bool) (S : Strict better) (v : ℕ → ℕ) where
  tied : (a b : ℕ) → v a ≡ v b → measured better v a b ≡ ltb b a
  unfolding measured
  tied a b e = rw (eq-eqb (v a) (v b) e)

  apart : (a b : ℕ) → eqb (v a) (v b) ≡ false → measured better v a b ≡ better (v a) (v b)
  unfolding measured
  apart a b e = rw e

  measured_total : (a b : ℕ) → measured better v a b ≡ false → measured better v b a ≡ false → a ≡ b
  measured_total a b p q =
      both
      (eqb (v a) (v b))
      (
      λ t. let e : v a ≡ v b = eqb-true (v a) (v b) t in
      omega (arith, ltb-false b a (sym (tied a b e) ∙ p), ltb-false a b (sym (tied b a (sym e)) ∙ q)))
      (
      λ t. let u : eqb (v b) (v a) ≡ false = ne_eqb (v b) (v a) (λ e. eqb-false (v a) (v b) t (sym e)) in
      absurd (eqb-false (v a) (v b) t (S.total (v a) (v b) (sym (apart a b t) ∙ p) (sym (apart b a u) ∙ q))))

  measured_transitive : (a b c : ℕ) → measured better v a b ≡ true → measured better v b c ≡ true → measured better v a c ≡ true
  measured_transitive a b c p q =
      both
      (eqb (v a) (v b))
      (
      λ t. let e : v a ≡ v b = eqb-true (v a) (v b) t in
      both
      (eqb (v b) (v c))
      (
      λ u. let f : v b ≡ v c = eqb-true (v b) (v c) u in
      tied a c (e ∙ f)
      ∙ lt-ltb c a (omega (arith, ltb-true b a (sym (tied a b e) ∙ p), ltb-true c b (sym (tied b c f) ∙ q))))
      (λ u. apart a c (rw e u) ∙ rw e (sym (apart b c u) ∙ q)))
      (
      λ t. let x : better (v a) (v b) ≡ true = sym (apart a b t) ∙ p in
      both
      (eqb (v b) (v c))
      (λ u. let f : v b ≡ v c = eqb-true (v b) (v c) u in apart a c (rw f at t) ∙ (rw f at x))
      (
      λ u. let y : better (v a) (v c) ≡ true = S.transitive (v a) (v b) (v c) x (sym (apart b c u) ∙ q) in
      apart a c (ne_eqb (v a) (v c) (λ e. clash (rw e at y) (S.irreflexive (v c)))) ∙ y))

  measured_strict : Strict (measured better v)
  measured_strict =
      record {
        irreflexive = λ a. tied a a refl ∙ le-ltb a a (omega arith);
        transitive = measured_transitive;
        total = measured_total;
      }

-- the two orders of measures: the larger outranks, and the smaller outranks
larger : Strict (λ (x y : ℕ). ltb y x)
larger =
    record {
      irreflexive = λ a. le-ltb a a (omega arith);
      transitive = λ a b c p q. lt-ltb c a (omega (arith, ltb-true b a p, ltb-true c b q));
      total = λ a b p q. omega (arith, ltb-false b a p, ltb-false a b q);
    }

smaller : Strict ltb
smaller =
    record {
      irreflexive = λ a. le-ltb a a (omega arith);
      transitive = λ a b c p q. lt-ltb a c (omega (arith, ltb-true a b p, ltb-true b c q));
      total = λ a b p q. omega (arith, ltb-false a b p, ltb-false b a q);
    }

pub by_weight_strict : (w : ℕ → ℕ) → Strict (by_weight w)
unfolding measured
by_weight_strict w = measured_strict (λ (x y : ℕ). ltb y x) larger w

pub by_distance_strict : (d : ℕ → ℕ) → Strict (by_distance d)
unfolding measured
by_distance_strict d = measured_strict ltb smaller d

pub hrw_strict : (d : ℕ) → Strict (hrw d)
hrw_strict d = by_weight_strict (λ s. weight s d)

pub in_row_strict : (r : ℕ) → Strict (in_row r)
in_row_strict r = hrw_strict r

pub ring_strict : (p : ℕ) → Strict (ring p)
ring_strict p = by_distance_strict (λ s. distance (position s) p)
