-- Going by cases on a test, with the test's outcome at hand in each case.
use mathlib.Core.Bool.{Bool, true, false, ◌||◌, true≢false}
use mathlib.Core.Path.{◌≡◌, refl, sym, ◌∙◌}

module _ {ℓ} {C : Type ℓ} where
  pub both : (b : Bool) → (b ≡ true → C) → (b ≡ false → C) → C
  both true t f = t refl
  both false t f = f refl

  pub clash : {b : Bool} → b ≡ true → b ≡ false → C
  clash p q = absurd (true≢false (sym p ∙ q))

  pub either : (a b : Bool) → a || b ≡ true → (a ≡ true → C) → (b ≡ true → C) → C
  either true b e f g = f refl
  either false b e f g = g e

pub or_left : {a : Bool} (b : Bool) → a ≡ true → a || b ≡ true
or_left b e = rw e

pub or_right : (a : Bool) {b : Bool} → b ≡ true → a || b ≡ true
or_right true e = refl
or_right false e = e

pub or_swap : (a b c : Bool) → a || (b || c) ≡ b || (a || c)
or_swap true true c = refl
or_swap true false c = refl
or_swap false b c = refl

pub not_so : {b : Bool} → (b ≡ true → ⊥) → b ≡ false
not_so {b} h = both b (λ e. absurd (h e)) (λ e. e)
