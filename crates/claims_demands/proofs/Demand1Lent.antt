-- Demand 1, refusals 9 and 11: the rules' tests of what is lent, cause by cause; and the tests as such.
use Prim.Native.Nat.{ℕ, ◌+◌, ◌-◌, ◌%◌, ◌<◌, ◌≤◌}
use mathlib.Core.Bool.{Bool, true, false, not, ◌&&◌, ◌||◌}
use mathlib.Core.List.{List, ◌∷◌}
use mathlib.Core.Logic.{◌≢◌, ◌⊎◌, inl, inr, ⊎_elim}
use mathlib.Core.Path.{◌≡◌, refl, sym, ◌∙◌}
use native.Mathlib.Omega.{arith}
use lib.Dec.{eqb, leb}
use lib.ListN.{length, get_or, drop, length-drop}
use lib.Seq.{get_or-drop}
use borrow.Author.Tests.{eqb-true, eqb-false, leb-true, leb-false}
use Rattle.sets.proofs.Cases.{both, clash}
use Rattle.sets.proofs.Members.{member_head}
use Rattle.spans.specs.Spans.{all_zero}
use Rattle.spans.proofs.Zeros.{zero-at, nonzero_at}
use Rattle.lists.specs.Lists.{rising, all_stated}
use Rattle.lists.proofs.Order.{rise_head, rise_none}
use Rattle.lists.proofs.Failing.{falls, rise_behind, stated_each, unstated}
use Rattle.settings.specs.declared.Settings.{Settings}
use Rattle.settings.specs.Settings.{valid}
use Rattle.settings.proofs.Cases.{valid-cases, invalid_cases}
use Rattle.roster.specs.declared.Roster.{Roster}
use Rattle.roster.specs.Roster.{sound, held_servers, held_states}
use Rattle.roster.proofs.Form.{SoundParts, sound_parts}
use Rattle.rules.specs.Rules.{World, sizes_right, sized_for}
use Rattle.claims_demands.specs.Causes.{BadSettings, unknown_method, no_rows, too_many_rows, needless_rows, WrongLength, table_none, table_long, table_odd, rows_not, flags_not, ring_not, Unsound, too_many, out_of_order, server_zero, twice, in_neither, server_unused, state_unused, bad_settings}

-- ---- a test tells whether something holds
pub data Tells (P : Type 0) : Bool → Type 0 where
  yes : P → Tells P true
  no : (P → ⊥) → Tells P false

module _ {P Q : Type 0} where
  pub tells_and : {a b : Bool} → Tells P a → (P → Tells Q b) → Tells (P × Q) (a && b)
  tells_and (no n) f = no (λ p. n p.0)
  tells_and (yes p) f = then p (f p)
    where
      then : {b : Bool} → P → Tells Q b → Tells (P × Q) b
      then p (yes q) = yes (p, q)
      then p (no n) = no (λ r. n r.1)

  pub tells_or : {a b : Bool} → Tells P a → Tells Q b → Tells (P ⊎ Q) (a || b)
  tells_or (yes p) t = yes (inl p)
  tells_or (no n) (yes q) = yes (inr q)
  tells_or (no n) (no m) = no (⊎_elim n m)

  -- not both
  pub tells_nand : {a b : Bool} → Tells P a → Tells Q b → Tells ((P → ⊥) ⊎ (Q → ⊥)) (not (a && b))
  tells_nand (no n) t = yes (inl n)
  tells_nand (yes p) (no m) = yes (inr m)
  tells_nand (yes p) (yes q) = no (⊎_elim (λ n. n p) (λ m. m q))

pub tells_not : {P : Type 0} {a : Bool} → Tells P a → Tells (P → ⊥) (not a)
tells_not (yes p) = no (λ n. n p)
tells_not (no n) = yes n

pub told : {P : Type 0} → Tells P true → P
told (yes p) = p

pub denied : {P : Type 0} → Tells P false → P → ⊥
denied (no n) = n

pub tells_false : (b : Bool) → Tells (b ≡ false) (not b)
tells_false true = no (λ e. clash refl e)
tells_false false = yes refl

pub tells_eqb : (a b : ℕ) → Tells (a ≡ b) (eqb a b)
tells_eqb a b = both (eqb a b) (λ t. rw t (yes (eqb-true a b t))) (λ t. rw t (no (eqb-false a b t)))

pub tells_leb : (a b : ℕ) → Tells (a ≤ b) (leb a b)
tells_leb a b =
    both (leb a b) (λ t. rw t (yes (leb-true a b t))) (λ t. rw t (no (λ h. omega (arith, leb-false a b t))))

-- ---- bytes from a place on
pub zero-from : (n : ℕ) (l : List ℕ) → all_zero (drop n l) ≡ true → (i : ℕ) → n ≤ i → get_or l i 0 ≡ 0
zero-from n l z i h =
    let e : n + (i - n) ≡ i = omega arith in
    rw e at (sym (get_or-drop n l (i - n) 0) ∙ zero-at (drop n l) z (i - n))

pub nonzero_from : (n : ℕ) (l : List ℕ) → all_zero (drop n l) ≡ false → (i : ℕ) × (n ≤ i) × (i < length l) × (get_or l i 0 ≢ 0)
nonzero_from n l z =
    let (j, within, x) = nonzero_at (drop n l) z in
    (n + j, omega arith, omega (arith, length-drop n l), rw (get_or-drop n l j 0) at x)

-- ---- method and row count
pub bad_settings_lem : (s : Settings) → valid s ≡ false → BadSettings s.method s.rows
bad_settings_lem s e = invalid_cases s e unknown_method no_rows too_many_rows needless_rows

pub good_settings : (s : Settings) → valid s ≡ true → BadSettings s.method s.rows → ⊥
good_settings s v (unknown_method a b c) = valid-cases s v (λ m _. a m) (λ m _. b m) (λ m _ _. c m)
good_settings s v (no_rows m z) = valid-cases s v (λ n _. omega arith) (λ n _. omega arith) (λ _ l _. omega arith)
good_settings s v (too_many_rows m z) = valid-cases s v (λ n _. omega arith) (λ n _. omega arith) (λ _ _ l. omega arith)
good_settings s v (needless_rows m z) = valid-cases s v (λ _ n. z n) (λ _ n. z n) (λ n _ _. m n)

-- ---- refusal 9
module _ (w : World) where
  abbrev t : ℕ
  t = length w.state.table

  abbrev rows : ℕ
  rows = length w.state.rows

  abbrev flags : ℕ
  flags = length w.state.flags

  right_lengths : t ≢ 0 → t ≤ 65520 → t % 20 ≡ 0 → rows ≡ 4096 → flags ≡ 4096 → length w.ring ≡ 64 → WrongLength w → ⊥
  right_lengths a b c d f g (table_none e) = a e
  right_lengths a b c d f g (table_long e) = omega arith
  right_lengths a b c d f g (table_odd e) = e c
  right_lengths a b c d f g (rows_not e) = e d
  right_lengths a b c d f g (flags_not e) = e f
  right_lengths a b c d f g (ring_not e) = e g

  pub lengths_told : Tells (WrongLength w) (not (sized_for (length w.ring) w.state))
  unfolding sizes_right
  lengths_told =
      both (eqb t 0) (λ a. rw a (yes (table_none (eqb-true t 0 a)))) (λ a.
      both (leb t 65520) (λ b.
      both (eqb (t % 20) 0) (λ c.
      both (eqb rows 4096) (λ d.
      both (eqb flags 4096) (λ f.
      both (eqb (length w.ring) 64)
      (λ g.
      rw (a, b, c, d, f, g)
      (no
      (right_lengths
      (eqb-false t 0 a)
      (leb-true t 65520 b)
      (eqb-true (t % 20) 0 c)
      (eqb-true rows 4096 d)
      (eqb-true flags 4096 f)
      (eqb-true (length w.ring) 64 g))))
      (λ g. rw (a, b, c, d, f, g) (yes (ring_not (eqb-false (length w.ring) 64 g)))))
      (λ f. rw (a, b, c, d, f) (yes (flags_not (eqb-false flags 4096 f)))))
      (λ d. rw (a, b, c, d) (yes (rows_not (eqb-false rows 4096 d)))))
      (λ c. rw (a, b, c) (yes (table_odd (eqb-false (t % 20) 0 c)))))
      (λ b. rw (a, b) (yes (table_long (leb-false t 65520 b)))))

-- ---- refusal 11
module _ (r : Roster) where
  disordered : rising 0 (held_servers r) ≡ false → Unsound r
  disordered e =
      falls 0 (held_servers r) e
      (λ x back q low. let z : x ≡ 0 = omega arith in server_zero (rw (q, z) (member_head 0 back)))
      (λ front a b back q low.
      both (eqb a b)
      (λ t. twice front a (b ∷ back) q (rw t))
      (λ t. out_of_order front a b back q (omega (arith, eqb-false a b t))))

  unsound : sound r ≡ false → Unsound r
  unfolding sound
  unsound e =
      both (leb r.held 64) (λ a.
      both (rising 0 (held_servers r)) (λ b.
      both (all_stated (held_states r)) (λ c.
      both (all_zero (drop r.held r.servers)) (λ d.
      both (all_zero (drop r.held r.states))
      (λ f. bad_settings (bad_settings_lem r.settings (rw (a, b, c, d, f) at e)))
      (λ f. let (i, past, within, n) = nonzero_from r.held r.states f in state_unused i past n))
      (λ d. let (i, past, within, n) = nonzero_from r.held r.servers d in server_unused i past n))
      (λ c. let (x, m, one, two) = unstated (held_states r) c in in_neither x m one two))
      (λ b. disordered b))
      (λ a. too_many (leb-false r.held 64 a))

  sound_right : SoundParts r → Unsound r → ⊥
  sound_right p (too_many h) = omega (arith, p.few)
  sound_right p (out_of_order front a b back q h) =
      omega (arith, rise_head a b back (rise_behind 0 front a (b ∷ back) (rw q at p.rises)))
  sound_right p (server_zero m) = clash m (rise_none 0 0 (held_servers r) p.rises (omega arith))
  sound_right p (twice front a back q m) =
      clash m (rise_none a a back (rise_behind 0 front a back (rw q at p.rises)) (omega arith))
  sound_right p (in_neither x m one two) = stated_each x (held_states r) p.stated m one two
  sound_right p (server_unused i h n) = n (zero-from r.held r.servers p.servers_zero i h)
  sound_right p (state_unused i h n) = n (zero-from r.held r.states p.states_zero i h)
  sound_right p (bad_settings b) = good_settings r.settings p.settings_valid b

  pub sound_told : Tells (Unsound r) (not (sound r))
  sound_told = both (sound r) (λ s. rw s (no (sound_right (sound_parts r s)))) (λ s. rw s (yes (unsound s)))
