-- The refusal table, read off its outcome: what an event that nothing bars has passed, and that no event is barred by 9 or 11.
use Prim.Native.Nat.{ℕ, ◌<◌}
use mathlib.Core.Bool.{Bool, true, false, not, ◌&&◌, ◌||◌}
use mathlib.Core.Path.{◌≡◌, refl}
use lib.Dec.{eqb, leb}
use borrow.Author.Tests.{eqb-true, leb-false, not-false}
use Rattle.sets.proofs.Cases.{both, clash, or_left, or_right}
use Rattle.ranking.specs.declared.Pick.{Pick}
use Rattle.roster.specs.Roster.{working, standby, state_of, working_set}
use Rattle.event.specs.Event.{Request}
use Rattle.table.specs.Table.{Finding}
use Rattle.ringplan.specs.Plan.{some}
use Rattle.rules.specs.Rules.{State, is, empty, target, barred}

-- of an event of the kind, the condition holds that its line asks for
kind_passed : (a b : Bool) → a ≡ true → a && not b ≡ false → b ≡ true
kind_passed a b e f = not-false b (rw e at f)

module _ (e : Request) (found : Finding) (pick : Pick) (st : State) where
  -- the lines of the table, each as a test
  abbrev pub line10 : Bool
  line10 = is 7 e && not (empty st)

  abbrev pub line3 : Bool
  line3 = is 5 e && not (eqb (state_of e.server st.roster) 0)

  abbrev pub line6 : Bool
  line6 = is 5 e && leb 64 st.roster.held

  abbrev pub line4 : Bool
  line4 = (is 3 e || is 6 e) && not (eqb (state_of e.server st.roster) standby)

  abbrev pub line5 : Bool
  line5 = is 4 e && not (eqb (state_of e.server st.roster) working)

  abbrev pub line7 : Bool
  line7 = is 1 e && not (some (working_set st.roster))

  abbrev pub line8 : Bool
  line8 = is 1 e && not (eqb (state_of (target found pick st) st.roster) working)

  -- which line gave the number, or that none did
  pub data Given : ℕ → Type 0 where
    by10 : line10 ≡ true → Given 10
    by3 : line3 ≡ true → Given 3
    by6 : line6 ≡ true → Given 6
    by4 : line4 ≡ true → Given 4
    by5 : line5 ≡ true → Given 5
    by7 : line7 ≡ true → Given 7
    by8 : line7 ≡ false → line8 ≡ true → Given 8
    byNone : line10 ≡ false → line3 ≡ false → line6 ≡ false → line4 ≡ false → line5 ≡ false → line7 ≡ false → line8 ≡ false → Given 0

  pub given : Given (barred e found pick st)
  unfolding barred
  given =
      both line10 (λ t. rw t (by10 t)) (λ f₁₀.
      both line3 (λ t. rw (f₁₀, t) (by3 t)) (λ f₃.
      both line6 (λ t. rw (f₁₀, f₃, t) (by6 t)) (λ f₆.
      both line4 (λ t. rw (f₁₀, f₃, f₆, t) (by4 t)) (λ f₄.
      both line5 (λ t. rw (f₁₀, f₃, f₆, f₄, t) (by5 t)) (λ f₅.
      both line7 (λ t. rw (f₁₀, f₃, f₆, f₄, f₅, t) (by7 t)) (λ f₇.
      both line8 (λ t. rw (f₁₀, f₃, f₆, f₄, f₅, f₇, t) (by8 f₇ t)) (λ f₈.
      rw (f₁₀, f₃, f₆, f₄, f₅, f₇, f₈) (byNone f₁₀ f₃ f₆ f₄ f₅ f₇ f₈))))))))

  -- what an event has passed that no line bars, for each kind
  pub record Passed : Type 0 where
    pub configures : is 7 e ≡ true → empty st ≡ true
    pub unknown : is 5 e ≡ true → state_of e.server st.roster ≡ 0
    pub room : is 5 e ≡ true → st.roster.held < 64
    pub enters : is 3 e ≡ true → state_of e.server st.roster ≡ standby
    pub goes : is 6 e ≡ true → state_of e.server st.roster ≡ standby
    pub leaves : is 4 e ≡ true → state_of e.server st.roster ≡ working
    pub served : is 1 e ≡ true → some (working_set st.roster) ≡ true
    pub led : is 1 e ≡ true → state_of (target found pick st) st.roster ≡ working

  passed_by : Given 0 → Passed
  passed_by (byNone f₁₀ f₃ f₆ f₄ f₅ f₇ f₈) =
      record {
        configures = λ k. kind_passed (is 7 e) (empty st) k f₁₀;
        unknown = λ k. eqb-true _ 0 (kind_passed (is 5 e) (eqb (state_of e.server st.roster) 0) k f₃);
        room = λ k. leb-false 64 st.roster.held (rw k at f₆);
        enters = λ k. eqb-true _ 2 (kind_passed (is 3 e || is 6 e) (eqb (state_of e.server st.roster) 2) (or_left (is 6 e) k) f₄);
        goes = λ k. eqb-true _ 2 (kind_passed (is 3 e || is 6 e) (eqb (state_of e.server st.roster) 2) (or_right (is 3 e) k) f₄);
        leaves = λ k. eqb-true _ 1 (kind_passed (is 4 e) (eqb (state_of e.server st.roster) 1) k f₅);
        served = λ k. kind_passed (is 1 e) (some (working_set st.roster)) k f₇;
        led = λ k. eqb-true _ 1 (kind_passed (is 1 e) (eqb (state_of (target found pick st) st.roster) 1) k f₈);
      }

  pub passed : barred e found pick st ≡ 0 → Passed
  passed z = passed_by (rw z at given)

  -- 9 and 11 are no lines of the table, and 8 is given only to a packet that some server could take
  in_table : {n : ℕ} → Given n → eqb n 9 || eqb n 11 ≡ false
  in_table (by10 t) = refl
  in_table (by3 t) = refl
  in_table (by6 t) = refl
  in_table (by4 t) = refl
  in_table (by5 t) = refl
  in_table (by7 t) = refl
  in_table (by8 f t) = refl
  in_table (byNone f₁₀ f₃ f₆ f₄ f₅ f₇ f₈) = refl

  by_8 : Given 8 → (line7 ≡ false) × (line8 ≡ true)
  by_8 (by8 f t) = (f, t)

  pub barred_not_9 : barred e found pick st ≡ 9 → ⊥
  barred_not_9 z = clash {b = true} refl (rw z at (in_table given))

  pub barred_not_11 : barred e found pick st ≡ 11 → ⊥
  barred_not_11 z = clash {b = true} refl (rw z at (in_table given))

  pub barred_8 : barred e found pick st ≡ 8 → (line7 ≡ false) × (line8 ≡ true)
  barred_8 z = by_8 (rw z at given)
