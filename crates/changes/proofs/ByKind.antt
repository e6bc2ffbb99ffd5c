-- What the rules come to for an event of each kind, by the tests that the code makes.
use Prim.Native.Nat.{ℕ, ◌≤◌, ◌<◌}
use mathlib.Core.Bool.{Bool, true, false}
use mathlib.Core.List.{List}
use mathlib.Core.Path.{◌≡◌, refl, sym, ap, ◌∙◌}
use lib.Dec.{eqb}
use borrow.Author.Tests.{eq-eqb, ne_eqb, le-leb, lt-leb}
use Rattle.ranking.specs.declared.Pick.{Pick}
use Rattle.settings.specs.declared.Settings.{Settings}
use Rattle.roster.specs.declared.Roster.{Roster}
use Rattle.roster.specs.Roster.{working_set, horizon, state_of, added_working, removed_working, added_horizon, removed_horizon}
use Rattle.event.specs.Event.{request_by}
use Rattle.event.specs.declared.Event.{Event}
use Rattle.event.specs.declared.Event.TheVariants.{End, AddWorking, RemoveWorking, AddHorizon, RemoveHorizon, Configure}
use Rattle.rows.specs.Rows.{filled}
use Rattle.table.specs.Table.{Finding, used, tag_at, half_closed, removed, removed_server}
use Rattle.rules.specs.Answer.{accepts}
use Rattle.rules.proofs.Ends.{end-first, end_next, end-nothing}
use Rattle.rules.specs.Rules.{state_with, State, Change, judged, barred, effect, refused, answered, taken, changed, configured, refilled}

module _ (t rows flags : List ℕ) (found : Finding) (pick : Pick) (r : Roster) where
  abbrev st : State
  st = state_with t rows flags r

  -- that is what the rules make of it, from this state
  abbrev Due : Change → Event → Type 0
  Due c e = c ≡ judged (request_by e) found pick st

  module _ (s : ℕ) where
    pub add_working_4 : (state_of s r ≡ 2 → ⊥) → Due (refused 4 st) (AddWorking s)
    unfolding judged barred
    add_working_4 n = rw (ne_eqb (state_of s r) 2 n)

    pub add_working_done : (c : Change) (next : Roster) → state_of s r ≡ 2 → next ≡ added_working s r → c ≡ changed next t st → Due c (AddWorking s)
    unfolding judged barred effect
    add_working_done c next e n d = rw (eq-eqb (state_of s r) 2 e) (d ∙ ap (λ (x : Roster). changed x t st) n)

    pub remove_working_5 : (state_of s r ≡ 1 → ⊥) → Due (refused 5 st) (RemoveWorking s)
    unfolding judged barred
    remove_working_5 n = rw (ne_eqb (state_of s r) 1 n)

    pub remove_working_done : (c : Change) (next : Roster) (t' : List ℕ) → state_of s r ≡ 1 → next ≡ removed_working s r → t' ≡ removed_server s t
        → c ≡ changed next t' st → Due c (RemoveWorking s)
    unfolding judged barred effect
    remove_working_done c next t' e n g d = rw (eq-eqb (state_of s r) 1 e) (d ∙ ap (λ (x : Roster). changed x t' st) n ∙ ap (λ (x : List ℕ). changed (removed_working s r) x st) g)

    pub add_horizon_3 : (state_of s r ≡ 0 → ⊥) → Due (refused 3 st) (AddHorizon s)
    unfolding judged barred
    add_horizon_3 n = rw (ne_eqb (state_of s r) 0 n)

    pub add_horizon_6 : state_of s r ≡ 0 → 64 ≤ r.held → Due (refused 6 st) (AddHorizon s)
    unfolding judged barred
    add_horizon_6 e h = rw (eq-eqb (state_of s r) 0 e, le-leb 64 r.held h)

    pub add_horizon_done : (c : Change) (next : Roster) → state_of s r ≡ 0 → r.held < 64 → next ≡ added_horizon s r → c ≡ changed next t st
        → Due c (AddHorizon s)
    unfolding judged barred effect
    add_horizon_done c next e h n d = rw (eq-eqb (state_of s r) 0 e, lt-leb 64 r.held h) (d ∙ ap (λ (x : Roster). changed x t st) n)

    pub remove_horizon_4 : (state_of s r ≡ 2 → ⊥) → Due (refused 4 st) (RemoveHorizon s)
    unfolding judged barred
    remove_horizon_4 n = rw (ne_eqb (state_of s r) 2 n)

    pub remove_horizon_done : (c : Change) (next : Roster) → state_of s r ≡ 2 → next ≡ removed_horizon s r → c ≡ changed next t st → Due c (RemoveHorizon s)
    unfolding judged barred effect
    remove_horizon_done c next e n d = rw (eq-eqb (state_of s r) 2 e) (d ∙ ap (λ (x : Roster). changed x t st) n)

  module _ (c : Settings) where
    pub configure_10_held : (r.held ≡ 0 → ⊥) → Due (refused 10 st) (Configure c)
    unfolding judged barred
    configure_10_held n = rw (ne_eqb r.held 0 n)

    pub configure_10_used : r.held ≡ 0 → (used t ≡ 0 → ⊥) → Due (refused 10 st) (Configure c)
    unfolding judged barred
    configure_10_used e n = rw (eq-eqb r.held 0 e, ne_eqb (used t) 0 n)

    pub configure_done : r.held ≡ 0 → used t ≡ 0 → Due (configured c st) (Configure c)
    unfolding judged barred effect
    configure_done e u = rw (eq-eqb r.held 0 e, eq-eqb (used t) 0 u)

module _ (key t rows flags : List ℕ) (pick : Pick) (r : Roster) (n : ℕ) where
  pub end_8 : tag_at n t ≡ 1
      → answered (accepts 0 8 n) (half_closed n t) (state_with t rows flags r)
      ≡ judged (request_by (End key)) (record { found = true; reads = n }) pick (state_with t rows flags r)
  unfolding judged barred effect
  end_8 e = sym (end-first (record { found = true; reads = n }) (state_with t rows flags r) refl e)

  pub end_5 : (tag_at n t ≡ 1 → ⊥)
      → answered (accepts 0 5 n) (removed n t) (state_with t rows flags r)
      ≡ judged (request_by (End key)) (record { found = true; reads = n }) pick (state_with t rows flags r)
  unfolding judged barred effect
  end_5 e = sym (end_next (record { found = true; reads = n }) (state_with t rows flags r) refl e)

  pub end_6 : answered (accepts 0 6 n) t (state_with t rows flags r)
      ≡ judged (request_by (End key)) (record { found = false; reads = n }) pick (state_with t rows flags r)
  unfolding judged barred effect
  end_6 = sym (end-nothing (record { found = false; reads = n }) (state_with t rows flags r) refl)

-- an accepted roster change, by the method
module _ (next r₀ : Roster) (t t₀ rows flags : List ℕ) where
  pub changed_filled : (rows' flags' : List ℕ) → next.settings.method ≡ 3
      → record { servers = rows'; flags = flags' } ≡ filled next.settings.rows (working_set next) (horizon next) (record { servers = rows; flags = flags })
      → taken false (state_with t rows' flags' next) ≡ changed next t (state_with t₀ rows flags r₀)
  unfolding refilled
  changed_filled rows' flags' e f =
      let m : eqb next.settings.method 2 ≡ false = rw e in
      rw (m, eq-eqb next.settings.method 3 e)
      (λ i. taken false (state_with t (f i).servers (f i).flags next))

  pub changed_plain : (b : Bool) → (next.settings.method ≡ 3 → ⊥) → b ≡ eqb next.settings.method 2
      → taken b (state_with t rows flags next) ≡ changed next t (state_with t₀ rows flags r₀)
  unfolding refilled
  changed_plain b n e = rw (ne_eqb next.settings.method 3 n, e)
