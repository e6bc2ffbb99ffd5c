-- What one event means for one key, in each case that it can come to: for the settings, for the key's record, and for a key that has none.
use Prim.Native.Nat.{ℕ, ◌^◌, ◌<◌}
use mathlib.Core.List.{List}
use mathlib.Core.Bool.{true}
use mathlib.Core.Logic.{◌≢◌, ◌⊎◌, inl, inr}
use mathlib.Core.Option.{none, some}
use mathlib.Core.Path.{◌≡◌, refl, ap, ◌∙◌}
use native.Mathlib.Omega.{arith}
use lib.ListN.{length}
use borrow.Author.Tests.{eq-eqb}
use Rattle.sets.specs.Sets.{member}
use Rattle.sets.proofs.Cases.{both, clash, not_so}
use Rattle.spans.specs.Spans.{same}
use Rattle.spans.proofs.Scans.{same_equal}
use Rattle.roster.specs.declared.Roster.{Roster}
use Rattle.roster.specs.Roster.{working, state_in, state_of, working_set, removed_working}
use Rattle.roster.proofs.Sets.{working_state}
use Rattle.roster.proofs.Bounds.{working_below}
use Rattle.roster.proofs.Changes.{removed_working_state, added_horizon_settings}
use Rattle.roster.proofs.Removed.{removed_horizon_settings}
use Rattle.event.specs.Event.{Request}
use Rattle.table.specs.Table.{server_of}
use Rattle.rules.specs.Rules.{World, Change}
use Rattle.rules.proofs.Ends.{first, next, nothing}
use Rattle.claims_histories.proofs.Inner.{Inner}
use Rattle.claims_histories.proofs.Picking.{pick_at}
use Rattle.claims_demands.proofs.SteadyRecords.{server_for, read_missing, read_appended, server_new, read_removed, server_half, read_kept, read_without_server}
use Rattle.claims_demands.proofs.SteadyEvents.{Served, known, safe, written, full, Goes, turned, served, ended, entered, left, stood, went, set}

module _ (w : World) (i : Inner w) where
  pub works_member : (m : ℕ) → state_of m w.state.roster ≡ working → member m (working_set w.state.roster) ≡ true
  works_member m q = working_state w.state.roster i.along.roster_sound m ∙ rw q

  pub works_fits : (m : ℕ) → state_of m w.state.roster ≡ working → m < 2 ^ 32
  works_fits m q = working_below (2 ^ 32) w.state.roster i.below m (works_member m q)

  none_works : (m : ℕ) → w.state.roster.held ≡ 0 → state_of m w.state.roster ≡ 0
  unfolding state_in
  none_works m z = rw z

  served_roster : {key : List ℕ} {c : Change} → Served w key c → c.state.roster ≡ w.state.roster
  served_roster (known f q) = refl
  served_roster (safe f q u) = refl
  served_roster (written f q l) = refl
  served_roster full = refl

  module _ {e : Request} (sized : length e.key ≡ 13) where
    -- the settings stay while any server works
    pub keeps_settings : {c : Change} → Goes w e c → (m : ℕ) → state_of m w.state.roster ≡ working
        → c.state.roster.settings ≡ w.state.roster.settings
    keeps_settings (turned n) m q = refl
    keeps_settings (served k s) m q = ap (λ (r : Roster). r.settings) (served_roster s)
    keeps_settings (ended k (first f t)) m q = refl
    keeps_settings (ended k (next f t)) m q = refl
    keeps_settings (ended k (nothing f)) m q = refl
    keeps_settings (entered k) m q = refl
    keeps_settings (left k s) m q = refl
    keeps_settings (stood k h) m q = added_horizon_settings e.server w.state.roster h
    keeps_settings (went k s) m q = removed_horizon_settings e.server w.state.roster i.places i.along.roster_sound s
    keeps_settings (set k z) m q = absurd (omega (arith, q, none_works m z))

    -- the key's record names its server on while no end removes it and its server works
    pub keeps_record : {c : Change} → Goes w e c → (key : List ℕ) (m : ℕ) → (e.kind ≡ 2 → same e.key key ≡ true → c.answer.mark ≢ 5)
        → state_of m c.state.roster ≡ working
        → server_for key w.state.table ≡ some m → server_for key c.state.table ≡ some m
    keeps_record (turned n) key m n₂ q f = f
    keeps_record (served k (known g s)) key m n₂ q f = f
    keeps_record (served k (safe g s u)) key m n₂ q f = f
    keeps_record (served k (written g s l)) key m n₂ q f =
        read_appended server_of key w.state.table i.along.clean l e.key (pick_at w e.key).server sized m f
    keeps_record (served k full) key m n₂ q f = f
    keeps_record (ended k (first g t)) key m n₂ q f = server_half key w.state.table e.key g ∙ f
    keeps_record (ended k (next g t)) key m n₂ q f =
        read_removed server_of key w.state.table e.key g (not_so (λ t. n₂ k t refl)) ∙ f
    keeps_record (ended k (nothing g)) key m n₂ q f = f
    keeps_record (entered k) key m n₂ q f = f
    keeps_record (left k s) key m n₂ q f =
        let gone : m ≢ e.server = λ p.
        (let z : state_of m (removed_working e.server w.state.roster) ≡ 2 =
        removed_working_state e.server w.state.roster s m ∙ rw (eq-eqb m e.server p) in
        omega (arith, q, z)) in
        read_kept server_of key w.state.table e.server m gone f ∙ f
    keeps_record (stood k h) key m n₂ q f = f
    keeps_record (went k s) key m n₂ q f = f
    keeps_record (set k z) key m n₂ q f = f

    -- a key without a record gets none, or one that names its pick
    pub keeps_none : {c : Change} → Goes w e c → (key : List ℕ) → server_for key w.state.table ≡ none
        → (server_for key c.state.table ≡ none) ⊎ (server_for key c.state.table ≡ some (pick_at w key).server)
    keeps_none (turned n) key f = inl f
    keeps_none (served k (known g s)) key f = inl f
    keeps_none (served k (safe g s u)) key f = inl f
    keeps_none (served k (written g s l)) key f =
        let p = (pick_at w e.key).server in
        let new = server_new key w.state.table i.along.clean l e.key p sized (works_fits p s) f in
        both
        (same e.key key)
        (λ t. inr (new ∙ rw t (ap (λ (k : List ℕ). some (pick_at w k).server) (same_equal e.key key t))))
        (λ t. inl (new ∙ rw t))
    keeps_none (served k full) key f = inl f
    keeps_none (ended k (first g t)) key f = inl (server_half key w.state.table e.key g ∙ f)
    keeps_none (ended k (next g t)) key f =
        both
        (same e.key key)
        (λ t. clash g (rw (same_equal e.key key t) (read_missing server_of key w.state.table f)))
        (λ t. inl (read_removed server_of key w.state.table e.key g t ∙ f))
    keeps_none (ended k (nothing g)) key f = inl f
    keeps_none (entered k) key f = inl f
    keeps_none (left k s) key f = inl (read_without_server server_of key w.state.table e.server f)
    keeps_none (stood k h) key f = inl f
    keeps_none (went k s) key f = inl f
    keeps_none (set k z) key f = inl f
