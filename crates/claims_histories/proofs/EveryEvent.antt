-- What every event comes to: it is refused, or it is of one of the kinds and does what that kind does, with what its acceptance says of the
-- state before it. Who shows something of each case shows it of every event; a new kind of event is one case more, here and there.
use Prim.Native.Nat.{ℕ, ◌<◌}
use mathlib.Core.Bool.{true}
use mathlib.Core.Path.{◌≡◌, refl}
use native.Mathlib.Omega.{arith}
use lib.Dec.{eqb}
use borrow.Author.Tests.{eqb-true, eqb-false, eq-eqb}
use Rattle.sets.proofs.Cases.{both, clash}
use Rattle.ranking.specs.declared.Pick.{Pick}
use Rattle.roster.specs.Roster.{working, standby, state_of, added_working, removed_working, added_horizon, removed_horizon}
use Rattle.event.specs.Event.{Request}
use Rattle.event.proofs.Reading.{Kind, packet as packet-kind, end as end-kind, add_working, remove_working, add_horizon, remove_horizon, configure}
use Rattle.table.specs.Table.{Finding, removed_server}
use Rattle.rules.specs.Rules.{State, Change, is, empty, target, barred, refused, packet, end, changed, configured, effect, judged}
use Rattle.claims_histories.proofs.Barring.{Passed, passed}

-- an empty world holds no server
empty_holds : (st : State) → empty st ≡ true → st.roster.held ≡ 0
empty_holds st e =
    eqb-true st.roster.held 0
    (both (eqb st.roster.held 0) (λ t. t) (λ t. clash (rw t at e) refl))

module _ (e : Request) (found : Finding) (pick : Pick) (st : State) where
  pub data Comes : Change → Type 0 where
    turned : (n : ℕ) → Comes (refused n st)
    packets : e.kind ≡ 1 → state_of (target found pick st) st.roster ≡ working → Comes (packet e.key found pick st)
    ends : e.kind ≡ 2 → Comes (end found st)
    enters : e.kind ≡ 3 → state_of e.server st.roster ≡ standby → Comes (changed (added_working e.server st.roster) st.table st)
    leaves : e.kind ≡ 4 → state_of e.server st.roster ≡ working
        → Comes (changed (removed_working e.server st.roster) (removed_server e.server st.table) st)
    stands : e.kind ≡ 5 → state_of e.server st.roster ≡ 0 → st.roster.held < 64
        → Comes (changed (added_horizon e.server st.roster) st.table st)
    goes : e.kind ≡ 6 → state_of e.server st.roster ≡ standby → Comes (changed (removed_horizon e.server st.roster) st.table st)
    sets : e.kind ≡ 7 → st.roster.held ≡ 0 → Comes (configured e.settings st)

  by_kind_lem : {k : ℕ} → Kind k → e.kind ≡ k → Passed e found pick st → Comes (effect e found pick st)
  unfolding effect
  by_kind_lem packet-kind k p = rw k (packets refl (p.led (eq-eqb e.kind 1 k)))
  by_kind_lem end-kind k p = rw k (ends refl)
  by_kind_lem add_working k p = rw k (enters refl (p.enters (eq-eqb e.kind 3 k)))
  by_kind_lem remove_working k p = rw k (leaves refl (p.leaves (eq-eqb e.kind 4 k)))
  by_kind_lem add_horizon k p = rw k (stands refl (p.unknown (eq-eqb e.kind 5 k)) (p.room (eq-eqb e.kind 5 k)))
  by_kind_lem remove_horizon k p = rw k (goes refl (p.goes (eq-eqb e.kind 6 k)))
  by_kind_lem configure k p = rw k (sets refl (empty_holds st (p.configures (eq-eqb e.kind 7 k))))

  pub comes : (0 < e.kind → Kind e.kind) → Comes (judged e found pick st)
  unfolding judged
  comes known =
      both (is 0 e) (λ z. rw z (turned e.refusal)) (λ z.
      both (eqb (barred e found pick st) 0)
      (λ q.
      rw (z, q)
      (by_kind_lem (known (omega (arith, eqb-false e.kind 0 z))) refl (passed e found pick st (eqb-true (barred e found pick st) 0 q))))
      (λ q. rw (z, q) (turned (barred e found pick st))))
