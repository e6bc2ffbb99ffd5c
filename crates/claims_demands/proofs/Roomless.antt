-- In a table of fewer than 20 bytes no record fits, and every engine that obeys demand 2 leaves it clear: below 20 bytes one that obeys is
-- also one that writes no record. So the bound in the theorems on impostors that show only by a record is exact.
use Prim.Native.Nat.{ℕ, ◌<◌}
use mathlib.Core.Bool.{false, not}
use mathlib.Core.List.{List, [], ◌∷◌}
use mathlib.Core.Path.{◌≡◌, ◌∙◌}
use native.Mathlib.Omega.{arith}
use lib.Dec.{eqb}
use lib.ListN.{replicate, length-replicate}
use Rattle.sets.proofs.Cases.{both}
use Rattle.ranking.specs.Ranking.{pick_of, unsafe}
use Rattle.roster.specs.declared.Roster.{Roster}
use Rattle.roster.specs.Roster.{working_set, horizon}
use Rattle.event.specs.Event.{Request, event_in}
use Rattle.table.specs.Table.{find, room, packed, bytes_of, not_naming, removed_server}
use Rattle.rules.specs.Rules.{State, is, barred, packet, end, effect, judged}
use Rattle.claims_histories.specs.Histories.{AllBytes}
use Rattle.claims_demands.specs.Demands.{Engine, ranking_of, otherwise, Demand2}
use Rattle.claims_demands.proofs.Same.{ruled, served, served_seen, unserved_seen}
use Rattle.claims_demands.proofs.Witness.{clear_used, clear_find}

module _ (n : ℕ) where
  abbrev blank : Roster → State
  blank r = record { table = replicate n 0; rows = []; flags = []; roster = r }

  removed_stays : (s : ℕ) → removed_server s (replicate n 0) ≡ replicate n 0
  unfolding removed_server packed bytes_of not_naming
  removed_stays s = rw (clear_used n)

  -- nothing but a packet's record changes a table without records
  effect_stays : (e : Request) (r : Roster)
      → (effect e (find e.key (replicate n 0)) (pick_of 0 false) (blank r)).state.table ≡ replicate n 0
  unfolding effect packet end
  effect_stays e r =
      let none = clear_find n e.key in
      both (is 1 e) (λ k. rw (k, none)) (λ k₁.
      both (is 2 e) (λ k. rw (k₁, k, none)) (λ k₂.
      both (is 3 e) (λ k. rw (k₁, k₂, k)) (λ k₃.
      both (is 4 e) (λ k. rw (k₁, k₂, k₃, k) (removed_stays e.server)) (λ k₄.
      both (is 5 e) (λ k. rw (k₁, k₂, k₃, k₄, k)) (λ k₅.
      both (is 6 e) (λ k. rw (k₁, k₂, k₃, k₄, k₅, k)) (λ k. rw (k₁, k₂, k₃, k₄, k₅, k)))))))

  other_stays : (e : Request) (r : Roster) → (otherwise e (replicate n 0) r).state.table ≡ replicate n 0
  unfolding judged
  other_stays e r =
      both (is 0 e) (λ k. rw k) (λ k.
      both (eqb (barred e (find e.key (replicate n 0)) (pick_of 0 false) (blank r)) 0)
      (λ b. rw (k, b) (effect_stays e r))
      (λ b. rw (k, b)))

  module _ (small : n < 20) where
    packet-stays : (key : List ℕ) (r : Roster) → (ruled key (replicate n 0) r).state.table ≡ replicate n 0
    unfolding packet
    packet-stays key r =
        let none : room (replicate n 0) ≡ 0 = rw (length-replicate {A = ℕ} n 0) (omega arith) in
        both (not (unsafe (ranking_of r key) (working_set r) (horizon r)))
        (λ u. rw (clear_find n key, u))
        (λ u. rw (clear_find n key, u, none))

    pub stays_clear : (E : Engine) → Demand2 n E → (h : List (List ℕ)) → AllBytes h → E.table h ≡ replicate n 0
    stays_clear E d [] b = d.starts_clear
    stays_clear E d (bytes ∷ h) b =
        let t = stays_clear E d h b.1 in
        both (served n E d h bytes b)
        (λ v. (served_seen n E d h bytes b v).table ∙ rw t (packet-stays (event_in bytes).key (E.roster h)))
        (λ v. (unserved_seen n E d h bytes b v).table ∙ rw t (other_stays (event_in bytes) (E.roster h)))
