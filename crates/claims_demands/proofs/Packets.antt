-- What the rules do at a packet while some server works is what demand 2 says of it: one law for each mark.
use Prim.Native.Nat.{ℕ, ◌<◌, ◌≤◌}
use mathlib.Core.Bool.{Bool, true, false, not}
use mathlib.Core.List.{List}
use mathlib.Core.Logic.{inl, inr, ⊎_elim}
use mathlib.Core.Path.{◌≡◌, refl, sym, ap, ◌∙◌}
use native.Mathlib.Omega.{arith}
use lib.Dec.{ltb}
use lib.ListN.{length, length-append}
use borrow.Author.Tests.{not-true, not-false, ltb-true, ltb-false}
use Rattle.sets.specs.Sets.{member}
use Rattle.sets.proofs.Cases.{both, clash}
use Rattle.ranking.specs.Ranking.{choice, unsafe, picked}
use Rattle.ranking.proofs.Unsafe.{unsafe-outranked, change_outranked}
use Rattle.roster.specs.declared.Roster.{Roster}
use Rattle.roster.specs.Roster.{working_set, horizon}
use Rattle.table.specs.Table.{find, server_at, used, room, appended, no_stray}
use Rattle.table.proofs.Records.{used_within}
use Rattle.table.proofs.Finds.{missing_reads}
use Rattle.table.proofs.Stray.{used-appended}
use Rattle.rules.specs.Answer.{accepts}
use Rattle.rules.specs.Rules.{State, packet}
use Rattle.claims_histories.proofs.Picking.{ranking_strict}
use Rattle.claims_demands.specs.Demands.{ranking_of, mover, Unsafe, Written, PacketRight}

-- a table isn't its own with a record more
pub unwritten : (key : List ℕ) (s : ℕ) (t : List ℕ) → Written key s t t → ⊥
unwritten key s t w = omega (arith, simp length-append at (ap length w.gains))

module _ (key : List ℕ) (r : Roster) (s : ℕ) (works : member s (working_set r) ≡ true) where
  -- the flag of the pick says whether some set of horizon servers would change the choice
  abbrev flag : Bool
  flag = unsafe (ranking_of r key) (working_set r) (horizon r)

  pub flagged : flag ≡ true → Unsafe key r
  flagged u =
      let R = ranking_of r key in
      let S = ranking_strict r.settings key in
      (change_outranked R S s (working_set r) (horizon r) works).1 (sym (unsafe-outranked R S s (working_set r) (horizon r) works) ∙ u)

  pub unflagged : flag ≡ false → Unsafe key r → ⊥
  unflagged u c =
      let R = ranking_of r key in
      let S = ranking_strict r.settings key in
      clash (unsafe-outranked R S s (working_set r) (horizon r) works ∙ (change_outranked R S s (working_set r) (horizon r) works).0 c) u

  module _ (t : List ℕ) where
    abbrev chosen : ℕ
    chosen = choice (ranking_of r key) (working_set r)

    known-right : (find key t).found ≡ true → PacketRight key t r (accepts (server_at (find key t).reads t) 1 (find key t).reads) t r
    known-right f =
        record {
          gets = rw f;
          keeps = refl;
          known = λ _. (refl, refl);
          tracked = λ g. clash f g;
          safe = λ g _. clash f g;
          written = λ g. clash f g;
          full = λ g. clash f g;
          full_keeps = λ g _. clash f g;
        }

    safe-right : (find key t).found ≡ false → flag ≡ false → PacketRight key t r (accepts chosen 2 (find key t).reads) t r
    safe-right f u =
        record {
          gets = rw f;
          keeps = refl;
          known = λ g. clash g f;
          tracked = λ _. (⊎_elim (λ q. absurd (omega (arith, q))) (λ q. absurd (omega (arith, q))), λ c. absurd (unflagged u c));
          safe = λ _ _. (refl, refl);
          written = λ _. (λ q. absurd (omega (arith, q)), λ w. absurd (unwritten key (mover key t r) t w));
          full = λ _. (λ q. absurd (omega (arith, q)), λ c. absurd (unflagged u c.0));
          full_keeps = λ _ _. refl;
        }

    written-right : length key ≡ 13 → no_stray t ≡ true → (find key t).found ≡ false → flag ≡ true → used t < room t
        → PacketRight key t r (accepts chosen 3 (find key t).reads) (appended key chosen t) r
    written-right k clean f u l =
        record {
          gets = rw f;
          keeps = refl;
          known = λ g. clash g f;
          tracked = λ _. (λ _. flagged u, λ _. inl refl);
          safe = λ _ n. absurd (n (flagged u));
          written = λ _. (λ _. rw f (record { fits = l; gains = used-appended t clean l key chosen k; bytes = refl }), λ _. refl);
          full = λ _. (λ q. absurd (omega (arith, q)), λ c. absurd (omega (arith, l, c.1)));
          full_keeps = λ _ q. absurd (omega (arith, q));
        }

    full-right : (find key t).found ≡ false → flag ≡ true → room t ≤ used t
        → PacketRight key t r (accepts chosen 4 (find key t).reads) t r
    full-right f u l =
        record {
          gets = rw f;
          keeps = refl;
          known = λ g. clash g f;
          tracked = λ _. (λ _. flagged u, λ _. inr refl);
          safe = λ _ n. absurd (n (flagged u));
          written = λ _. (λ q. absurd (omega (arith, q)), λ w. absurd (unwritten key (mover key t r) t w));
          full = λ _. (λ _. (flagged u, omega (arith, l, used_within t)), λ _. refl);
          full_keeps = λ _ _. refl;
        }

-- so the packet is right whose pick is the ranking's
pub packet_right : (key : List ℕ) (st : State) (s : ℕ) → member s (working_set st.roster) ≡ true → length key ≡ 13 → no_stray st.table ≡ true
    → let c = packet key (find key st.table) (picked (ranking_of st.roster key) (working_set st.roster) (horizon st.roster)) st in
    PacketRight key st.table st.roster c.answer c.state.table c.state.roster
unfolding packet
packet_right key st s works k clean =
    let t = st.table in
    let r = st.roster in
    both (find key t).found (λ f. rw f (known-right key r s works t f)) (λ f.
    both (not (unsafe (ranking_of r key) (working_set r) (horizon r)))
    (λ u. rw (f, u) (safe-right key r s works t f (not-true _ u)))
    (λ u.
    both (ltb (find key t).reads (room t))
    (λ l.
    let m = missing_reads key t f in
    rw (f, u, l, m) (rw m at (written-right key r s works t k clean f (not-false _ u) (ltb-true (used t) (room t) (rw m at l)))))
    (λ l.
    rw (f, u, l) (full-right key r s works t f (not-false _ u) (ltb-false (used t) (room t) (rw (missing_reads key t f) at l))))))
