-- None of demand 3's four provisos is decoration: without any one of them the demand is false of our engine. For each a history is shown in
-- which the others hold, and the later packet gets another mover. Of the one about ends the first half is needed; the second isn't.
use Prim.Native.Nat.{ℕ}
use mathlib.Core.Bool.{true, false}
use mathlib.Core.List.{List, [], ◌∷◌, ◌++◌}
use mathlib.Core.Logic.{◌≢◌}
use mathlib.Core.Path.{◌≡◌, refl, sym, ◌∙◌}
use native.Mathlib.Omega.{arith}
use Rattle.sets.specs.Sets.{member}
use Rattle.sets.proofs.Cases.{clash}
use Rattle.sets.proofs.Members.{member_tail}
use Rattle.roster.specs.Roster.{working, state_of, held_servers, working_set}
use Rattle.rules.specs.Answer.{accepts}
use Rattle.rules.specs.Rules.{World}
use Rattle.claims_histories.specs.Histories.{start_accepted, AllBytes}
use Rattle.claims_demands.specs.Demands.{Engine, ours, Throughout, FewerThanTwo, NoneWithout, Provisos, Steady}
use Rattle.claims_demands.proofs.Steady.{ends_enough}
use Rattle.claims_examples.proofs.Examples.{computed, lent, enters, leaves, stands, keyed, packet_of, end_of, two, two_and_standby}

-- what holds throughout in two respects
pairwise : (Q R : List (List ℕ) → List ℕ → Type 0) (between h : List (List ℕ)) → Throughout Q between h → Throughout R between h
    → Throughout (λ g bytes. Q g bytes × R g bytes) between h
pairwise Q R [] h q r = tt
pairwise Q R (bytes ∷ between) h q r = ((q.0, r.0), pairwise Q R between h q.1 r.1)

-- the provisos one by one, of an engine, the history before the earlier packet, that packet, its key and mover, and the records between
module _ (E : Engine) (h : List (List ℕ)) (earlier key : List ℕ) (m : ℕ) (between : List (List ℕ)) where
  abbrev pub Worked : Type 0
  Worked = Throughout (λ g bytes. state_of m (E.roster (bytes ∷ g)) ≡ working) between (earlier ∷ h)

  abbrev pub Fewer : Type 0
  Fewer = Throughout (FewerThanTwo E key) between (earlier ∷ h)

  abbrev pub Without : Type 0
  Without = Throughout (NoneWithout E key) between (earlier ∷ h)

  abbrev pub Held : Type 0
  Held =
      Throughout
      (λ g bytes. (x : ℕ) → member x (working_set (E.roster (bytes ∷ g))) ≡ true → member x (working_set (E.roster g)) ≡ false
      → member x (held_servers (E.roster h)) ≡ true)
      between
      (earlier ∷ h)

  abbrev pub Roomy : Type 0
  Roomy = (E.says h earlier).mark ≢ 4

  -- together they are demand 3's
  pub together : Worked → Fewer → Without → Held → Roomy → Provisos E h earlier key m between
  together a b c d e =
      record { worked = a; ends = pairwise (FewerThanTwo E key) (NoneWithout E key) between (earlier ∷ h) b c; held = d; room_told = e }

  -- and without one of them, or without a half of the one about ends
  abbrev pub ButWorked : Type 0
  ButWorked = Fewer × Without × Held × Roomy

  abbrev pub ButEnds : Type 0
  ButEnds = Worked × Held × Roomy

  abbrev pub ButFewer : Type 0
  ButFewer = Worked × Without × Held × Roomy

  abbrev pub ButWithout : Type 0
  ButWithout = Worked × Fewer × Held × Roomy

  abbrev pub ButHeld : Type 0
  ButHeld = Worked × Fewer × Without × Roomy

  abbrev pub ButRoomy : Type 0
  ButRoomy = Worked × Fewer × Without × Held

-- it fails where two packets of key 1 get a and then b, while Q holds
module _ (E : Engine) (Q : List (List ℕ) → List ℕ → List ℕ → ℕ → List (List ℕ) → Type 0) (h between : List (List ℕ)) (a b : ℕ) where
  pub refuted : AllBytes (packet_of 1 ∷ (between ++ (packet_of 1 ∷ h))) → (E.says h (packet_of 1)).accepted ≡ true
      → (E.says h (packet_of 1)).server ≡ a → (E.says (between ++ (packet_of 1 ∷ h)) (packet_of 1)).server ≡ b → b ≢ a
      → Q h (packet_of 1) (keyed 1) a between
      → Steady Q E → ⊥
  unfolding computed
  refuted bytes ok first second n q d =
      n (sym second ∙ (d h between (packet_of 1) (packet_of 1) (keyed 1) bytes refl refl ok (rw first q)).same ∙ first)

-- "provided that mover worked throughout": 2 and 3 work, and the packet gets 2; then 2 leaves work, and the later packet gets 3
pub worked_needed : Steady (ButWorked (ours (lent 2))) (ours (lent 2)) → ⊥
unfolding computed
worked_needed =
    refuted (ours (lent 2)) (ButWorked (ours (lent 2))) (enters 3 ∷ stands 3 ∷ two) (leaves 2 ∷ []) 2 3
    (refl, (refl, (refl, (refl, (refl, (refl, (refl, (refl, tt))))))))
    refl
    refl
    refl
    (λ q. omega arith) (
      (λ q n. clash q refl, tt),
      (λ q. clash q refl, tt),
      (λ x m n. member_tail x 2 (3 ∷ []) m, tt),
      λ q. let z : ◌≡◌ {A = ℕ} 2 4 = q in omega arith,
    )

-- "fewer than two since the key's record was written": the packet gets 2 and is recorded; then the key is ended twice, each time with its record
-- there, and 4 enters from the horizon, and the later packet gets 4
pub fewer_needed : Steady (ButFewer (ours (lent 2))) (ours (lent 2)) → ⊥
unfolding computed
fewer_needed =
    refuted (ours (lent 2)) (ButFewer (ours (lent 2))) two_and_standby (enters 4 ∷ end_of 1 ∷ end_of 1 ∷ []) 2 4
    (refl, (refl, (refl, (refl, (refl, (refl, (refl, (refl, (refl, tt)))))))))
    refl
    refl
    refl
    (λ q. omega arith) (
      (refl, (refl, (refl, tt))),
      (
        λ q. clash q refl,
        (λ q n. let z : ◌≡◌ {A = ℕ} 5 6 = n in omega arith, (λ q n. let z : ◌≡◌ {A = ℕ} 8 6 = n in omega arith, tt)),
      ),
      (λ x m n. m, (λ x m n. clash m n, (λ x m n. clash m n, tt))),
      λ q. let z : ◌≡◌ {A = ℕ} 3 4 = q in omega arith,
    )

-- so the proviso about ends can't be dropped
pub ends_needed : Steady (ButEnds (ours (lent 2))) (ours (lent 2)) → ⊥
ends_needed d =
    fewer_needed (λ h between earlier later key b p₁ p₂ a (worked, without, held, roomy). d h between earlier later key b p₁ p₂ a (worked, held, roomy))

-- "and none for a key without one" isn't: such an end changes nothing
pub without_unneeded : (w : World) → start_accepted w ≡ true → Steady (ButWithout (ours w)) (ours w)
without_unneeded w s h between earlier later key b p₁ p₂ a (worked, fewer, held, roomy) =
    ends_enough w s h between earlier later key b p₁ p₂ a (record { worked = worked; ends = fewer; held = held; room_told = roomy })

-- "every mover brought into work between them was already working or in the horizon at the earlier packet": the packet gets 2, safely; then
-- 4, unknown so far, comes into the horizon and into work, and the later packet gets 4
pub held_needed : Steady (ButHeld (ours (lent 2))) (ours (lent 2)) → ⊥
unfolding computed
held_needed =
    refuted (ours (lent 2)) (ButHeld (ours (lent 2))) two (enters 4 ∷ stands 4 ∷ []) 2 4
    (refl, (refl, (refl, (refl, (refl, (refl, (refl, tt)))))))
    refl
    refl
    refl
    (λ q. omega arith) (
      (refl, (refl, tt)),
      (λ q n. clash q refl, (λ q n. clash q refl, tt)),
      (λ q. clash q refl, (λ q. clash q refl, tt)),
      λ q. let z : ◌≡◌ {A = ℕ} 2 4 = q in omega arith,
    )

-- "the earlier packet wasn't told there was no room": another key has the table's only record, so the packet gets 2 and is told; then 4
-- enters from the horizon, and the later packet gets 4
pub room_needed : Steady (ButRoomy (ours (lent 1))) (ours (lent 1)) → ⊥
unfolding computed
room_needed =
    refuted (ours (lent 1)) (ButRoomy (ours (lent 1))) (packet_of 7 ∷ two_and_standby) (enters 4 ∷ []) 2 4
    (refl, (refl, (refl, (refl, (refl, (refl, (refl, (refl, tt))))))))
    refl
    refl
    refl
    (λ q. omega arith) (
      (refl, tt),
      (λ q n. clash q refl, tt),
      (λ q. clash q refl, tt),
      (λ x m n. m, tt),
    )

-- what the two packets are told in each of the four
pub told_each : ((ours (lent 2)).says (enters 3 ∷ stands 3 ∷ two) (packet_of 1) ≡ accepts 2 2 0)
    × ((ours (lent 2)).says (leaves 2 ∷ packet_of 1 ∷ enters 3 ∷ stands 3 ∷ two) (packet_of 1) ≡ accepts 3 3 0)
    × ((ours (lent 2)).says two_and_standby (packet_of 1) ≡ accepts 2 3 0)
    × ((ours (lent 2)).says (enters 4 ∷ end_of 1 ∷ end_of 1 ∷ packet_of 1 ∷ two_and_standby) (packet_of 1) ≡ accepts 4 2 0)
    × ((ours (lent 2)).says two (packet_of 1) ≡ accepts 2 2 0)
    × ((ours (lent 2)).says (enters 4 ∷ stands 4 ∷ packet_of 1 ∷ two) (packet_of 1) ≡ accepts 4 2 0)
    × ((ours (lent 1)).says (packet_of 7 ∷ two_and_standby) (packet_of 1) ≡ accepts 2 4 1)
    × ((ours (lent 1)).says (enters 4 ∷ packet_of 1 ∷ packet_of 7 ∷ two_and_standby) (packet_of 1) ≡ accepts 4 2 1)
unfolding computed
told_each = (refl, refl, refl, refl, refl, refl, refl, refl)
