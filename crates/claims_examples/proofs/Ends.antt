-- Ends of a key and demand 3, by histories of explicit records: one end between two packets while a standby joins, an end before the first
-- packet, and why the ends are counted since the record was written and not between the two packets.
use Prim.Native.Nat.{ℕ, ◌+◌, ◌<◌}
use mathlib.Core.Bool.{true, cond}
use mathlib.Core.List.{List, [], ◌∷◌, ◌++◌}
use mathlib.Core.Path.{◌≡◌, refl}
use native.Mathlib.Omega.{arith}
use Rattle.sets.proofs.Cases.{clash}
use Rattle.roster.specs.Roster.{working, state_of}
use Rattle.rules.specs.Answer.{accepts}
use Rattle.claims_demands.specs.Demands.{Engine, ours, ended, ends_since, FewerThanTwo, Provisos, Steady}
use Rattle.claims_examples.proofs.Examples.{computed, lent, enters, keyed, packet_of, end_of, two_and_standby, covered}
use Rattle.claims_examples.proofs.Needed.{Worked, Held, Roomy, refuted}

-- ---- one end stands between two packets, and a standby joins

-- the packet gets 2 and is recorded; then the key is ended for the first time, and 4 enters from the horizon
abbrev once : List (List ℕ)
once = enters 4 ∷ end_of 1 ∷ []

pub once_told : ((ours (lent 2)).says two_and_standby (packet_of 1) ≡ accepts 2 3 0)
    × ((ours (lent 2)).says (packet_of 1 ∷ two_and_standby) (end_of 1) ≡ accepts 0 8 1)
    × (state_of 4 ((ours (lent 2)).roster (once ++ (packet_of 1 ∷ two_and_standby))) ≡ working)
    × ((ours (lent 2)).says (once ++ (packet_of 1 ∷ two_and_standby)) (packet_of 1) ≡ accepts 2 1 1)
    × ((ours (lent 2)).says (once ++ (packet_of 1 ∷ two_and_standby)) (packet_of 5) ≡ accepts 4 2 1)
unfolding computed
once_told = (refl, refl, refl, refl, refl)

pub once_provisos : Provisos (ours (lent 2)) two_and_standby (packet_of 1) (keyed 1) 2 once
unfolding computed
once_provisos =
    record {
      worked = (refl, (refl, tt));
      ends = (
        (λ q n. clash q refl, λ q. clash q refl),
        ((λ q n. omega arith, λ q n. let z : ◌≡◌ {A = ℕ} 8 6 = n in omega arith), tt),
      );
      held = (λ x m n. m, (λ x m n. clash m n, tt));
      room_told = λ q. let z : ◌≡◌ {A = ℕ} 3 4 = q in omega arith;
    }

-- so demand 3 says that the mover stays
pub once_steady : (((ours (lent 2)).says (once ++ (packet_of 1 ∷ two_and_standby)) (packet_of 1)).accepted ≡ true)
    × (((ours (lent 2)).says (once ++ (packet_of 1 ∷ two_and_standby)) (packet_of 1)).server ≡ 2)
unfolding computed
once_steady = covered 2 2 two_and_standby once refl (refl, (refl, (refl, (refl, (refl, (refl, (refl, (refl, tt)))))))) refl refl once_provisos

-- ---- an end before the first packet leaves no trace

-- the key is ended without a record; then come its packet, another end and its next packet. That end is the first since the record was written.
abbrev beforehand : List (List ℕ)
beforehand = end_of 1 ∷ two_and_standby

pub beforehand_told : ((ours (lent 2)).says two_and_standby (end_of 1) ≡ accepts 0 6 0)
    × ((ours (lent 2)).table beforehand ≡ (ours (lent 2)).table two_and_standby)
    × ((ours (lent 2)).says beforehand (packet_of 1) ≡ accepts 2 3 0)
    × ((ours (lent 2)).says (packet_of 1 ∷ beforehand) (end_of 1) ≡ accepts 0 8 1)
    × (ends_since (ours (lent 2)) (keyed 1) (end_of 1 ∷ packet_of 1 ∷ beforehand) ≡ 1)
    × ((ours (lent 2)).says (end_of 1 ∷ packet_of 1 ∷ beforehand) (packet_of 1) ≡ accepts 2 1 1)
unfolding computed
beforehand_told = (refl, refl, refl, refl, refl, refl)

pub beforehand_provisos : Provisos (ours (lent 2)) beforehand (packet_of 1) (keyed 1) 2 (end_of 1 ∷ [])
unfolding computed
beforehand_provisos =
    record {
      worked = (refl, tt);
      ends = ((λ q n. omega arith, λ q n. let z : ◌≡◌ {A = ℕ} 8 6 = n in omega arith), tt);
      held = (λ x m n. clash m n, tt);
      room_told = λ q. let z : ◌≡◌ {A = ℕ} 3 4 = q in omega arith;
    }

pub beforehand_steady : (((ours (lent 2)).says (end_of 1 ∷ packet_of 1 ∷ beforehand) (packet_of 1)).accepted ≡ true)
    × (((ours (lent 2)).says (end_of 1 ∷ packet_of 1 ∷ beforehand) (packet_of 1)).server ≡ 2)
unfolding computed
beforehand_steady =
    covered 2 2 beforehand (end_of 1 ∷ []) refl (refl, (refl, (refl, (refl, (refl, (refl, (refl, (refl, tt)))))))) refl refl beforehand_provisos

-- ---- ends count from the writing of the record on, also those before the earlier packet

-- the ends of a key between two packets only
abbrev ends_between : Engine → List ℕ → List (List ℕ) → List (List ℕ) → ℕ
ends_between E key [] h = 0
ends_between E key (bytes ∷ between) h =
    cond (ended E key (between ++ h) bytes) (ends_between E key between h + 1) (ends_between E key between h)

-- demand 3's provisos with these counted instead
abbrev FewerBetween : Engine → List (List ℕ) → List ℕ → List ℕ → ℕ → List (List ℕ) → Type 0
FewerBetween E h earlier key m between =
    Worked E h earlier key m between × (ends_between E key between (earlier ∷ h) < 2) × Held E h earlier key m between × Roomy E h earlier key m between

-- the packet gets 2 and is recorded; the key is ended, 4 enters from the horizon, and a second packet gets 2 from the record; the key is ended
-- again, and a third packet gets 4
abbrev halfway : List (List ℕ)
halfway = enters 4 ∷ end_of 1 ∷ packet_of 1 ∷ two_and_standby

pub halfway_told : ((ours (lent 2)).says halfway (packet_of 1) ≡ accepts 2 1 1)
    × ((ours (lent 2)).says (packet_of 1 ∷ halfway) (end_of 1) ≡ accepts 0 5 1)
    × ((ours (lent 2)).says (end_of 1 ∷ packet_of 1 ∷ halfway) (packet_of 1) ≡ accepts 4 2 0)
unfolding computed
halfway_told = (refl, refl, refl)

pub since_written_needed : Steady (FewerBetween (ours (lent 2))) (ours (lent 2)) → ⊥
unfolding computed
since_written_needed =
    refuted (ours (lent 2)) (FewerBetween (ours (lent 2))) halfway (end_of 1 ∷ []) 2 4
    (refl, (refl, (refl, (refl, (refl, (refl, (refl, (refl, (refl, (refl, tt))))))))))
    refl
    refl
    refl
    (λ q. omega arith) (
      (refl, tt),
      omega arith,
      (λ x m n. clash m n, tt),
      λ q. let z : ◌≡◌ {A = ℕ} 1 4 = q in omega arith,
    )

-- the user's proviso doesn't hold there: that end is the second since the record was written
pub halfway_second : ends_since (ours (lent 2)) (keyed 1) (end_of 1 ∷ packet_of 1 ∷ halfway) ≡ 2
unfolding computed
halfway_second = refl

pub halfway_uncovered : FewerThanTwo (ours (lent 2)) (keyed 1) (packet_of 1 ∷ halfway) (end_of 1) → ⊥
unfolding computed
halfway_uncovered few = let l : 2 < 2 = few refl (λ q. let z : ◌≡◌ {A = ℕ} 5 6 = q in omega arith) in omega arith
