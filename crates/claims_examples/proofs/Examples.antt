-- Histories of explicit 16-byte records under our engine, by computation: what the examples share, and one that meets demand 3's provisos while
-- a standby joins. They go by method 3 with one row, which ranks the servers alike for every key.
use Prim.Native.Nat.{ℕ, ◌*◌, ◌%◌}
use mathlib.Core.Bool.{true}
use mathlib.Core.List.{List, [], ◌∷◌, ◌++◌}
use mathlib.Core.Path.{◌≡◌, refl, ◌∙◌}
use native.Mathlib.Omega.{arith}
use lib.ListN.{replicate}
use Rattle.sets.specs.Sets.{in_state}
use Rattle.sets.proofs.Cases.{clash}
use Rattle.spans.specs.Spans.{same, all_zero}
use Rattle.hash.specs.Hash.{stir, stir_all, F, weight}
use Rattle.ranking.specs.Methods.{in_row}
use Rattle.settings.specs.Settings.{valid, well_formed}
use Rattle.lists.specs.Lists.{rising, all_stated, before, put_in}
use Rattle.roster.specs.Roster.{working, standby, state_of, empty_roster, sound, state_in, restated, added_horizon}
use Rattle.event.specs.Event.{event_in, by_kind, asks_server, asks_settings, all_bytes}
use Rattle.table.specs.Table.{used_tag, first_records, records_of, used_among, used_part, find_among, find, server_at, tag_at, bytes_of, written_after, packed, without, removed, half_closed, not_naming, removed_server}
use Rattle.rows.specs.Rows.{up_to, written, filled, cleared, row_read}
use Rattle.ring.specs.Ring.{blank}
use Rattle.rules.specs.Answer.{accepts}
use Rattle.rules.specs.Rules.{World, sizes_right, lent_bar, admitted, barred, packet, end, refilled, effect, judged, pick_by, event_of, start_of}
use Rattle.claims_histories.specs.Histories.{start_accepted, after, AllBytes, ranking_for}
use Rattle.claims_demands.specs.Demands.{ours, ends_since, Provisos}
use Rattle.claims_demands.proofs.Steady.{ours_steady}

-- all that a history under one row computes by
unfoldable pub computed : Unit {0}
unfolding ends_since after start_of event_of lent_bar admitted judged barred effect packet end sizes_right refilled pick_by event_in by_kind asks_server asks_settings all_bytes well_formed valid all_zero same sound rising all_stated in_state state_in restated before put_in added_horizon used_tag first_records records_of used_among used_part find_among find server_at tag_at bytes_of written_after packed without removed half_closed not_naming removed_server up_to written filled cleared row_read weight F stir_all stir
computed = tt

-- lent buffers of the right sizes, all zero, with room for n records
abbrev pub lent : ℕ → World
lent n =
    record {
      state = record { table = replicate (n * 20) 0; rows = replicate 4096 0; flags = replicate 4096 0; roster = empty_roster };
      ring = replicate 64 blank;
    }

-- the records: method 3 with one row; a kind and a server; a kind and a key
abbrev pub one_row : List ℕ
one_row = 7 ∷ 0 ∷ 0 ∷ 3 ∷ 0 ∷ 1 ∷ replicate 10 0

abbrev pub naming : ℕ → ℕ → List ℕ
naming kind s = kind ∷ 0 ∷ 0 ∷ 0 ∷ 0 ∷ 0 ∷ s ∷ replicate 9 0

abbrev pub enters : ℕ → List ℕ
enters s = naming 3 s

abbrev pub leaves : ℕ → List ℕ
leaves s = naming 4 s

abbrev pub stands : ℕ → List ℕ
stands s = naming 5 s

abbrev pub keyed : ℕ → List ℕ
keyed k = replicate 13 k

abbrev pub packet_of : ℕ → List ℕ
packet_of k = 1 ∷ 0 ∷ 0 ∷ keyed k

abbrev pub end_of : ℕ → List ℕ
end_of k = 2 ∷ 0 ∷ 0 ∷ keyed k

-- in row 0, and so for any key under one row, 4 outranks 2, 2 outranks 3, and 3 outranks 1
row_ranks : (in_row 0 4 2 ≡ true) × (in_row 0 2 3 ≡ true) × (in_row 0 3 1 ≡ true)
unfolding weight
row_ranks = (refl, refl, refl)

pub one_row_ranks : (key : List ℕ) → (ranking_for (record { method = 3; rows = 1 }) key 4 2 ≡ true)
    × (ranking_for (record { method = 3; rows = 1 }) key 2 3 ≡ true)
    × (ranking_for (record { method = 3; rows = 1 }) key 3 1 ≡ true)
one_row_ranks key = let z : F key % 1 ≡ 0 = omega arith in rw z row_ranks

-- server 2 works, and no other is held; the same with 4 in the horizon
abbrev pub two : List (List ℕ)
two = enters 2 ∷ stands 2 ∷ one_row ∷ []

abbrev pub two_and_standby : List (List ℕ)
two_and_standby = stands 4 ∷ two

-- demand 3 applied to two packets of key 1, of which the earlier got m
pub covered : (n m : ℕ) (h between : List (List ℕ)) → start_accepted (lent n) ≡ true → AllBytes (packet_of 1 ∷ (between ++ (packet_of 1 ∷ h)))
    → ((ours (lent n)).says h (packet_of 1)).accepted ≡ true → ((ours (lent n)).says h (packet_of 1)).server ≡ m
    → Provisos (ours (lent n)) h (packet_of 1) (keyed 1) m between
    → (((ours (lent n)).says (between ++ (packet_of 1 ∷ h)) (packet_of 1)).accepted ≡ true)
    × (((ours (lent n)).says (between ++ (packet_of 1 ∷ h)) (packet_of 1)).server ≡ m)
unfolding computed
covered n m h between starts bytes ok first v =
    let s = (ours_steady (lent n) starts).steady h between (packet_of 1) (packet_of 1) (keyed 1) bytes refl refl ok (rw first v) in
    (s.accepted, s.same ∙ first)

-- ---- a standby joins between two packets of a key, which is recorded

-- between them come a malformed record, the end of another key, and 4 from the horizon into work
abbrev joins : List (List ℕ)
joins = enters 4 ∷ end_of 9 ∷ (1 ∷ 2 ∷ []) ∷ []

-- the earlier packet gets 2 and is recorded; 4 stands by
pub joins_earlier : ((ours (lent 2)).says two_and_standby (packet_of 1) ≡ accepts 2 3 0)
    × (state_of 4 ((ours (lent 2)).roster two_and_standby) ≡ standby)
unfolding computed
joins_earlier = (refl, refl)

-- the later packet gets 2 from its record, although 4 works by then and a packet of a key without a record gets 4
pub joins_later : ((ours (lent 2)).says (joins ++ (packet_of 1 ∷ two_and_standby)) (packet_of 1) ≡ accepts 2 1 1)
    × (state_of 4 ((ours (lent 2)).roster (joins ++ (packet_of 1 ∷ two_and_standby))) ≡ working)
    × ((ours (lent 2)).says (joins ++ (packet_of 1 ∷ two_and_standby)) (packet_of 5) ≡ accepts 4 2 1)
unfolding computed
joins_later = (refl, refl, refl)

-- and the provisos hold
pub joins_provisos : Provisos (ours (lent 2)) two_and_standby (packet_of 1) (keyed 1) 2 joins
unfolding computed
joins_provisos =
    record {
      worked = (refl, (refl, (refl, tt)));
      ends = (
        (λ q n. clash q refl, λ q. clash q refl),
        ((λ q n. clash q refl, λ q. clash q refl), ((λ q n. clash q refl, λ q. clash q refl), tt)),
      );
      held = (λ x m n. m, (λ x m n. clash m n, (λ x m n. clash m n, tt)));
      room_told = λ q. let z : ◌≡◌ {A = ℕ} 3 4 = q in omega arith;
    }

-- so demand 3 itself says that the mover stays
pub joins_steady : (((ours (lent 2)).says (joins ++ (packet_of 1 ∷ two_and_standby)) (packet_of 1)).accepted ≡ true)
    × (((ours (lent 2)).says (joins ++ (packet_of 1 ∷ two_and_standby)) (packet_of 1)).server ≡ 2)
unfolding computed
joins_steady = covered 2 2 two_and_standby joins refl (refl, (refl, (refl, (refl, (refl, (refl, (refl, (refl, (refl, tt))))))))) refl refl joins_provisos
