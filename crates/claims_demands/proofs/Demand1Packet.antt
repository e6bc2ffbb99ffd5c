-- Demand 1 at packets and ends: the key's record, what the method gives, refusal 8 and the marks.
use Prim.Native.Nat.{ℕ, ◌-◌, ◌%◌, ◌^◌, ◌<◌, ◌≤◌}
use mathlib.Core.Bool.{true, false, not}
use mathlib.Core.List.{List, []}
use mathlib.Core.Logic.{◌≢◌, ⊎_elim}
use mathlib.Core.Path.{◌≡◌, refl}
use native.Mathlib.Omega.{arith}
use lib.Dec.{eqb, ltb}
use lib.ListN.{get_or}
use borrow.Author.Tests.{eq-eqb, ne_eqb, ltb-true, ltb-false}
use Rattle.sets.specs.Sets.{member}
use Rattle.sets.proofs.Cases.{both, clash}
use Rattle.spans.specs.Spans.{same}
use Rattle.spans.proofs.Scans.{same_equal, same_self}
use Rattle.hash.specs.Hash.{F}
use Rattle.ranking.specs.declared.Pick.{Pick}
use Rattle.ranking.specs.Ranking.{Ranking, choice, outranked, unsafe}
use Rattle.ranking.specs.Methods.{hrw}
use Rattle.ranking.proofs.Choice.{choice-member, outranked_by, outranked-none}
use Rattle.ranking.proofs.Instances.{hrw_strict}
use Rattle.ranking.proofs.Unsafe.{unsafe-outranked}
use Rattle.settings.proofs.Cases.{valid-cases}
use Rattle.roster.specs.declared.Roster.{Roster}
use Rattle.roster.specs.Roster.{sound, state_of, working_set, horizon}
use Rattle.roster.proofs.Form.{sound_parts}
use Rattle.roster.proofs.Sets.{working_state}
use Rattle.table.specs.Table.{key_of, used_part, used, room, find, server_at}
use Rattle.table.proofs.Records.{used_within}
use Rattle.table.proofs.Finds.{found_from, found_first, missing_none, missing_reads}
use Rattle.rows.specs.Rows.{row_read}
use Rattle.ring.specs.Ring.{entry_read}
use Rattle.ringplan.specs.Plan.{some}
use Rattle.ringplan.proofs.Members.{some-member}
use Rattle.rules.specs.Answer.{Answer, accepts}
use Rattle.rules.specs.Rules.{World, Change, target, pick_by, packet, end}
use Rattle.rules.proofs.Ends.{Ends, first, next, nothing, ends}
use Rattle.table.proofs.HalfClosed.{tag_cases}
use Rattle.claims_demands.specs.Causes.{kind_in, key_in, HasKey, RecordAt, NoRecord, SomeOutranks, Given, by_choice, from_ring, from_row, LedAstray, by_record, by_row, by_entry}
use Rattle.claims_demands.specs.Demand1.{safe, recorded, no_room, known, chosen, first as first-end, next as next_end, nothing as no_record, MarkRight, packet as packet_event, end as end_event}
use Rattle.claims_demands.proofs.Demand1Lent.{Tells, yes, no, tells_not, tells_eqb, told, denied}

-- ---- the key's record
module _ (key t : List ℕ) where
  other_key : (i : ℕ) → same (key_of (get_or (used_part t) i [])) key ≡ false → HasKey key t i → ⊥
  other_key i f (within, q) =
      let y : same (key_of (get_or (used_part t) i [])) key ≡ true = rw q (same_self key) in
      clash y f

  found_at : (find key t).found ≡ true → RecordAt key t (find key t).reads
  found_at f =
      let p = found_first key t f in
      record {
        counted = found_from key t f;
        here = (p.within, same_equal _ key p.here);
        first = λ i h. other_key i (p.none_before i h);
      }

  missing_at : (find key t).found ≡ false → NoRecord key t
  missing_at f i (within, q) = other_key i (missing_none key t f i within) (within, q)

  pub record_one : (a b : ℕ) → RecordAt key t a → RecordAt key t b → a ≡ b
  record_one a b p q =
      both (ltb a b)
      (λ l. absurd (q.first (a - 1) (omega (arith, ltb-true a b l, p.counted)) p.here))
      (λ l.
      both (ltb b a)
      (λ g. absurd (p.first (b - 1) (omega (arith, ltb-true b a g, q.counted)) q.here))
      (λ g. omega (arith, ltb-false a b l, ltb-false b a g)))

-- ---- what the method gives
module _ (key : List ℕ) (w : World) (so : sound w.state.roster ≡ true) where
  abbrev r : Roster
  r = w.state.roster

  abbrev pick : Pick
  pick = pick_by (F key) (entry_read r.held (F key) w.ring) w.state

  abbrev R : Ranking
  R = hrw (F key % 2 ^ 31)

  outranks_told : some (working_set r) ≡ true → Tells (SomeOutranks R r) (unsafe R (working_set r) (horizon r))
  outranks_told e =
      let (s, m) = some-member (working_set r) e in
      let c = choice R (working_set r) in
      rw (unsafe-outranked R (hrw_strict (F key % 2 ^ 31)) s (working_set r) (horizon r) m)
      (both (outranked R c (horizon r))
      (λ u. rw u (yes (outranked_by R c (horizon r) u)))
      (λ u. rw u (no (λ (h, i, o). clash o (outranked-none R c h (horizon r) u i)))))

  not2 : r.settings.method ≢ 2 → eqb r.settings.method 2 ≡ false
  not2 = ne_eqb r.settings.method 2

  not3 : r.settings.method ≢ 3 → eqb r.settings.method 3 ≡ false
  not3 = ne_eqb r.settings.method 3

  -- which server, and whether its flag says that the choice is unsafe
  record Gives (p : Pick) : Type 1 where
    pub Unsafe : Type 0
    pub given : Given key w p.server Unsafe
    pub flagged : Tells Unsafe p.flag

  gives_1 : some (working_set r) ≡ true → r.settings.method ≡ 1 → Gives pick
  unfolding pick_by
  gives_1 e m = rw (not3 (omega arith), not2 (omega arith)) (record { Unsafe = SomeOutranks R r; given = by_choice m; flagged = outranks_told e })

  gives_2 : r.settings.method ≡ 2 → Gives pick
  unfolding pick_by
  gives_2 m =
      let e = entry_read r.held (F key) w.ring in
      rw (not3 (omega arith), eq-eqb r.settings.method 2 m) (record { Unsafe = e.track ≢ 0; given = from_ring m e refl; flagged = tells_not (tells_eqb e.track 0) })

  gives_3 : r.settings.method ≡ 3 → 1 ≤ r.settings.rows → Gives pick
  unfolding pick_by row_read
  gives_3 m l =
      let row = F key % r.settings.rows in
      rw (eq-eqb r.settings.method 3 m, ne_eqb r.settings.rows 0 (omega arith))
      (record {
        Unsafe = get_or w.state.flags row 0 ≢ 0;
        given = from_row m row refl;
        flagged = tells_not (tells_eqb (get_or w.state.flags row 0) 0);
      })

  gives : some (working_set r) ≡ true → Gives pick
  gives e =
      valid-cases r.settings (sound_parts r so).settings_valid (λ m _. gives_1 e m) (λ m _. gives_2 m) (λ m l _. gives_3 m l)

  -- ---- refusal 8
  abbrev t : List ℕ
  t = w.state.table

  record_fine : (find key t).found ≡ true → member (server_at (find key t).reads t) (working_set r) ≡ true → LedAstray key w → ⊥
  record_fine f m (by_record place p n) = clash m (rw (record_one key t place (find key t).reads p (found_at key t f)) at n)
  record_fine f m (by_row none _ _) = none _ (found_at key t f).here
  record_fine f m (by_entry none _ _) = none _ (found_at key t f).here

  read_fine : (find key t).found ≡ false
      → (r.settings.method ≡ 2 → member (entry_read r.held (F key) w.ring).server (working_set r) ≡ true)
      → (r.settings.method ≡ 3 → member (get_or w.state.rows (F key % r.settings.rows) 0) (working_set r) ≡ true)
      → LedAstray key w → ⊥
  read_fine f two three (by_record place p n) = missing_at key t f (place - 1) p.here
  read_fine f two three (by_row none m n) = clash (three m) n
  read_fine f two three (by_entry none m n) = clash (two m) n

  record_told : (find key t).found ≡ true → Tells (LedAstray key w) (not (member (server_at (find key t).reads t) (working_set r)))
  record_told f =
      both (member (server_at (find key t).reads t) (working_set r))
      (λ m. rw m (no (record_fine f m)))
      (λ m. rw m (yes (by_record _ (found_at key t f) m)))

  -- HRW's choice works; a row or an entry may name anything
  read_told : (find key t).found ≡ false → some (working_set r) ≡ true → Tells (LedAstray key w) (not (member pick.server (working_set r)))
  unfolding pick_by row_read
  read_told f e =
      let (s, i) = some-member (working_set r) e in
      valid-cases r.settings (sound_parts r so).settings_valid
      (λ m _.
      rw (not3 (omega arith), not2 (omega arith), choice-member R (hrw_strict (F key % 2 ^ 31)) s (working_set r) i)
      (no (read_fine f (λ q. absurd (omega arith)) (λ q. absurd (omega arith)))))
      (λ m _.
      both (member (entry_read r.held (F key) w.ring).server (working_set r))
      (λ y. rw (not3 (omega arith), eq-eqb r.settings.method 2 m, y) (no (read_fine f (λ _. y) (λ q. absurd (omega arith)))))
      (λ n. rw (not3 (omega arith), eq-eqb r.settings.method 2 m, n) (yes (by_entry (missing_at key t f) m n))))
      (λ m l _.
      let some-rows : eqb r.settings.rows 0 ≡ false = ne_eqb r.settings.rows 0 (omega arith) in
      both (member (get_or w.state.rows (F key % r.settings.rows) 0) (working_set r))
      (λ y. rw (eq-eqb r.settings.method 3 m, some-rows, y) (no (read_fine f (λ q. absurd (omega arith)) (λ _. y))))
      (λ n. rw (eq-eqb r.settings.method 3 m, some-rows, n) (yes (by_row (missing_at key t f) m n))))

  pub astray_told : some (working_set r) ≡ true → Tells (LedAstray key w) (not (eqb (state_of (target (find key t) pick w.state) r) 1))
  astray_told e =
      rw (← (working_state r so (target (find key t) pick w.state)))
      (both (find key t).found (λ f. rw f (record_told f)) (λ f. rw f (read_told f e)))

-- ---- the marks
pub data Marked (bytes : List ℕ) (w : World) : Answer → Type 1 where
  marked : (s mark reads : ℕ) → MarkRight (kind_in bytes) (key_in bytes) w s mark reads → Marked bytes w (accepts s mark reads)

module _ (bytes : List ℕ) (w : World) where
  abbrev key : List ℕ
  key = key_in bytes

  abbrev table : List ℕ
  table = w.state.table

  pub packet_marked : (so : sound w.state.roster ≡ true) → kind_in bytes ≡ 1 → some (working_set w.state.roster) ≡ true
      → Marked bytes w (packet key (find key table) (pick key w so) w.state).answer
  unfolding packet
  packet_marked so k e =
      let g = gives key w so e in
      let p = pick key w so in
      both (find key table).found (λ f. rw f (marked _ _ _ (packet_event k _ _ _ (known _ (found_at key table f))))) (λ f.
      let n = missing_at key table f in
      let all : (find key table).reads ≡ used table = missing_reads key table f in
      both p.flag
      (λ u.
      let unsafe = told (rw u at g.flagged) in
      both (ltb (find key table).reads (room table))
      (λ h.
      let fits : used table < room table = omega (arith, ltb-true (find key table).reads (room table) h) in
      rw (f, u, h, all) (marked _ _ _ (packet_event k _ _ _ (chosen n _ _ g.Unsafe g.given (recorded unsafe fits)))))
      (λ h.
      let full : used table ≡ room table = omega (arith, ltb-false (find key table).reads (room table) h, used_within table) in
      rw (f, u, h, all) (marked _ _ _ (packet_event k _ _ _ (chosen n _ _ g.Unsafe g.given (no_room unsafe full))))))
      (λ u.
      rw (f, u, all)
      (marked _ _ _ (packet_event k _ _ _ (chosen n _ _ g.Unsafe g.given (safe (denied (rw u at g.flagged))))))))

  ended_marked : kind_in bytes ≡ 2 → {c : Change} → Ends (find key table) w.state c → Marked bytes w c.answer
  ended_marked k (first f tag) = marked _ _ _ (end_event k _ _ (first-end _ (found_at key table f) tag))
  ended_marked k (next f tag) = marked _ _ _ (end_event k _ _ (next_end _ (found_at key table f) (⊎_elim (λ one. absurd (tag one)) (λ two. two) (tag_cases key table f))))
  ended_marked k (nothing f) = rw (missing_reads key table f) (marked _ _ _ (end_event k _ _ (no_record (missing_at key table f))))

  pub end_marked : kind_in bytes ≡ 2 → Marked bytes w (end (find key table) w.state).answer
  end_marked k = ended_marked k (ends (find key table) w.state)
