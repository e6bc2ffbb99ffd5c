-- Two more impostors that demand 2 turns away: the balancer that removes a record at its first end, and the one that never removes it. Each at
-- any event of any history; and, with room for a record, a history shows each of them.
use Prim.Native.Nat.{ℕ, suc, ◌-◌, ◌<◌, ◌≤◌}
use mathlib.Core.Bool.{true, false}
use mathlib.Core.List.{List, [], ◌∷◌}
use mathlib.Core.Logic.{◌≢◌, ◌⊎◌, inl, inr, ⊎_elim}
use mathlib.Core.Path.{◌≡◌, refl, ap, ◌∙◌}
use native.Mathlib.Omega.{arith}
use lib.ListN.{length}
use Rattle.sets.proofs.Cases.{clash}
use Rattle.event.specs.Event.{all_bytes, asks_key, event_in}
use Rattle.event.proofs.Reading.{end_reads}
use Rattle.table.specs.Table.{Finding, used_part, used, find_among, find, tag_at, new_record, without, removed, half_closed}
use Rattle.table.proofs.HalfClosed.{half_record, half_at, used_half, used_stays, find_half}
use Rattle.table.proofs.Records.{used-removed, tag_used}
use Rattle.table.proofs.InBytes.{one_less}
use Rattle.table.proofs.Finds.{found_from, found_first}
use Rattle.rules.specs.Answer.{Answer}
use Rattle.claims_histories.specs.Histories.{AllBytes}
use Rattle.claims_demands.specs.Demands.{Engine, Demand2}
use Rattle.claims_demands.proofs.Same.{first-end, next_end}
use Rattle.claims_demands.proofs.Witness.{key_p, packet_p, end_p, waiting, joined_bytes, written_part, written-find}

-- a key's record taken away leaves fewer
removed_fewer : (key t : List ℕ) → (find key t).found ≡ true → used (removed (find key t).reads t) < used t
removed_fewer key t f =
    let p : suc ((find key t).reads - 1) ≡ (find key t).reads = omega (arith, found_from key t f) in
    let within = (found_first key t f).within in
    let less : length (without (find key t).reads (used_part t)) ≡ used t - 1 = rw p at (one_less ((find key t).reads - 1) (used_part t) within) in
    rw (used-removed t (find key t).reads) (omega (arith, less, within))

-- ---- at any event
module _ (n : ℕ) (E : Engine) (d : Demand2 n E) (h : List (List ℕ)) (bytes key : List ℕ) (b : AllBytes (bytes ∷ h)) (e : event_in bytes ≡ asks_key 2 key)
    (f : (find key (E.table h)).found ≡ true) where
  abbrev place : ℕ
  place = (find key (E.table h)).reads

  -- one that removes at the first end: it says so, or the key has no record afterwards, or fewer records are used
  pub not_ending_early : tag_at place (E.table h) ≡ 1
      → ((E.says h bytes).mark ≡ 5) ⊎ (((find key (E.table (bytes ∷ h))).found ≡ false) ⊎ (used (E.table (bytes ∷ h)) < used (E.table h))) → ⊥
  not_ending_early one =
      let (a, t) = first-end n E d h bytes b key e f one in
      ⊎_elim (λ m. omega (arith, m, ap (λ (x : Answer). x.mark) a))
      (⊎_elim
      (λ g. clash (ap (λ (x : Finding). x.found) (ap (find key) t ∙ find_half key (E.table h) place) ∙ f) g)
      (λ l. omega (arith, l, ap used t ∙ used_stays (E.table h) place)))

  -- one that only tags at the second: it says so, or as many records are used afterwards
  pub not_keeping : tag_at place (E.table h) ≢ 1 → ((E.says h bytes).mark ≢ 5) ⊎ (used (E.table h) ≤ used (E.table (bytes ∷ h))) → ⊥
  not_keeping other =
      let (a, t) = next_end n E d h bytes b key e f other in
      ⊎_elim (λ m. m (ap (λ (x : Answer). x.mark) a))
      (λ l. omega (arith, l, ap used t, removed_fewer key (E.table h) f))

-- ---- and there is a history that shows each
module _ (n : ℕ) (E : Engine) (d : Demand2 n E) (room : 20 ≤ n) where
  abbrev one : List (List ℕ)
  one = packet_p ∷ waiting

  one_bytes : AllBytes one
  unfolding all_bytes
  one_bytes = (refl, joined_bytes.1)

  one_found : (find key_p (E.table one)).found ≡ true
  one_found = ap (λ (x : Finding). x.found) (written-find n E d room)

  one_tag : tag_at (find key_p (E.table one)).reads (E.table one) ≡ 1
  one_tag =
      let u : used (E.table one) ≡ 1 = ap length (written_part n E d room) in
      rw (written-find n E d room) (tag_used (E.table one) 1 (omega arith) (omega arith) ∙ rw (written_part n E d room))

  end_bytes : AllBytes (end_p ∷ one)
  unfolding all_bytes
  end_bytes = (refl, one_bytes)

  -- one that leaves no key with a record at its end
  pub not_removing_first : ((h : List (List ℕ)) (bytes key : List ℕ) → AllBytes (bytes ∷ h) → event_in bytes ≡ asks_key 2 key
      → (find key (E.table h)).found ≡ true → (find key (E.table (bytes ∷ h))).found ≡ false) → ⊥
  not_removing_first all =
      let e = end_reads key_p refl in
      not_ending_early n E d one end_p key_p end_bytes e one_found one_tag (inr (inl (all one end_p key_p end_bytes e one_found)))

  -- after one end of P its record is there, half-closed, and after two it isn't
  once_table : E.table (end_p ∷ one) ≡ half_closed 1 (E.table one)
  once_table =
      (first-end n E d one end_p end_bytes key_p (end_reads key_p refl) one_found one_tag).1
      ∙ ap (λ (x : Finding). half_closed x.reads (E.table one)) (written-find n E d room)

  once-find : find key_p (E.table (end_p ∷ one)) ≡ record { found = true; reads = 1 }
  once-find = ap (find key_p) once_table ∙ find_half key_p (E.table one) 1 ∙ written-find n E d room

  once_part : used_part (E.table (end_p ∷ one)) ≡ half_record (new_record key_p 1) ∷ []
  once_part = ap used_part once_table ∙ used_half (E.table one) 1 ∙ ap (half_at 1) (written_part n E d room)

  once_tag : tag_at (find key_p (E.table (end_p ∷ one))).reads (E.table (end_p ∷ one)) ≡ 2
  once_tag =
      let u : used (E.table (end_p ∷ one)) ≡ 1 = ap length once_part in
      rw once-find (tag_used (E.table (end_p ∷ one)) 1 (omega arith) (omega arith) ∙ rw once_part)

  twice_part : used_part (E.table (end_p ∷ end_p ∷ one)) ≡ []
  unfolding without all_bytes
  twice_part =
      let t = E.table (end_p ∷ one) in
      let (a, gone) = next_end n E d (end_p ∷ one) end_p (refl, end_bytes) key_p (end_reads key_p refl) (rw once-find) (λ q. omega (arith, q, once_tag)) in
      ap used_part gone
      ∙ used-removed t (find key_p t).reads
      ∙ ap (λ (x : Finding). without x.reads (used_part t)) once-find
      ∙ rw once_part

  twice_find : (find key_p (E.table (end_p ∷ end_p ∷ one))).found ≡ false
  unfolding find find_among
  twice_find = rw twice_part

  -- one that keeps the record of a key at each of its ends
  pub not_tagging_only : ((h : List (List ℕ)) (bytes key : List ℕ) → AllBytes (bytes ∷ h) → event_in bytes ≡ asks_key 2 key
      → (find key (E.table h)).found ≡ true → (find key (E.table (bytes ∷ h))).found ≡ true) → ⊥
  unfolding all_bytes
  not_tagging_only all =
      clash (all (end_p ∷ one) end_p key_p (refl, end_bytes) (end_reads key_p refl) (ap (λ (x : Finding). x.found) once-find)) twice_find
