-- Tables in which no used tag stands behind the used part: a new record is the used part's last then, every operation keeps it so, and a
-- start makes it so. In other tables a new record is joined by what stood behind it.
use Prim.Native.Nat.{ℕ, ◌+◌, ◌*◌, ◌^◌, ◌<◌, ◌≤◌}
use mathlib.Core.Bool.{true, false}
use mathlib.Core.List.{List, [], ◌∷◌, ◌++◌, map, map-append, append_assoc, append-nil}
use mathlib.Core.Path.{◌≡◌, refl, sym, ap, ◌∙◌}
use native.Mathlib.Omega.{arith}
use lib.Dec.{ltb}
use lib.ListN.{length, take, drop, replicate, length-drop, take-append-drop}
use lib.Seq.{drop_at, drop-drop, length-take-le}
use borrow.Author.Tests.{lt-ltb, le-ltb, ltb-true, ltb-false}
use Rattle.sets.proofs.Cases.{both, clash}
use Rattle.table.specs.Table.{tag_of, used_tag, first_records, records_of, used_among, used_part, used, room, bytes_of, new_record, written_after, appended, without, removed, not_naming, removed_server, started, Rec, rec_of, entries, none_used, no_stray}
use Rattle.table.proofs.Parts.{Each, Sized, Tagged, each_append, bytes_append, bytes_one, records_append, among_append, used_sized, used_tagged, used_bytes, records_behind}
use Rattle.table.proofs.Packing.{packed_stray, without_each, not_naming_each, started_none}
use Rattle.table.proofs.Records.{new_length, new_used, new_back}

none_tail : (r : List ℕ) (rs : List (List ℕ)) → none_used (r ∷ rs) ≡ true → none_used rs ≡ true
unfolding none_used
none_tail r rs = both (used_tag (tag_of r)) (λ q. rw q (λ e. clash e refl)) (λ q. rw q (λ e. e))

none_among : (rs : List (List ℕ)) → none_used rs ≡ true → used_among rs ≡ []
unfolding none_used used_among
none_among [] = λ e. refl
none_among (r ∷ rs) = both (used_tag (tag_of r)) (λ q. rw q (λ e. clash e refl)) (λ q. rw q (λ e. refl))

-- a place left: behind the used part stands an unused record, and then the rest
next : (t : List ℕ) → 20 ≤ length t → records_of t ≡ take 20 t ∷ records_of (drop 20 t)
next t h =
    let one : Each Sized (take 20 t ∷ []) = (length-take-le 20 t h, tt) in
    let whole : bytes_of (take 20 t ∷ []) ++ drop 20 t ≡ t = rw (bytes_one (take 20 t)) (take-append-drop 20 t) in
    sym (ap records_of whole) ∙ records_append (take 20 t ∷ []) (drop 20 t) one

module _ (t : List ℕ) (clean : no_stray t ≡ true) (left : used t < room t) where
  none_later : none_used (records_of (drop ((used t + 1) * 20) t)) ≡ true
  unfolding no_stray
  none_later =
      let rest = drop (used t * 20) t in
      let m : used t * 20 + 20 ≡ (used t + 1) * 20 = omega arith in
      let n : records_of rest ≡ take 20 rest ∷ records_of (drop ((used t + 1) * 20) t) =
      next rest (rw (length-drop (used t * 20) t) (omega arith))
      ∙ ap (λ (l : List ℕ). take 20 rest ∷ records_of l) (drop-drop 20 (used t * 20) t ∙ ap (λ (k : ℕ). drop k t) m) in
      none_tail (take 20 rest) (records_of (drop ((used t + 1) * 20) t)) (rw (records_behind t, n) at clean)

  module _ (key : List ℕ) (s : ℕ) (k : length key ≡ 13) where
    appended-records : records_of (appended key s t) ≡ (used_part t ++ (new_record key s ∷ [])) ++ records_of (drop ((used t + 1) * 20) t)
    unfolding written_after
    appended-records =
        let later = drop ((used t + 1) * 20) t in
        let e : take (used t * 20) t ++ (new_record key s ++ later) ≡ bytes_of (used_part t ++ (new_record key s ∷ [])) ++ later =
        rw (bytes_append (used_part t) (new_record key s ∷ []), used_bytes t, bytes_one (new_record key s))
        (sym (append_assoc (take (used t * 20) t) (new_record key s) later)) in
        rw (lt-ltb (used t) (room t) left, e)
        (records_append (used_part t ++ (new_record key s ∷ [])) later (each_append Sized (used_part t) (new_record key s ∷ []) (used_sized t) (new_length key s k, tt)))

    -- a new record becomes the last of the used part
    pub used-appended : used_part (appended key s t) ≡ used_part t ++ (new_record key s ∷ [])
    unfolding used_part
    used-appended =
        let us = used_part t ++ (new_record key s ∷ []) in
        let later = records_of (drop ((used t + 1) * 20) t) in
        ap used_among appended-records
        ∙ among_append us later (each_append Tagged (used_part t) (new_record key s ∷ []) (used_tagged t) (new_used key s k, tt))
        ∙ ap (λ (l : List (List ℕ)). us ++ l) (none_among later none_later)
        ∙ append-nil us

    appended-clean : no_stray (appended key s t) ≡ true
    unfolding no_stray
    appended-clean =
        let us = used_part t ++ (new_record key s ∷ []) in
        rw (used-appended, appended-records, drop_at us (records_of (drop ((used t + 1) * 20) t)) (length us) refl) none_later

-- with every place used, a new record changes nothing
pub appended_full : (t key : List ℕ) (s : ℕ) → room t ≤ used t → appended key s t ≡ t
unfolding written_after
appended_full t key s h = rw (le-ltb (used t) (room t) h)

-- what keeps a table clean
module _ (t : List ℕ) where
  pub clean_appended : no_stray t ≡ true → (key : List ℕ) (s : ℕ) → length key ≡ 13 → no_stray (appended key s t) ≡ true
  clean_appended clean key s k =
      both
      (ltb (used t) (room t))
      (λ e. appended-clean t clean (ltb-true (used t) (room t) e) key s k)
      (λ e. rw (appended_full t key s (ltb-false (used t) (room t) e)) clean)

  pub clean_removed : no_stray t ≡ true → (place : ℕ) → no_stray (removed place t) ≡ true
  unfolding removed
  clean_removed clean place =
      packed_stray
      (without place (used_part t))
      t
      (without_each Sized place (used_part t) (used_sized t))
      (without_each Tagged place (used_part t) (used_tagged t))
      ∙ clean

  pub clean_removed_server : no_stray t ≡ true → (s : ℕ) → no_stray (removed_server s t) ≡ true
  unfolding removed_server
  clean_removed_server clean s =
      packed_stray (not_naming s (used_part t)) t (not_naming_each Sized s (used_part t) (used_sized t)) (not_naming_each Tagged s (used_part t) (used_tagged t))
      ∙ clean

  pub clean_started : no_stray (started t) ≡ true
  clean_started = started_none t

-- the new record's key, tag and server
pub entries-appended : (t : List ℕ) → no_stray t ≡ true → used t < room t → (key : List ℕ) (s : ℕ) → length key ≡ 13 → s < 2 ^ 32
    → entries (appended key s t) ≡ entries t ++ (record { key = key; tag = 1; server = s } ∷ [])
entries-appended t clean left key s k h =
    ap (map rec_of) (used-appended t clean left key s k) ∙ map-append rec_of (used_part t) (new_record key s ∷ []) ∙ ap (λ (r : Rec). entries t ++ (r ∷ [])) (new_back key s k h)

-- a table whose second place has a used tag, the first being free: there is room, and yet a new record is not the used part's only one
abbrev pub stray_table : List ℕ
stray_table = replicate 20 0 ++ new_record (replicate 13 2) 2

pub stray_there : no_stray stray_table ≡ false
unfolding no_stray none_used used_part used_among used_tag records_of first_records
stray_there = refl

pub stray_room : used stray_table < room stray_table
unfolding used_part used_among used_tag records_of first_records
stray_room = omega arith

pub stray_joins : used_part (appended (replicate 13 1) 1 stray_table) ≡ used_part stray_table ++ (new_record (replicate 13 1) 1 ∷ []) → ⊥
unfolding used_part used_among used_tag records_of first_records written_after
stray_joins e = let z : ◌≡◌ {A = ℕ} 2 1 = ap length e in omega arith
