-- A table as the list of its used records, for callers: what each operation makes of that list, and of the table's length. Of any table.
use Prim.Native.Nat.{ℕ, zero, suc, ◌+◌, ◌*◌, ◌-◌, ◌^◌, ◌<◌, ◌≤◌}
use mathlib.Core.Bool.{true}
use mathlib.Core.List.{List, [], ◌∷◌, map}
use mathlib.Core.Path.{◌≡◌, ap, subst, ◌∙◌}
use native.Mathlib.Omega.{arith}
use lib.Dec.{ltb}
use lib.ListN.{length, get_or, take, drop, length-append, length-drop, length-replicate, get_or-append}
use lib.Seq.{take_at, get_or_at, get_or-append-add, length-take-le}
use borrow.Author.Tests.{ltb-true}
use Rattle.bigendian.specs.BigEndian.{bytes4}
use Rattle.bigendian.proofs.RoundTrip.{number4-bytes4}
use Rattle.sets.proofs.Cases.{both}
use Rattle.table.specs.Table.{key_of, tag_of, server_of, used_tag, records_of, used_part, used, room, server_at, tag_at, new_record, written_after, without, removed, not_naming, removed_server, started, rec_of, entries}
use Rattle.table.proofs.Parts.{each_at, Sized, Tagged, used_sized, used_tagged, records_whole}
use Rattle.table.proofs.Packing.{packed-length, packed-used, without-length, without_each, not_naming-length, not_naming_each, started-used}
pub use Rattle.table.proofs.Parts.{used_within, used_bytes}

module _ (t : List ℕ) where
  -- a used record has 20 bytes and a used tag
  pub used_record : (i : ℕ) → i < used t → (length (get_or (used_part t) i []) ≡ 20) × (used_tag (tag_of (get_or (used_part t) i [])) ≡ true)
  used_record i h = (each_at Sized (used_part t) (used_sized t) i h, each_at Tagged (used_part t) (used_tagged t) i h)

  -- the record at a used place, with its server and its tag
  record_used : (i : ℕ) → i < used t → get_or (records_of t) i [] ≡ get_or (used_part t) i []
  record_used i h =
      ap (λ (q : List (List ℕ)). get_or q i []) (records_whole t) ∙ get_or-append (used_part t) (records_of (drop (used t * 20) t)) [] i h

  pub server_used : (place : ℕ) → 1 ≤ place → place ≤ used t → server_at place t ≡ server_of (get_or (used_part t) (place - 1) [])
  unfolding server_at
  server_used zero l h = absurd (omega arith)
  server_used (suc i) l h = let e : suc i - 1 ≡ i = omega arith in rw (e, record_used i h)

  pub tag_used : (place : ℕ) → 1 ≤ place → place ≤ used t → tag_at place t ≡ tag_of (get_or (used_part t) (place - 1) [])
  unfolding tag_at
  tag_used zero l h = absurd (omega arith)
  tag_used (suc i) l h = let e : suc i - 1 ≡ i = omega arith in rw (e, record_used i h)

  -- the used part after a removal and after a start
  pub used-removed : (place : ℕ) → used_part (removed place t) ≡ without place (used_part t)
  unfolding removed
  used-removed place =
      packed-used
      (without place (used_part t))
      t
      (without_each Sized place (used_part t) (used_sized t))
      (without_each Tagged place (used_part t) (used_tagged t))

  pub used-removed_server : (s : ℕ) → used_part (removed_server s t) ≡ not_naming s (used_part t)
  unfolding removed_server
  used-removed_server s =
      packed-used (not_naming s (used_part t)) t (not_naming_each Sized s (used_part t) (used_sized t)) (not_naming_each Tagged s (used_part t) (used_tagged t))

  pub used-started : used_part (started t) ≡ []
  used-started = started-used t

  -- the same with key, tag and server of each record
  pub entries-removed : (place : ℕ) → entries (removed place t) ≡ map rec_of (without place (used_part t))
  entries-removed place = ap (map rec_of) (used-removed place)

  pub entries-removed_server : (s : ℕ) → entries (removed_server s t) ≡ map rec_of (not_naming s (used_part t))
  entries-removed_server s = ap (map rec_of) (used-removed_server s)

  pub entries-started : entries (started t) ≡ []
  entries-started = ap (map rec_of) used-started

  -- no operation changes a table's length
  pub length_removed : (place : ℕ) → length (removed place t) ≡ length t
  unfolding removed
  length_removed place =
      packed-length (without place (used_part t)) t (without_each Sized place (used_part t) (used_sized t)) (without-length place (used_part t))

  pub length-removed_server : (s : ℕ) → length (removed_server s t) ≡ length t
  unfolding removed_server
  length-removed_server s =
      packed-length (not_naming s (used_part t)) t (not_naming_each Sized s (used_part t) (used_sized t)) (not_naming-length s (used_part t))

  pub length-started : length (started t) ≡ length t
  length-started = length-replicate (length t) 0

  pub length-written : (n : ℕ) (key : List ℕ) (s : ℕ) → length key ≡ 13 → length (written_after n key s t) ≡ length t
  unfolding written_after
  length-written n key s k =
      both
      (ltb n (room t))
      (λ e.
      let h : n < room t = ltb-true n (room t) e in
      let a : length (take (n * 20) t) ≡ n * 20 = length-take-le (n * 20) t (omega arith) in
      rw e (simp (length-append, length-drop, a) (omega arith)))
      (λ e. rw e)

-- a new record, read back
module _ (key : List ℕ) (s : ℕ) (k : length key ≡ 13) where
  pub new_length : length (new_record key s) ≡ 20
  new_length = rw length-append (omega arith)

  new_tag : tag_of (new_record key s) ≡ 1
  new_tag = get_or_at key 1 (0 ∷ 0 ∷ bytes4 s) 0 13 k

  pub new_used : used_tag (tag_of (new_record key s)) ≡ true
  unfolding used_tag
  new_used = ap used_tag new_tag

  new_server : s < 2 ^ 32 → server_of (new_record key s) ≡ s
  new_server h =
      let at : (j : ℕ) → get_or (new_record key s) (13 + j) 0 ≡ get_or (1 ∷ 0 ∷ 0 ∷ bytes4 s) j 0 =
      λ j. subst (λ (n : ℕ). get_or (new_record key s) (n + j) 0 ≡ get_or (1 ∷ 0 ∷ 0 ∷ bytes4 s) j 0) k (get_or-append-add key (1 ∷ 0 ∷ 0 ∷ bytes4 s) j 0) in
      rw (at 3, at 4, at 5, at 6) (number4-bytes4 s h)

  pub new_back : s < 2 ^ 32 → rec_of (new_record key s) ≡ record { key = key; tag = 1; server = s }
  new_back h =
      let a : key_of (new_record key s) ≡ key = take_at key (1 ∷ 0 ∷ 0 ∷ bytes4 s) 13 k in
      λ i. record { key = a i; tag = new_tag i; server = new_server h i }
