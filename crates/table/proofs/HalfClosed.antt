-- A half-closed record: its tag is 2 and all else of it, and of the table, is as it was. For callers: what becomes of the used part and of the
-- table's length; of any table.
use Prim.Native.Nat.{ℕ, zero, suc, ◌+◌, ◌*◌, ◌-◌, ◌<◌, ◌≤◌}
use mathlib.Core.Bool.{true}
use mathlib.Core.List.{List, [], ◌∷◌, ◌++◌, append_assoc}
use mathlib.Core.Logic.{◌≢◌, ◌⊎◌, inl, inr, ⊎_elim}
use mathlib.Core.Path.{◌≡◌, refl, sym, ap, ◌∙◌}
use native.Mathlib.Nat.{not-suc-le-zero, le_of_suc-le-suc}
use native.Mathlib.Omega.{arith}
use lib.Dec.{ltb}
use lib.ListN.{length, get_or, set, drop, length-set}
use Rattle.std.proofs.lemmas.List.{take-set-le, set-append_right}
use lib.Seq.{set-append_left, get_or-set_same, get_or-set_other}
use borrow.Author.Tests.{ltb-true, ltb-false, lt-ltb, le-ltb}
use Rattle.sets.proofs.Cases.{both}
use Rattle.table.specs.Table.{key_of, tag_of, server_of, half_closed_tag, tag_offset, used_part, used, find_among, find, tag_at, bytes_of, packed, half_closed, no_stray}
use Rattle.table.proofs.Parts.{Each, Sized, Tagged, used_tags, tags_are, used_sized, used_tagged, used-whole}
use Rattle.table.proofs.Packing.{packed-same, packed-length, packed-used, packed_stray}
use Rattle.table.proofs.Records.{used_record, tag_used}
use Rattle.table.proofs.Finds.{found_from, found_within, found_first}

-- ---- one record

-- a record with tag 2
abbrev pub half_record : List ℕ → List ℕ
half_record r = set r tag_offset half_closed_tag

pub half_key : (r : List ℕ) → key_of (half_record r) ≡ key_of r
half_key r = take-set-le 13 r 13 2 (omega arith)

pub half_server : (r : List ℕ) → server_of (half_record r) ≡ server_of r
half_server r =
    let at : (j : ℕ) → j ≢ 13 → get_or (half_record r) j 0 ≡ get_or r j 0 = λ j n. get_or-set_other r 13 j 2 0 n in
    rw (at 16 (λ e. omega arith), at 17 (λ e. omega arith), at 18 (λ e. omega arith), at 19 (λ e. omega arith))

pub half_tag : (r : List ℕ) → length r ≡ 20 → tag_of (half_record r) ≡ 2
half_tag r n = get_or-set_same r 13 2 0 (omega arith)

-- ---- a table

-- the list whose record at a place, counted from 1, is half-closed
abbrev pub half_at : ℕ → List (List ℕ) → List (List ℕ)
half_at zero rs = rs
half_at (suc i) [] = []
half_at (suc zero) (r ∷ rs) = half_record r ∷ rs
half_at (suc (suc i)) (r ∷ rs) = r ∷ half_at (suc i) rs

half_at_out : (i : ℕ) (rs : List (List ℕ)) → length rs ≤ i → half_at (suc i) rs ≡ rs
half_at_out i [] h = refl
half_at_out zero (r ∷ rs) h = absurd (not-suc-le-zero h)
half_at_out (suc i) (r ∷ rs) h = ap (λ (l : List (List ℕ)). r ∷ l) (half_at_out i rs (le_of_suc-le-suc h))

half_at-length : (place : ℕ) (rs : List (List ℕ)) → length (half_at place rs) ≡ length rs
half_at-length zero rs = refl
half_at-length (suc i) [] = refl
half_at-length (suc zero) (r ∷ rs) = refl
half_at-length (suc (suc i)) (r ∷ rs) = ap suc (half_at-length (suc i) rs)

half_at_sized : (place : ℕ) (rs : List (List ℕ)) → Each Sized rs → Each Sized (half_at place rs)
half_at_sized zero rs e = e
half_at_sized (suc i) [] e = tt
half_at_sized (suc zero) (r ∷ rs) e = (length-set r 13 2 ∙ e.0, e.1)
half_at_sized (suc (suc i)) (r ∷ rs) e = (e.0, half_at_sized (suc i) rs e.1)

half_at_tagged : (place : ℕ) (rs : List (List ℕ)) → Each Sized rs → Each Tagged rs → Each Tagged (half_at place rs)
half_at_tagged zero rs e f = f
half_at_tagged (suc i) [] e f = tt
half_at_tagged (suc zero) (r ∷ rs) e f = (tags_are _ (inr (half_tag r e.0)), f.1)
half_at_tagged (suc (suc i)) (r ∷ rs) e f = (f.0, half_at_tagged (suc i) rs e.1 f.1)

-- the tag's byte in the bytes of records is the tag of one of them
set_record : (rs : List (List ℕ)) (rest : List ℕ) (i : ℕ) → Each Sized rs → i < length rs
    → set (bytes_of rs ++ rest) (i * 20 + 13) 2 ≡ bytes_of (half_at (suc i) rs) ++ rest
unfolding bytes_of
set_record [] rest i e h = absurd (not-suc-le-zero h)
set_record (r ∷ rs) rest zero e h =
    rw (append_assoc r (bytes_of rs) rest, append_assoc (half_record r) (bytes_of rs) rest)
    (set-append_left r (bytes_of rs ++ rest) 13 2 (let n : length r ≡ 20 = e.0 in omega arith))
set_record (r ∷ rs) rest (suc i) e h =
    let n : suc i * 20 + 13 ≡ 20 + (i * 20 + 13) = omega arith in
    let behind : 20 + (i * 20 + 13) - 20 ≡ i * 20 + 13 = omega arith in
    rw (n, append_assoc r (bytes_of rs) rest, append_assoc r (bytes_of (half_at (suc i) rs)) rest)
    (set-append_right r (bytes_of rs ++ rest) 20 (20 + (i * 20 + 13)) 2 e.0 (omega arith)
    ∙ ap (λ (k : ℕ). r ++ set (bytes_of rs ++ rest) k 2) behind
    ∙ ap (λ (l : List ℕ). r ++ l) (set_record rs rest i e.1 (le_of_suc-le-suc h)))

-- a place outside the used part
half_none : (t : List ℕ) → t ≡ half_closed 0 t
unfolding half_closed
half_none t = refl

half_out : (t : List ℕ) (place : ℕ) → used t < place → t ≡ half_closed place t
unfolding half_closed
half_out t zero h = refl
half_out t (suc i) h = rw (le-ltb i (used t) (omega arith))

pub half_nowhere : (t : List ℕ) (place : ℕ) → (place ≡ 0) ⊎ (used t < place) → t ≡ half_closed place t
half_nowhere t place = ⊎_elim (λ z. rw z (half_none t)) (half_out t place)

-- a place inside it: one byte is stored
pub half_in : (t : List ℕ) (place i : ℕ) → (place ≡ i + 1) × (i < used t) → set t (i * 20 + 13) 2 ≡ half_closed place t
unfolding half_closed
half_in t zero i p = absurd (omega (arith, p.0))
half_in t (suc k) i p = let q : k ≡ i = omega (arith, p.0) in rw (q, lt-ltb i (used t) p.1)

-- the table has the used part with that record half-closed, and later bytes stay
packed_in : (t : List ℕ) (i : ℕ) → i < used t → half_closed (suc i) t ≡ packed (half_at (suc i) (used_part t)) t
unfolding half_closed packed
packed_in t i h =
    let rs = used_part t in
    let n : (used t - length (half_at (suc i) rs)) * 20 ≡ 0 = omega (arith, half_at-length (suc i) rs) in
    rw (lt-ltb i (used t) h, n)
    (ap (λ (l : List ℕ). set l (i * 20 + 13) 2) (sym (used-whole t)) ∙ set_record rs (drop (used t * 20) t) i (used_sized t) h)

half_packed : (t : List ℕ) (place : ℕ) → half_closed place t ≡ packed (half_at place (used_part t)) t
half_packed t zero = sym (half_none t) ∙ sym (packed-same t)
half_packed t (suc i) =
    both (ltb i (used t)) (λ e. packed_in t i (ltb-true i (used t) e)) (λ e.
    let out : used t ≤ i = ltb-false i (used t) e in
    sym (half_out t (suc i) (omega arith)) ∙ sym (packed-same t) ∙ ap (λ (l : List (List ℕ)). packed l t) (sym (half_at_out i (used_part t) out)))

module _ (t : List ℕ) (place : ℕ) where
  sized : Each Sized (half_at place (used_part t))
  sized = half_at_sized place (used_part t) (used_sized t)

  tagged : Each Tagged (half_at place (used_part t))
  tagged = half_at_tagged place (used_part t) (used_sized t) (used_tagged t)

  -- the used part, which is as long as before; the table's length; and what stands behind the used part
  pub used_half : used_part (half_closed place t) ≡ half_at place (used_part t)
  used_half = rw (half_packed t place) (packed-used (half_at place (used_part t)) t sized tagged)

  pub used_stays : used (half_closed place t) ≡ used t
  used_stays = ap length used_half ∙ half_at-length place (used_part t)

  pub length_half : length (half_closed place t) ≡ length t
  length_half =
      rw (half_packed t place) (packed-length (half_at place (used_part t)) t sized (omega (arith, half_at-length place (used_part t))))

  pub clean_half : no_stray (half_closed place t) ≡ no_stray t
  clean_half = rw (half_packed t place) (packed_stray (half_at place (used_part t)) t sized tagged)

-- a reader finds in it what it found
among_half : (key : List ℕ) (passed place : ℕ) (rs : List (List ℕ)) → find_among key passed (half_at place rs) ≡ find_among key passed rs
unfolding find_among
among_half key passed zero rs = refl
among_half key passed (suc i) [] = refl
among_half key passed (suc zero) (r ∷ rs) = rw (half_key r)
among_half key passed (suc (suc i)) (r ∷ rs) = rw (among_half key (passed + 1) (suc i) rs)

pub find_half : (key t : List ℕ) (place : ℕ) → find key (half_closed place t) ≡ find key t
unfolding find
find_half key t place = ap (find_among key 0) (used_half t place) ∙ among_half key 0 place (used_part t)

-- a key's record has tag 1 or 2
pub tag_cases : (key t : List ℕ) → (find key t).found ≡ true → (tag_at (find key t).reads t ≡ 1) ⊎ (tag_at (find key t).reads t ≡ 2)
tag_cases key t f =
    let q = tag_used t (find key t).reads (found_from key t f) (found_within key t f) in
    ⊎_elim (λ one. inl (q ∙ one)) (λ two. inr (q ∙ two)) (used_tags _ (used_record t _ (found_first key t f).within).1)
