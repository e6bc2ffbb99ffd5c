-- The records of a table by their places: the bytes at an index, and the ways on of a scan that has come to an index.
use Prim.Native.Nat.{ℕ, zero, suc, ◌+◌, ◌*◌, ◌/◌, ◌<◌, ◌≤◌}
use mathlib.Core.Bool.{true, false, cond}
use mathlib.Core.List.{List, [], ◌∷◌}
use mathlib.Core.Logic.{◌⊎◌, ⊎_elim}
use mathlib.Core.Path.{◌≡◌, refl, sym, ap, ◌∙◌}
use native.Mathlib.Nat.{not-suc-le-zero, le_of_suc-le-suc}
use native.Mathlib.Numerals.{add-one}
use native.Mathlib.Omega.{arith}
use lib.ListN.{length, get_or, take, drop, drop_of_length-le, get_or-eq_default}
use lib.Seq.{drop-cons, drop-drop, get_or-take, get_or-drop, take-take}
use Rattle.bigendian.specs.BigEndian.{number4_at}
use Rattle.spans.specs.Spans.{same}
use Rattle.table.specs.Table.{key_of, used_tag, first_records, records_of, used_among, room, Finding, find_among, server_at, tag_at}

pub length-first : (n : ℕ) (t : List ℕ) → length (first_records n t) ≡ n
unfolding first_records
length-first zero t = refl
length-first (suc n) t = ap suc (length-first n (drop 20 t))

pub first-at : (n : ℕ) (t : List ℕ) (i : ℕ) → i < n → get_or (first_records n t) i [] ≡ take 20 (drop (i * 20) t)
unfolding first_records
first-at zero t i h = absurd (not-suc-le-zero h)
first-at (suc n) t zero h = refl
first-at (suc n) t (suc i) h =
    let e : 20 + i * 20 ≡ suc i * 20 = omega arith in
    first-at n (drop 20 t) i (le_of_suc-le-suc h) ∙ ap (λ (l : List ℕ). take 20 l) (drop-drop (i * 20) 20 t ∙ ap (λ (k : ℕ). drop k t) e)

pub length_records : (t : List ℕ) → length (records_of t) ≡ room t
unfolding records_of
length_records t = length-first (length t / 20) t

-- there is no record at an index that the table has no room for
pub records_end : (t : List ℕ) (i : ℕ) → room t ≤ i → drop i (records_of t) ≡ []
records_end t i h = drop_of_length-le (records_of t) {i = i} (omega (arith, length_records t))

module _ (t : List ℕ) (i : ℕ) (h : i < room t) where
  pub record_at_lem : get_or (records_of t) i [] ≡ take 20 (drop (i * 20) t)
  unfolding records_of
  record_at_lem = first-at (length t / 20) t i h

  pub record_byte : (j : ℕ) → j < 20 → get_or (get_or (records_of t) i []) j 0 ≡ get_or t (i * 20 + j) 0
  record_byte j k = rw record_at_lem (get_or-take 20 (drop (i * 20) t) j 0 k ∙ get_or-drop (i * 20) t j 0)

  record_key : key_of (get_or (records_of t) i []) ≡ take 13 (drop (i * 20) t)
  record_key = rw record_at_lem (take-take 13 20 (drop (i * 20) t) (omega arith))

  records_cons : drop i (records_of t) ≡ get_or (records_of t) i [] ∷ drop (i + 1) (records_of t)
  records_cons = let k : i < length (records_of t) = omega (arith, length_records t) in rw (add-one, drop-cons (records_of t) i [] k)

  used_step : used_among (drop i (records_of t)) ≡ cond (used_tag (get_or t (i * 20 + 13) 0)) (get_or (records_of t) i [] ∷ used_among (drop (i + 1) (records_of t))) []
  unfolding used_among
  used_step = rw (records_cons, record_byte 13 (omega arith))

  pub used_stop : used_tag (get_or t (i * 20 + 13) 0) ≡ false → used_among (drop i (records_of t)) ≡ []
  used_stop e = rw e at used_step

  pub used_more : used_tag (get_or t (i * 20 + 13) 0) ≡ true → used_among (drop i (records_of t)) ≡ get_or (records_of t) i [] ∷ used_among (drop (i + 1) (records_of t))
  used_more e = rw e at used_step

  module _ (key : List ℕ) (W : Finding) (so : find_among key i (used_among (drop i (records_of t))) ≡ W) where
    pub find_stop : used_tag (get_or t (i * 20 + 13) 0) ≡ false → record { found = false; reads = i } ≡ W
    unfolding find_among
    find_stop e = rw (used_stop e) at so

    find-step : used_tag (get_or t (i * 20 + 13) 0) ≡ true
        → cond (same (take 13 (drop (i * 20) t)) key) (record { found = true; reads = i + 1 }) (find_among key (i + 1) (used_among (drop (i + 1) (records_of t)))) ≡ W
    unfolding find_among
    find-step e = rw (used_more e, record_key) at so

    pub find_here : used_tag (get_or t (i * 20 + 13) 0) ≡ true → same (take 13 (drop (i * 20) t)) key ≡ true → record { found = true; reads = i + 1 } ≡ W
    find_here e s = rw s at (find-step e)

    pub find_more : used_tag (get_or t (i * 20 + 13) 0) ≡ true → same (take 13 (drop (i * 20) t)) key ≡ false
        → find_among key (i + 1) (used_among (drop (i + 1) (records_of t))) ≡ W
    find_more e s = rw s at (find-step e)

pub find-end : (t : List ℕ) (i : ℕ) → room t ≤ i → (key : List ℕ) (W : Finding) → find_among key i (used_among (drop i (records_of t))) ≡ W
    → record { found = false; reads = i } ≡ W
unfolding find_among used_among
find-end t i h key W so = rw (records_end t i h) at so

-- a place behind the last has no record
none-at : (t : List ℕ) (i : ℕ) → room t < suc i → get_or (records_of t) i [] ≡ []
none-at t i h = get_or-eq_default (records_of t) [] {n = i} (omega (arith, length_records t))

-- the server and the tag at a place, counted from 1: where there is no such place there are none, else they are read off the bytes
pub no_server : (t : List ℕ) (place : ℕ) → (place ≡ 0) ⊎ (room t < place) → 0 ≡ server_at place t
unfolding server_at
no_server t zero o = refl
no_server t (suc i) o = rw (none-at t i (⊎_elim (λ z. absurd (omega arith)) (λ h. h) o))

pub no_tag : (t : List ℕ) (place : ℕ) → (place ≡ 0) ⊎ (room t < place) → 0 ≡ tag_at place t
unfolding tag_at
no_tag t zero o = refl
no_tag t (suc i) o = rw (none-at t i (⊎_elim (λ z. absurd (omega arith)) (λ h. h) o))

module _ (t : List ℕ) where
  pub server_in : (place i : ℕ) → (place ≡ i + 1) × (i < room t) → number4_at t (i * 20 + 16) ≡ server_at place t
  unfolding server_at
  server_in zero i p = absurd (omega (arith, p.0))
  server_in (suc k) i p =
      let q : k ≡ i = omega (arith, p.0) in
      let at : (j : ℕ) → j < 20 → get_or (get_or (records_of t) i []) j 0 ≡ get_or t (i * 20 + j) 0 = record_byte t i p.1 in
      let up : (j : ℕ) → i * 20 + 16 + j ≡ i * 20 + (16 + j) = λ j. omega arith in
      rw (q, up 1, up 2, up 3, at 16 (omega arith), at 17 (omega arith), at 18 (omega arith), at 19 (omega arith))

  pub tag_in : (place i : ℕ) → (place ≡ i + 1) × (i < room t) → get_or t (i * 20 + 13) 0 ≡ tag_at place t
  unfolding tag_at
  tag_in zero i p = absurd (omega (arith, p.0))
  tag_in (suc k) i p = let q : k ≡ i = omega (arith, p.0) in rw q (sym (record_byte t i p.1 13 (omega arith)))
