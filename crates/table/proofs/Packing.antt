-- Records in the used part's place: `packed`, read back; and the lists that a removal packs.
use Prim.Native.Nat.{ℕ, zero, suc, ◌+◌, ◌*◌, ◌-◌, ◌/◌, ◌%◌, ◌<◌, ◌≤◌}
use mathlib.Core.Bool.{true}
use mathlib.Core.List.{List, [], ◌∷◌, ◌++◌, append-nil}
use mathlib.Core.Path.{◌≡◌, refl, sym, ap, ◌∙◌}
use native.Mathlib.Nat.{not-suc-le-zero, le_of_suc-le-suc}
use native.Mathlib.Omega.{arith}
use lib.Dec.{eqb}
use lib.ListN.{length, take, drop, replicate, length-append, length-drop, length-replicate, replicate-append-replicate}
use lib.Seq.{drop_at}
use Rattle.sets.proofs.Cases.{both}
use Rattle.table.specs.Table.{server_of, used_tag, first_records, records_of, used_among, used_part, used, room, bytes_of, packed, without, not_naming, started, none_used, no_stray}
use Rattle.table.proofs.Parts.{Each, Sized, Tagged, bytes_length, records_append, among_append, used_fits, used-whole, records_behind, behind_unused}

-- zeroed records
abbrev blanks : ℕ → List (List ℕ)
blanks k = replicate k (replicate 20 0)

blanks_sized : (k : ℕ) → Each Sized (blanks k)
blanks_sized zero = tt
blanks_sized (suc k) = (refl, blanks_sized k)

blanks_bytes : (k : ℕ) → bytes_of (blanks k) ≡ replicate (k * 20) 0
unfolding bytes_of
blanks_bytes zero = refl
blanks_bytes (suc k) =
    let e : 20 + k * 20 ≡ suc k * 20 = omega arith in
    rw (blanks_bytes k) (replicate-append-replicate 20 (k * 20) 0 ∙ ap (λ (n : ℕ). replicate n 0) e)

blanks_unused : (k : ℕ) (qs : List (List ℕ)) → used_among qs ≡ [] → used_among (blanks k ++ qs) ≡ []
unfolding used_among used_tag
blanks_unused zero qs e = e
blanks_unused (suc k) qs e = refl

blanks-none : (k : ℕ) (qs : List (List ℕ)) → none_used (blanks k ++ qs) ≡ none_used qs
unfolding none_used used_tag
blanks-none zero qs = refl
blanks-none (suc k) qs = blanks-none k qs

-- a zeroed table has zeroed records and no others
few_records : (t : List ℕ) → length t < 20 → records_of t ≡ []
unfolding records_of first_records
few_records t h = let e : length t / 20 ≡ 0 = omega arith in rw e

started_records : (t : List ℕ) → records_of (started t) ≡ blanks (room t) ++ []
started_records t =
    let m = length t % 20 in
    let n : length t ≡ room t * 20 + m = omega arith in
    let none : records_of (replicate m 0) ≡ [] = few_records (replicate m 0) (simp length-replicate (omega arith)) in
    ap (λ (k : ℕ). records_of (replicate k 0)) n
    ∙ sym (ap records_of (ap (λ (l : List ℕ). l ++ replicate m 0) (blanks_bytes (room t)) ∙ replicate-append-replicate (room t * 20) m 0))
    ∙ records_append (blanks (room t)) (replicate m 0) (blanks_sized (room t))
    ∙ ap (λ (l : List (List ℕ)). blanks (room t) ++ l) none

pub started-used : (t : List ℕ) → used_part (started t) ≡ []
unfolding used_part used_among
started-used t = ap used_among (started_records t) ∙ blanks_unused (room t) [] refl

pub started_none : (t : List ℕ) → no_stray (started t) ≡ true
unfolding no_stray none_used
started_none t = rw (started-used t, started_records t) (blanks-none (room t) [])

pub packed-same : (t : List ℕ) → packed (used_part t) t ≡ t
unfolding packed
packed-same t = let e : (used t - used t) * 20 ≡ 0 = omega arith in rw e (used-whole t)

module _ (rs : List (List ℕ)) (t : List ℕ) (sized : Each Sized rs) where
  pub packed-length : length rs ≤ used t → length (packed rs t) ≡ length t
  unfolding packed
  packed-length h = simp (length-append, length-replicate, length-drop) (omega (arith, bytes_length rs sized, used_fits t))

  packed_records : records_of (packed rs t) ≡ rs ++ (blanks (used t - length rs) ++ records_of (drop (used t * 20) t))
  unfolding packed
  packed_records =
      let rest = drop (used t * 20) t in
      records_append rs (replicate ((used t - length rs) * 20) 0 ++ rest) sized
      ∙ ap
      (λ (l : List (List ℕ)). rs ++ l)
      (sym (ap (λ (l : List ℕ). records_of (l ++ rest)) (blanks_bytes (used t - length rs)))
      ∙ records_append (blanks (used t - length rs)) rest (blanks_sized (used t - length rs)))

  -- what was packed is the used part then, and what stands behind it has used tags only where it had them before
  module _ (tagged : Each Tagged rs) where
    pub packed-used : used_part (packed rs t) ≡ rs
    unfolding used_part
    packed-used =
        ap used_among packed_records
        ∙ among_append rs (blanks (used t - length rs) ++ records_of (drop (used t * 20) t)) tagged
        ∙ ap (λ (l : List (List ℕ)). rs ++ l) (blanks_unused (used t - length rs) (records_of (drop (used t * 20) t)) (behind_unused t))
        ∙ append-nil rs

    pub packed_stray : no_stray (packed rs t) ≡ no_stray t
    unfolding no_stray
    packed_stray =
        let rest = records_of (drop (used t * 20) t) in
        rw (packed-used, packed_records, drop_at rs (blanks (used t - length rs) ++ rest) (length rs) refl, records_behind t) (blanks-none (used t - length rs) rest)

-- the list without one place
pub without-none : (rs : List (List ℕ)) → without 0 rs ≡ rs
unfolding without
without-none rs = refl

pub without_out : (place : ℕ) (rs : List (List ℕ)) → length rs < place → without place rs ≡ rs
unfolding without
without_out zero rs h = refl
without_out (suc i) [] h = refl
without_out (suc zero) (r ∷ rs) h = absurd (omega arith)
without_out (suc (suc i)) (r ∷ rs) h = ap (λ (l : List (List ℕ)). r ∷ l) (without_out (suc i) rs (le_of_suc-le-suc h))

pub without_in : (i : ℕ) (rs : List (List ℕ)) → i < length rs → without (suc i) rs ≡ take i rs ++ drop (suc i) rs
unfolding without
without_in i [] h = absurd (not-suc-le-zero h)
without_in zero (r ∷ rs) h = refl
without_in (suc i) (r ∷ rs) h = ap (λ (l : List (List ℕ)). r ∷ l) (without_in i rs (le_of_suc-le-suc h))

pub without-length : (place : ℕ) (rs : List (List ℕ)) → length (without place rs) ≤ length rs
unfolding without
without-length zero rs = omega arith
without-length (suc i) [] = omega arith
without-length (suc zero) (r ∷ rs) = omega arith
without-length (suc (suc i)) (r ∷ rs) = omega (arith, without-length (suc i) rs)

pub without_each : (P : List ℕ → Type 0) (place : ℕ) (rs : List (List ℕ)) → Each P rs → Each P (without place rs)
unfolding without
without_each P zero rs e = e
without_each P (suc i) [] e = tt
without_each P (suc zero) (r ∷ rs) e = e.1
without_each P (suc (suc i)) (r ∷ rs) e = (e.0, without_each P (suc i) rs e.1)

-- the records that don't name a server
pub not_naming-append : (s : ℕ) (rs qs : List (List ℕ)) → not_naming s (rs ++ qs) ≡ not_naming s rs ++ not_naming s qs
unfolding not_naming
not_naming-append s [] qs = refl
not_naming-append s (r ∷ rs) qs =
    both (eqb (server_of r) s) (λ e. rw e (not_naming-append s rs qs)) (λ e. rw e (ap (λ (l : List (List ℕ)). r ∷ l) (not_naming-append s rs qs)))

pub not_naming-length : (s : ℕ) (rs : List (List ℕ)) → length (not_naming s rs) ≤ length rs
unfolding not_naming
not_naming-length s [] = omega arith
not_naming-length s (r ∷ rs) =
    both (eqb (server_of r) s) (λ e. rw e (omega (arith, not_naming-length s rs))) (λ e. rw e (omega (arith, not_naming-length s rs)))

pub not_naming_each : (P : List ℕ → Type 0) (s : ℕ) (rs : List (List ℕ)) → Each P rs → Each P (not_naming s rs)
unfolding not_naming
not_naming_each P s [] e = tt
not_naming_each P s (r ∷ rs) e =
    both (eqb (server_of r) s) (λ q. rw q (not_naming_each P s rs e.1)) (λ q. rw q (e.0, not_naming_each P s rs e.1))
