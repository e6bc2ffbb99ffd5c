-- A table as its used part and the bytes behind it: records put together to bytes are read back, and the used part is read off them.
use Prim.Native.Nat.{ℕ, zero, suc, ◌+◌, ◌*◌, ◌-◌, ◌/◌, ◌<◌, ◌≤◌}
use mathlib.Core.Bool.{true}
use mathlib.Core.List.{List, [], ◌∷◌, ◌++◌, append_assoc, append-nil}
use mathlib.Core.Logic.{◌⊎◌, inl, inr, ⊎_elim}
use mathlib.Core.Path.{◌≡◌, refl, sym, ap, ◌∙◌}
use native.Mathlib.Nat.{not-suc-le-zero, le_of_suc-le-suc, suc-add}
use native.Mathlib.Omega.{arith}
use lib.Dec.{eqb}
use lib.ListN.{length, get_or, take, drop, length-append, length-drop, take-append-drop}
use lib.Seq.{take_at, drop_at, take-add, drop-drop, length-take-le}
use borrow.Author.Tests.{eqb-true}
use Rattle.sets.proofs.Cases.{both}
use Rattle.table.specs.Table.{tag_of, used_tag, first_records, records_of, used_among, used_part, used, room, bytes_of}
use Rattle.table.proofs.Places.{length_records, first-at}

-- what holds of every record of a list
abbrev pub Each : (List ℕ → Type 0) → List (List ℕ) → Type 0
Each P [] = Unit {0}
Each P (r ∷ rs) = P r × Each P rs

pub each_at : (P : List ℕ → Type 0) (rs : List (List ℕ)) → Each P rs → (i : ℕ) → i < length rs → P (get_or rs i [])
each_at P [] e i h = absurd (not-suc-le-zero h)
each_at P (r ∷ rs) e zero h = e.0
each_at P (r ∷ rs) e (suc i) h = each_at P rs e.1 i (le_of_suc-le-suc h)

pub each_append : (P : List ℕ → Type 0) (rs qs : List (List ℕ)) → Each P rs → Each P qs → Each P (rs ++ qs)
each_append P [] qs e f = f
each_append P (r ∷ rs) qs e f = (e.0, each_append P rs qs e.1 f)

pub each_take : (P : List ℕ → Type 0) (n : ℕ) (rs : List (List ℕ)) → Each P rs → Each P (take n rs)
each_take P zero rs e = tt
each_take P (suc n) [] e = tt
each_take P (suc n) (r ∷ rs) e = (e.0, each_take P n rs e.1)

-- a record has 20 bytes; a used one has a used tag
abbrev pub Sized : List ℕ → Type 0
Sized r = length r ≡ 20

abbrev pub Tagged : List ℕ → Type 0
Tagged r = used_tag (tag_of r) ≡ true

-- a used tag is 1 or 2
pub used_tags : (n : ℕ) → used_tag n ≡ true → (n ≡ 1) ⊎ (n ≡ 2)
unfolding used_tag
used_tags n = both (eqb n 1) (λ a. rw a (λ e. inl (eqb-true n 1 a))) (λ a. rw a (λ e. inr (eqb-true n 2 e)))

pub tags_are : (n : ℕ) → (n ≡ 1) ⊎ (n ≡ 2) → used_tag n ≡ true
unfolding used_tag
tags_are n = ⊎_elim (λ e. rw e) (λ e. rw e)

-- records and their bytes
pub bytes_append : (rs qs : List (List ℕ)) → bytes_of (rs ++ qs) ≡ bytes_of rs ++ bytes_of qs
unfolding bytes_of
bytes_append [] qs = refl
bytes_append (r ∷ rs) qs = ap (λ (l : List ℕ). r ++ l) (bytes_append rs qs) ∙ sym (append_assoc r (bytes_of rs) (bytes_of qs))

pub bytes_one : (r : List ℕ) → bytes_of (r ∷ []) ≡ r
unfolding bytes_of
bytes_one r = append-nil r

pub bytes_length : (rs : List (List ℕ)) → Each Sized rs → length (bytes_of rs) ≡ length rs * 20
unfolding bytes_of
bytes_length [] e = refl
bytes_length (r ∷ rs) e = let n : length r ≡ 20 = e.0 in rw length-append (omega (arith, bytes_length rs e.1))

first-append : (rs : List (List ℕ)) (n : ℕ) (rest : List ℕ) → Each Sized rs → first_records (length rs + n) (bytes_of rs ++ rest) ≡ rs ++ first_records n rest
unfolding first_records bytes_of
first-append [] n rest e = let z : 0 + n ≡ n = omega arith in rw z
first-append (r ∷ rs) n rest e =
    rw (suc-add (length rs) n, append_assoc r (bytes_of rs) rest, take_at r (bytes_of rs ++ rest) 20 e.0, drop_at r (bytes_of rs ++ rest) 20 e.0)
    (ap (λ (l : List (List ℕ)). r ∷ l) (first-append rs n rest e.1))

-- the records of bytes that records were put together to, with more bytes behind
pub records_append : (rs : List (List ℕ)) (rest : List ℕ) → Each Sized rs → records_of (bytes_of rs ++ rest) ≡ rs ++ records_of rest
unfolding records_of
records_append rs rest e =
    let n : length (bytes_of rs ++ rest) / 20 ≡ length rs + length rest / 20 =
    rw (length-append (bytes_of rs) rest, bytes_length rs e) (omega arith) in
    rw n (first-append rs (length rest / 20) rest e)

pub first_bytes : (n : ℕ) (t : List ℕ) → bytes_of (first_records n t) ≡ take (n * 20) t
unfolding first_records bytes_of
first_bytes zero t = refl
first_bytes (suc n) t =
    let e : 20 + n * 20 ≡ suc n * 20 = omega arith in
    rw (first_bytes n (drop 20 t)) (sym (take-add 20 (n * 20) t) ∙ ap (λ (k : ℕ). take k t) e)

first_sized : (n : ℕ) (t : List ℕ) → n * 20 ≤ length t → Each Sized (first_records n t)
unfolding first_records
first_sized zero t h = tt
first_sized (suc n) t h =
    (length-take-le 20 t (omega arith), first_sized n (drop 20 t) (rw (length-drop 20 t) (omega arith)))

take-first : (n m : ℕ) (t : List ℕ) → n ≤ m → take n (first_records m t) ≡ first_records n t
unfolding first_records
take-first zero m t h = refl
take-first (suc n) zero t h = absurd (not-suc-le-zero h)
take-first (suc n) (suc m) t h = ap (λ (l : List (List ℕ)). take 20 t ∷ l) (take-first n m (drop 20 t) (le_of_suc-le-suc h))

drop-first : (j n : ℕ) (t : List ℕ) → j ≤ n → drop j (first_records n t) ≡ first_records (n - j) (drop (j * 20) t)
unfolding first_records
drop-first zero n t h = let e : n - 0 ≡ n = omega arith in rw e
drop-first (suc j) zero t h = absurd (not-suc-le-zero h)
drop-first (suc j) (suc n) t h =
    let e : suc n - suc j ≡ n - j = omega arith in
    let m : 20 + j * 20 ≡ suc j * 20 = omega arith in
    rw e (drop-first j n (drop 20 t) (le_of_suc-le-suc h) ∙ ap (λ (l : List ℕ). first_records (n - j) l) (drop-drop (j * 20) 20 t ∙ ap (λ (k : ℕ). drop k t) m))

-- the used ones among records: they stand in front, and behind them none is used at first
pub among_tagged : (qs : List (List ℕ)) → Each Tagged (used_among qs)
unfolding used_among
among_tagged [] = tt
among_tagged (r ∷ rs) = both (used_tag (tag_of r)) (λ e. rw e (e, among_tagged rs)) (λ e. rw e tt)

among_take : (qs : List (List ℕ)) → take (length (used_among qs)) qs ≡ used_among qs
unfolding used_among
among_take [] = refl
among_take (r ∷ rs) = both (used_tag (tag_of r)) (λ e. rw e (ap (λ (l : List (List ℕ)). r ∷ l) (among_take rs))) (λ e. rw e)

among_behind : (qs : List (List ℕ)) → used_among (drop (length (used_among qs)) qs) ≡ []
unfolding used_among
among_behind [] = refl
among_behind (r ∷ rs) = both (used_tag (tag_of r)) (λ e. rw e (among_behind rs)) (λ e. rw (e, e))

among_le : (qs : List (List ℕ)) → length (used_among qs) ≤ length qs
unfolding used_among
among_le [] = omega arith
among_le (r ∷ rs) = both (used_tag (tag_of r)) (λ e. rw e (omega (arith, among_le rs))) (λ e. rw e (omega arith))

pub among_append : (rs qs : List (List ℕ)) → Each Tagged rs → used_among (rs ++ qs) ≡ rs ++ used_among qs
unfolding used_among
among_append [] qs e = refl
among_append (r ∷ rs) qs e = rw e.0 (ap (λ (l : List (List ℕ)). r ∷ l) (among_append rs qs e.1))

-- a table's used part
module _ (t : List ℕ) where
  pub used_within : used t ≤ room t
  unfolding used_part
  used_within = omega (arith, among_le (records_of t), length_records t)

  pub used_fits : used t * 20 ≤ length t
  used_fits = omega (arith, used_within)

  pub used-first : used_part t ≡ first_records (used t) t
  unfolding used_part records_of
  used-first = sym (among_take (records_of t)) ∙ take-first (used t) (length t / 20) t used_within

  pub used-at : (i : ℕ) → i < used t → get_or (used_part t) i [] ≡ take 20 (drop (i * 20) t)
  used-at i h = ap (λ (l : List (List ℕ)). get_or l i []) used-first ∙ first-at (used t) t i h

  -- the bytes of the first i used records, and of those from the i-th on
  pub used-take : (i : ℕ) → i ≤ used t → bytes_of (take i (used_part t)) ≡ take (i * 20) t
  used-take i h = ap (λ (l : List (List ℕ)). bytes_of (take i l)) used-first ∙ ap bytes_of (take-first i (used t) t h) ∙ first_bytes i t

  pub used-drop : (i : ℕ) → i ≤ used t → bytes_of (drop i (used_part t)) ≡ take ((used t - i) * 20) (drop (i * 20) t)
  used-drop i h =
      ap (λ (l : List (List ℕ)). bytes_of (drop i l)) used-first ∙ ap bytes_of (drop-first i (used t) t h) ∙ first_bytes (used t - i) (drop (i * 20) t)

  pub used_tagged : Each Tagged (used_part t)
  unfolding used_part
  used_tagged = among_tagged (records_of t)

  pub used_sized : Each Sized (used_part t)
  used_sized = rw used-first (first_sized (used t) t used_fits)

  pub used_bytes : bytes_of (used_part t) ≡ take (used t * 20) t
  used_bytes = ap bytes_of used-first ∙ first_bytes (used t) t

  -- the used part and the bytes behind it are the table
  pub used-whole : bytes_of (used_part t) ++ drop (used t * 20) t ≡ t
  used-whole = rw used_bytes (take-append-drop (used t * 20) t)

  pub records_whole : records_of t ≡ used_part t ++ records_of (drop (used t * 20) t)
  records_whole = sym (ap records_of used-whole) ∙ records_append (used_part t) (drop (used t * 20) t) used_sized

  pub records_behind : drop (used t) (records_of t) ≡ records_of (drop (used t * 20) t)
  records_behind = ap (λ (l : List (List ℕ)). drop (used t) l) records_whole ∙ drop_at (used_part t) (records_of (drop (used t * 20) t)) (used t) refl

  -- behind the used part no record is used at first
  pub behind_unused : used_among (records_of (drop (used t * 20) t)) ≡ []
  unfolding used_part
  behind_unused = sym (ap used_among records_behind) ∙ among_behind (records_of t)
