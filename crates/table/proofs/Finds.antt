-- What `find` says of the used part: where the key's first record is, or that no used record has the key.
use Prim.Native.Nat.{ℕ, zero, suc, ◌+◌, ◌-◌, ◌<◌, ◌≤◌}
use mathlib.Core.Bool.{Bool, true, false}
use mathlib.Core.List.{List, [], ◌∷◌}
use mathlib.Core.Path.{◌≡◌, refl, ◌∙◌}
use native.Mathlib.Nat.{not-suc-le-zero, le_of_suc-le-suc}
use native.Mathlib.Omega.{arith}
use lib.ListN.{length, get_or}
use Rattle.sets.proofs.Cases.{both, clash, not_so}
use Rattle.spans.specs.Spans.{same}
use Rattle.table.specs.Table.{key_of, used_part, used, find_among, find}

-- whether the record with index i, counted from 0, has the key
abbrev has : List ℕ → List (List ℕ) → ℕ → Bool
has key rs i = same (key_of (get_or rs i [])) key

-- the record with index i is the first with the key
pub record First (key : List ℕ) (rs : List (List ℕ)) (i : ℕ) : Type 0 where
  pub within : i < length rs
  pub here : same (key_of (get_or rs i [])) key ≡ true
  pub none_before : (j : ℕ) → j < i → same (key_of (get_or rs j [])) key ≡ false

first_later : (key r : List ℕ) (rs : List (List ℕ)) (i : ℕ) → same (key_of r) key ≡ false → First key rs i → First key (r ∷ rs) (suc i)
first_later key r rs i e f =
    record {
      within = omega (arith, f.within);
      here = f.here;
      none_before = earlier;
    }
  where
    earlier : (j : ℕ) → j < suc i → has key (r ∷ rs) j ≡ false
    earlier zero h = e
    earlier (suc j) h = f.none_before j (le_of_suc-le-suc h)

-- the ways of the scan, from a number of records passed
found_among : (key : List ℕ) (passed : ℕ) (rs : List (List ℕ)) → (find_among key passed rs).found ≡ true
    → (i : ℕ) × ((find_among key passed rs).reads ≡ passed + suc i) × First key rs i
unfolding find_among
found_among key passed [] = λ e. clash e refl
found_among key passed (r ∷ rs) =
    both
    (same (key_of r) key)
    (λ q. rw q (λ e. (0, omega arith, record { within = omega arith; here = q; none_before = λ j h. absurd (not-suc-le-zero h) })))
    (λ q. rw q (λ e.
    let f = found_among key (passed + 1) rs e in
    (suc f.0, f.1 ∙ omega arith, first_later key r rs f.0 q f.2)))

missing_among : (key : List ℕ) (passed : ℕ) (rs : List (List ℕ)) → (find_among key passed rs).found ≡ false
    → ((find_among key passed rs).reads ≡ passed + length rs) × ((i : ℕ) → i < length rs → has key rs i ≡ false)
unfolding find_among
missing_among key passed [] = λ e. (omega arith, λ i h. absurd (not-suc-le-zero h))
missing_among key passed (r ∷ rs) =
    both
    (same (key_of r) key)
    (λ q. rw q (λ e. clash refl e))
    (λ q. rw q (λ e.
    let f = missing_among key (passed + 1) rs e in
    (f.0 ∙ omega arith, each q f.1)))
  where
    each : same (key_of r) key ≡ false → ((i : ℕ) → i < length rs → has key rs i ≡ false) → (i : ℕ) → i < suc (length rs) → has key (r ∷ rs) i ≡ false
    each q f zero h = q
    each q f (suc i) h = f i (le_of_suc-le-suc h)

module _ (key t : List ℕ) where
  -- a key that is not found: no used record has it, and all were read
  pub missing_none : (find key t).found ≡ false → (i : ℕ) → i < used t → same (key_of (get_or (used_part t) i [])) key ≡ false
  unfolding find
  missing_none e = (missing_among key 0 (used_part t) e).1

  pub missing_reads : (find key t).found ≡ false → (find key t).reads ≡ used t
  unfolding find
  missing_reads e = (missing_among key 0 (used_part t) e).0 ∙ omega arith

  -- a key that is found: the record at the place read last is the first used one that has it
  pub found_from : (find key t).found ≡ true → 1 ≤ (find key t).reads
  unfolding find
  found_from e = let f = found_among key 0 (used_part t) e in omega (arith, f.1)

  pub found_first : (find key t).found ≡ true → First key (used_part t) ((find key t).reads - 1)
  unfolding find
  found_first e =
      let f = found_among key 0 (used_part t) e in
      let n : (find_among key 0 (used_part t)).reads - 1 ≡ f.0 = omega (arith, f.1) in
      rw n f.2

  pub found_within : (find key t).found ≡ true → (find key t).reads ≤ used t
  found_within e = omega (arith, found_from e, (found_first e).within)

  pub found_here : (find key t).found ≡ true → same (key_of (get_or (used_part t) ((find key t).reads - 1) [])) key ≡ true
  found_here e = (found_first e).here

  pub found_none-before : (find key t).found ≡ true → (i : ℕ) → i < (find key t).reads - 1 → same (key_of (get_or (used_part t) i [])) key ≡ false
  found_none-before e = (found_first e).none_before

  -- a key that no used record has is not found
  pub none_missing : ((i : ℕ) → i < used t → same (key_of (get_or (used_part t) i [])) key ≡ false) → (find key t).found ≡ false
  none_missing n = not_so (λ e. clash (found_here e) (n ((find key t).reads - 1) (found_first e).within))
