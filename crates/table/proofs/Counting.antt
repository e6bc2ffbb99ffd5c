-- The count of the used records, which looks for the first that isn't used.
use Prim.Native.Nat.{ℕ, zero, suc, ◌<◌}
use mathlib.Core.Bool.{true, false}
use mathlib.Core.List.{List}
use mathlib.Core.Path.{◌≡◌, refl}
use native.Mathlib.Numerals.{add-one}
use lib.ListN.{length, drop}
use Rattle.std.specs.Prelude.{Option}
use Rattle.std.specs.Option.{MatchOption, unwrap_or}
use Rattle.std.specs.List.{AllWithin, HoldsAt}
use Rattle.std.proofs.lemmas.Iterator.{index_from_first}
use Rattle.std.specs.Simd.{first_chunks}
use Rattle.table.specs.Table.{record_bytes, tag_of, used_tag, first_records, used_among}

-- a table's first chunks of 20 bytes are its first records
pub chunks-records : (n : ℕ) (t : List ℕ) → first_chunks record_bytes n t ≡ first_records n t
unfolding first_records
chunks-records zero t = refl
chunks-records (suc n) t = rw (chunks-records n (drop record_bytes t))

abbrev pub Used : List ℕ → Type 0
Used r = used_tag (tag_of r) ≡ true

abbrev pub Unused : List ℕ → Type 0
Unused r = used_tag (tag_of r) ≡ false

-- before the first record that isn't used, all are
pub used-first : (rs : List (List ℕ)) (r : Option ℕ)
    → MatchOption r (AllWithin Used rs 0 (length rs)) (λ i. (i < length rs) × HoldsAt Unused rs i × AllWithin Used rs 0 i)
    → length (used_among rs) ≡ unwrap_or r (length rs)
unfolding used_among
used-first rs r h =
    index_from_first (λ (l : List (List ℕ)). length (used_among l)) Unused Used refl (λ y ys e. rw e) (λ y ys e. rw (e, add-one)) rs r h
