-- The search for a key from an index on, by words and counted in bytes: where it has come to, and its ways on from there.
use Prim.Native.Nat.{ℕ, ◌+◌, ◌*◌, ◌/◌, ◌%◌, ◌<◌}
use mathlib.Core.Bool.{Bool, true, false}
use mathlib.Core.List.{List}
use mathlib.Core.Path.{◌≡◌, refl, ◌∙◌}
use native.Mathlib.Omega.{arith}
use lib.ListN.{get_or, take, drop}
use Rattle.std.specs.Prelude.{Option, Some, None, MatchOption}
use Rattle.std.specs.Option.{unwrap_or}
use Rattle.spans.specs.Spans.{same}
use Rattle.table.specs.declared.Found.{Found}
use Rattle.table.specs.declared.Found.TheVariants.{Nothing}
use Rattle.table.specs.Table.{used_tag, used_part, room, Finding, find, finding_of}
use Rattle.table.specs.Searching.{find_from, Spelt, Answers, GoesOn, Words}
use Rattle.table.proofs.Keys.{spelt_same}
use Rattle.table.proofs.Places.{find_stop, find_here, find_more, find-end}

pub from_first : (t key : List ℕ) → find_from t key 0 ≡ find key t
unfolding find used_part
from_first t key = refl

-- the search from index i on has come to a byte where a record begins: looking from there on gives the whole answer, whichever key has these two words
pub record Come (t : List ℕ) (i front back at : ℕ) : Type 0 where
  pub whole : at % 20 ≡ 0
  pub so : (key : List ℕ) → Spelt key front back → find_from t key (at / 20) ≡ find_from t key i

pub come_at : (t : List ℕ) (front back at : ℕ) → at % 20 ≡ 0 → Come t (at / 20) front back at
come_at t front back at h = record { whole = h; so = λ key k. refl }

module _ (t : List ℕ) (i front back at : ℕ) (c : Come t i front back at) where
  -- no record is left
  pub come_end : at ≡ room t * 20 → (key : List ℕ) → Spelt key front back → record { found = false; reads = room t } ≡ find_from t key i
  come_end h key k = let e : at / 20 ≡ room t = omega arith in find-end t (room t) (omega arith) key _ (rw e at (c.so key k))

  -- what the record here tells, by an answer or by none
  pub come_told : (f : Finding) → Answers t (at / 20) front back f → Answers t i front back f
  come_told f a key k = a key k ∙ c.so key k

  pub come_goes : GoesOn t (at / 20) front back → Come t i front back (at + 20)
  come_goes g =
      let next : (at + 20) / 20 ≡ at / 20 + 1 = omega arith in
      record { whole = omega (arith, c.whole); so = λ key k. rw next (g key k ∙ c.so key k) }

-- the last record's answer, or, where it tells none, that no record is the key's
pub come_last : (t : List ℕ) (i front back at : ℕ) → Come t i front back at → at + 20 ≡ room t * 20 → (o : Option Found)
    → MatchOption o (GoesOn t (at / 20) front back) (λ f. Answers t (at / 20) front back (finding_of f))
    → Answers t i front back (finding_of (unwrap_or o (Nothing (room t))))
come_last t i front back at c e None g = come_end t i front back (at + 20) (come_goes t i front back at c g) e
come_last t i front back at c e (Some f) a = come_told t i front back at c (finding_of f) a

module _ (t : List ℕ) (i front back at : ℕ) (c : Come t i front back at) where
  module _ (within : at / 20 < room t) where
    here : at / 20 * 20 ≡ at
    here = omega (arith, c.whole)

    -- the record here isn't used
    pub come_stop : used_tag (get_or t (at + 13) 0) ≡ false → (key : List ℕ) → Spelt key front back
        → record { found = false; reads = at / 20 } ≡ find_from t key i
    come_stop tag key k = find_stop t (at / 20) within key _ (c.so key k) (rw here tag)

    -- it is used: it is the key's, or the search goes on
    module _ (tag : used_tag (get_or t (at + 13) 0) ≡ true) (r : Bool) (w : Words t at front back r) where
      told : (key : List ℕ) → Spelt key front back → same (take 13 (drop (at / 20 * 20) t)) key ≡ r
      told key k = rw here (spelt_same t key at front back r k (omega (arith, here)) w.1.0 w.1.1 w.0)

      pub come_here : r ≡ true → (key : List ℕ) → Spelt key front back → record { found = true; reads = at / 20 + 1 } ≡ find_from t key i
      come_here e key k = find_here t (at / 20) within key _ (c.so key k) (rw here tag) (told key k ∙ e)

      pub come_on : r ≡ false → Come t i front back (at + 20)
      come_on e =
          let next : (at + 20) / 20 ≡ at / 20 + 1 = omega arith in
          record {
            whole = omega (arith, c.whole);
            so = λ key k. rw next (find_more t (at / 20) within key _ (c.so key k) (rw here tag) (told key k ∙ e));
          }
