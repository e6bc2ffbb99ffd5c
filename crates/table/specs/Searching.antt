-- What the parts of the code's search for a key promise each other. No public promise cites these.
use Rattle.std.specs.Prelude.{ℕ, ◌+◌, ◌%◌, ◌≤◌, Bool, false, cond, List, ◌≡◌, eqb, length, drop}
use Rattle.words.specs.Words.{word_at, BytesAt}
use Rattle.table.specs.Table.{record_bytes, records_of, used_among, Finding, find_among}

-- what looking for a key from an index on gives, counted from 0
abbrev pub find_from : List ℕ → List ℕ → ℕ → Finding
find_from t key i = find_among key i (used_among (drop i (records_of t)))

-- two numbers are a key's words: what its first eight bytes and its last eight spell
pub record Spelt (key : List ℕ) (front back : ℕ) : Type 0 where
  pub whole : length key ≡ 13
  pub front_word : front ≡ word_at key 0
  pub back_word : back ≡ word_at key 5
  pub front_bytes : BytesAt key 0 8
  pub back_bytes : BytesAt key 5 8

-- an answer tells what looking from an index on gives, whichever key has these two words
abbrev pub Answers : List ℕ → ℕ → ℕ → ℕ → Finding → Type 0
Answers t i front back f = (key : List ℕ) → Spelt key front back → f ≡ find_from t key i

-- the search goes on: looking from an index on gives what looking from the next one on gives, whichever key has these two words
abbrev pub GoesOn : List ℕ → ℕ → ℕ → ℕ → Type 0
GoesOn t i front back = (key : List ℕ) → Spelt key front back → find_from t key (i + 1) ≡ find_from t key i

-- a whole record begins at a byte
abbrev pub Begins : List ℕ → ℕ → Type 0
Begins t at = (at % record_bytes ≡ 0) × (at + record_bytes ≤ length t)

-- r says whether the 13 bytes from a place on have these two words, their first eight bytes the one and their last eight the other; they are bytes
abbrev pub Words : List ℕ → ℕ → ℕ → ℕ → Bool → Type 0
Words t at front back r =
    (r ≡ cond (eqb (word_at t (at + 5)) back) (eqb (word_at t at) front) false) × (BytesAt t at 8 × BytesAt t (at + 5) 8)
