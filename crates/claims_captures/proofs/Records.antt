-- The whole records that bytes begin with, and the bytes behind them: how they unfold, without a bound; and what they are when more bytes
-- come.
use Prim.Native.Nat.{ℕ, zero, suc, ◌+◌, ◌-◌, ◌<◌, ◌≤◌}
use mathlib.Core.Bool.{Bool, true, false, cond}
use mathlib.Core.List.{List, [], ◌∷◌, ◌++◌}
use mathlib.Core.Path.{◌≡◌, refl, sym, ap, ◌∙◌}
use native.Mathlib.Omega.{arith}
use lib.ListN.{length, get_or, drop, length-append, length-drop, get_or-append}
use lib.Seq.{take-append-le, drop-append-le, drop-drop}
use borrow.Author.Tests.{lt-ltb, le-ltb, le-leb}
use Rattle.sets.proofs.Cases.{both}
use Rattle.pcap.specs.Captures.{captured, record_size, record_bytes, packet, behind, whole, packets, unread}
use Rattle.pcap.proofs.Files.{whole_there}

-- ---- a whole record

-- bytes that don't reach over a record's header are no whole record
pub few_whole : (low : Bool) (bytes : List ℕ) → length bytes < record_bytes → whole low bytes ≡ false
unfolding whole
few_whole low bytes h = rw (lt-ltb (length bytes) record_bytes h)

-- a record that is whole has its header and its captured bytes
pub whole_long : (low : Bool) (bytes : List ℕ) → whole low bytes ≡ true → record_bytes ≤ length bytes
whole_long low bytes w = let size = whole_there low bytes w in omega arith

pub size_whole : (low : Bool) (bytes : List ℕ) → record_size low bytes ≤ length bytes → whole low bytes ≡ true
unfolding whole
size_whole low bytes h = rw (le-ltb (length bytes) record_bytes (omega arith), le-leb (record_size low bytes) (length bytes) h)

-- what is behind it is shorter
pub behind-length : (low : Bool) (bytes : List ℕ) → whole low bytes ≡ true → length (behind low bytes) + record_size low bytes ≡ length bytes
behind-length low bytes w = let size = whole_there low bytes w in rw length-drop (omega arith)

-- ---- no bound

-- any bound from the number of bytes on gives the same
pub packets-end : (n m : ℕ) (low : Bool) (bytes : List ℕ) → length bytes ≤ n → length bytes ≤ m → packets n low bytes ≡ packets m low bytes
unfolding packets
packets-end zero zero low bytes hn hm = refl
packets-end zero (suc m) low bytes hn hm = rw (few_whole low bytes (omega arith))
packets-end (suc n) zero low bytes hn hm = rw (few_whole low bytes (omega arith))
packets-end (suc n) (suc m) low bytes hn hm =
    both (whole low bytes) (λ w. rw w
    (let shorter = behind-length low bytes w in
    ap (λ (ps : List (List ℕ)). packet low bytes ∷ ps) (packets-end n m low (behind low bytes) (omega arith) (omega arith))))
    (λ w. rw w)

pub unread-end : (n m : ℕ) (low : Bool) (bytes : List ℕ) → length bytes ≤ n → length bytes ≤ m → unread n low bytes ≡ unread m low bytes
unfolding unread
unread-end zero zero low bytes hn hm = refl
unread-end zero (suc m) low bytes hn hm = rw (few_whole low bytes (omega arith))
unread-end (suc n) zero low bytes hn hm = rw (few_whole low bytes (omega arith))
unread-end (suc n) (suc m) low bytes hn hm =
    both (whole low bytes) (λ w. rw w
    (let shorter = behind-length low bytes w in unread-end n m low (behind low bytes) (omega arith) (omega arith)))
    (λ w. rw w)

-- the packets of bytes, and what is left of them, each with a bound that is none
abbrev pub packets_of : Bool → List ℕ → List (List ℕ)
packets_of low bytes = packets (length bytes) low bytes

abbrev pub left_of : Bool → List ℕ → List ℕ
left_of low bytes = unread (length bytes) low bytes

pub packets_unfold : (low : Bool) (bytes : List ℕ)
    → packets_of low bytes ≡ cond (whole low bytes) (packet low bytes ∷ packets_of low (behind low bytes)) []
unfolding packets
packets_unfold low bytes =
    packets-end (length bytes) (suc (length bytes)) low bytes (omega arith) (omega arith)
    ∙ both (whole low bytes) (λ w. rw w
    (let shorter = behind-length low bytes w in
    ap (λ (ps : List (List ℕ)). packet low bytes ∷ ps)
    (packets-end (length bytes) (length (behind low bytes)) low (behind low bytes) (omega arith) (omega arith))))
    (λ w. rw w)

pub unread_unfold : (low : Bool) (bytes : List ℕ) → left_of low bytes ≡ cond (whole low bytes) (left_of low (behind low bytes)) bytes
unfolding unread
unread_unfold low bytes =
    unread-end (length bytes) (suc (length bytes)) low bytes (omega arith) (omega arith)
    ∙ both (whole low bytes) (λ w. rw w
    (let shorter = behind-length low bytes w in
    unread-end (length bytes) (length (behind low bytes)) low (behind low bytes) (omega arith) (omega arith)))
    (λ w. rw w)

-- ---- by whether the first record is whole

module _ (low : Bool) (bytes : List ℕ) (w : whole low bytes ≡ false) where
  pub packets-none : packets_of low bytes ≡ []
  packets-none = packets_unfold low bytes ∙ rw w

  pub left_all : left_of low bytes ≡ bytes
  left_all = unread_unfold low bytes ∙ rw w

module _ (low : Bool) (bytes : List ℕ) (w : whole low bytes ≡ true) where
  pub packets-first : packets_of low bytes ≡ packet low bytes ∷ packets_of low (behind low bytes)
  packets-first = packets_unfold low bytes ∙ rw w

  pub left_first : left_of low bytes ≡ left_of low (behind low bytes)
  left_first = unread_unfold low bytes ∙ rw w

-- ---- more bytes

-- the captured length is read from the record's bytes 8 to 11
pub captured-same : (low : Bool) (b c : List ℕ) → ((i : ℕ) → i < record_bytes → get_or b i 0 ≡ get_or c i 0) → captured low b ≡ captured low c
unfolding captured
captured-same true b c same = rw (same 8 (omega arith), same 9 (omega arith), same 10 (omega arith), same 11 (omega arith))
captured-same false b c same = rw (same 8 (omega arith), same 9 (omega arith), same 10 (omega arith), same 11 (omega arith))

pub captured-append : (low : Bool) (b g : List ℕ) → record_bytes ≤ length b → captured low (b ++ g) ≡ captured low b
captured-append low b g long = captured-same low (b ++ g) b (λ i h. get_or-append b g 0 i (omega arith))

-- a whole record stays as it is
module _ (low : Bool) (b g : List ℕ) (w : whole low b ≡ true) where
  pub whole_append : whole low (b ++ g) ≡ true
  whole_append =
      size_whole low (b ++ g)
      (rw (captured-append low b g (whole_long low b w), length-append b g) (omega (arith, whole_there low b w)))

  pub packet-append : packet low (b ++ g) ≡ packet low b
  packet-append =
      rw (captured-append low b g (whole_long low b w), drop-append-le record_bytes b g (whole_long low b w))
      (take-append-le (captured low b) (drop record_bytes b) g (simp length-drop (omega (arith, whole_there low b w))))

  pub behind-append : behind low (b ++ g) ≡ behind low b ++ g
  behind-append = rw (captured-append low b g (whole_long low b w)) (drop-append-le (record_size low b) b g (whole_there low b w))

-- the packets of the first bytes, then those of what was left of them with the bytes that came
pub packets-append : (n : ℕ) (low : Bool) (b g : List ℕ) → length b ≤ n
    → packets_of low (b ++ g) ≡ packets_of low b ++ packets_of low (left_of low b ++ g)
packets-append zero low b g h = let w = few_whole low b (omega arith) in rw (packets-none low b w, left_all low b w)
packets-append (suc n) low b g h =
    both (whole low b) (λ w.
    let shorter = behind-length low b w in
    packets-first low (b ++ g) (whole_append low b g w)
    ∙ rw (packet-append low b g w, behind-append low b g w, packets-append n low (behind low b) g (omega arith), packets-first low b w, left_first low b w))
    (λ w. rw (packets-none low b w, left_all low b w))

pub left_append : (n : ℕ) (low : Bool) (b g : List ℕ) → length b ≤ n → left_of low (b ++ g) ≡ left_of low (left_of low b ++ g)
left_append zero low b g h = let w = few_whole low b (omega arith) in rw (left_all low b w)
left_append (suc n) low b g h =
    both (whole low b) (λ w.
    let shorter = behind-length low b w in
    left_first low (b ++ g) (whole_append low b g w)
    ∙ rw (behind-append low b g w, left_append n low (behind low b) g (omega arith), left_first low b w))
    (λ w. rw (left_all low b w))

-- what is left are the last bytes
pub record Last (b left : List ℕ) : Type 0 where
  pub fewer : length left ≤ length b
  pub last : left ≡ drop (length b - length left) b

last_all : (b : List ℕ) → Last b b
last_all b =
    let none : length b - length b ≡ 0 = omega arith in
    record { fewer = omega arith; last = ap (λ (n : ℕ). drop n b) (sym none) }

last_behind : (low : Bool) (b left : List ℕ) → whole low b ≡ true → Last (behind low b) left → Last b left
last_behind low b left w l =
    let shorter = behind-length low b w in
    let far : record_size low b + (length (behind low b) - length left) ≡ length b - length left = omega (arith, l.fewer) in
    record {
      fewer = omega (arith, l.fewer);
      last =
          l.last
          ∙ drop-drop (length (behind low b) - length left) (record_size low b) b
          ∙ ap (λ (n : ℕ). drop n b) far;
    }

pub left_last : (n : ℕ) (low : Bool) (b : List ℕ) → length b ≤ n → Last b (left_of low b)
left_last zero low b h = rw (left_all low b (few_whole low b (omega arith))) (last_all b)
left_last (suc n) low b h =
    both (whole low b) (λ w.
    let shorter = behind-length low b w in
    rw (left_first low b w) (last_behind low b (left_of low (behind low b)) w (left_last n low (behind low b) (omega arith))))
    (λ w. rw (left_all low b w) (last_all b))
