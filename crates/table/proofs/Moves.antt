-- Bytes that a table's functions move: a key copied to a place, a record copied towards the front.
use Prim.Native.Nat.{ℕ, ◌+◌, ◌*◌, ◌-◌, ◌<◌, ◌≤◌, min}
use mathlib.Core.List.{List, [], ◌∷◌, ◌++◌, append-nil}
use mathlib.Core.Path.{◌≡◌, sym, ap, ◌∙◌}
use native.Mathlib.Omega.{arith}
use lib.ListN.{length, take, drop, replicate, length-append, length-drop, take-append-drop, drop_of_length-le}
use lib.Seq.{paste, drop-append-add, drop-drop, take_at, take-add}
use borrow.Rule.Slice.PartMut.{mid_of, put_mid, mid_len, Post-is}
use borrow.Author.Tests.{lt-ltb, le-ltb}
use Rattle.bigendian.specs.BigEndian.{bytes4}
use Rattle.spans.specs.Spans.{closed}
use Rattle.table.specs.Table.{room, new_record, written_after}

-- a front changed and its length kept: from there on the bytes are the old ones
pub still_drop : (front t : List ℕ) (n j : ℕ) → length front ≡ n → n ≤ j → drop j (front ++ drop n t) ≡ drop j t
still_drop front t n j e h =
    let q : j ≡ length front + (j - n) = omega arith in
    let r : n + (j - n) ≡ j = omega arith in
    ap (λ (m : ℕ). drop m (front ++ drop n t)) q ∙ drop-append-add front (drop n t) (j - n) ∙ drop-drop (j - n) n t ∙ ap (λ (m : ℕ). drop m t) r

-- a record copied to where it stands
pub copied_to_itself : (t : List ℕ) (w i : ℕ) → w ≡ i → t ≡ paste t (w * 20) (drop (i * 20) t) 20
copied_to_itself t w i e = rw (e, ← take-add (i * 20) 20 t) (sym (take-append-drop (i * 20 + 20) t))

-- a place's front and what stands behind it overwritten: a new record
pub filled : (s key zs : List ℕ) (server : ℕ) → length s ≡ 20 → length key ≡ 13 → zs ≡ 1 ∷ 0 ∷ 0 ∷ bytes4 server
    → put_mid 13 (length (key ++ drop 13 s) - 13) (key ++ drop 13 s) zs ≡ new_record key server
filled s key zs server n k e =
    let whole : length (key ++ drop 13 s) ≡ 20 = simp (length-append, length-drop) (omega arith) in
    let none : drop 20 (key ++ drop 13 s) ≡ [] = drop_of_length-le (key ++ drop 13 s) {i = 20} (omega arith) in
    rw (whole, Post-is 13 20 (key ++ drop 13 s) (omega arith), none, take_at key (drop 13 s) 13 k, e, append-nil)

-- a new record written over the place behind the first n
pub write_in : (t z key : List ℕ) (n server : ℕ) → n < room t → z ≡ new_record key server
    → put_mid (n * 20) ((n + 1) * 20 - n * 20) t z ≡ written_after n key server t
unfolding written_after
write_in t z key n server h e =
    let f : n * 20 ≤ (n + 1) * 20 = omega arith in
    rw (lt-ltb n (room t) h, Post-is (n * 20) ((n + 1) * 20) t f, e)

pub write_out : (t key : List ℕ) (n server : ℕ) → room t ≤ n → t ≡ written_after n key server t
unfolding written_after
write_out t key n server h = rw (le-ltb n (room t) h)

-- closing the part from record i to the n-th leaves the bytes before and behind it
pub gap_closed : (t z : List ℕ) (i n : ℕ) → i < n → n * 20 ≤ length t → z ≡ closed 20 (mid_of (i * 20) (n * 20 - i * 20) t)
    → put_mid (i * 20) (n * 20 - i * 20) t z ≡ take (i * 20) t ++ ((drop 20 (take (n * 20 - i * 20) (drop (i * 20) t)) ++ replicate 20 0) ++ drop (n * 20) t)
gap_closed t z i n h l e =
    let m : min 20 (length (mid_of (i * 20) (n * 20 - i * 20) t)) ≡ 20 = omega (arith, mid_len (i * 20) (n * 20) t l) in
    let f : i * 20 ≤ n * 20 = omega arith in
    rw (Post-is (i * 20) (n * 20) t f, e, m)
