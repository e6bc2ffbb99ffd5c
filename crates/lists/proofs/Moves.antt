-- One place put in or taken out of a list, by moving a lent part of it.
use Prim.Native.Nat.{ℕ, suc, ◌+◌, ◌-◌, ◌<◌, ◌≤◌, min}
use mathlib.Core.List.{List, ◌∷◌, ◌++◌, append_assoc}
use mathlib.Core.Path.{◌≡◌, sym, ap, ◌∙◌}
use native.Mathlib.Omega.{arith}
use lib.ListN.{length, take, drop, length-take, length-drop}
use lib.Seq.{take-take, length-take-le, drop-drop, take-add, drop_at}
use borrow.Rule.Slice.PartMut.{post_of, Post-is}
use Rattle.spans.specs.Spans.{closed}
use Rattle.lists.specs.Lists.{put_in, taken_out}

-- a part of the places in use, by its bounds
pub drop-take : (p n : ℕ) (l : List ℕ) → p ≤ n → p ≤ length l → drop p (take n l) ≡ take (n - p) (drop p l)
drop-take p n l h k =
    let e : n ≡ p + (n - p) = omega arith in
    ap (λ (m : ℕ). drop p (take m l)) e ∙ rw (take-add p (n - p) l) (drop_at (take p l) (take (n - p) (drop p l)) p (length-take-le p l k))

-- a list into whose part from p to the end of the places in use, and one further, x was pushed
pub put_in_lem : (p q n x : ℕ) (l z : List ℕ) → p ≤ n → n < length l → p ≡ q
    → z ≡ take (length (take (n + 1 - p) (drop p l))) (x ∷ take (n + 1 - p) (drop p l))
    → take p l ++ (z ++ post_of p (n + 1 - p) l) ≡ put_in q n x l
unfolding put_in
put_in_lem p q n x l z h k g e =
    let m : p ≤ n + 1 = omega arith in
    let c : length (take (n + 1 - p) (drop p l)) ≡ suc (n - p) = simp (length-take, length-drop) (omega arith) in
    let t : take (n - p) (take (n + 1 - p) (drop p l)) ≡ drop p (take n l) =
    take-take (n - p) (n + 1 - p) (drop p l) (omega arith) ∙ sym (drop-take p n l h (omega arith)) in
    rw (Post-is p (n + 1) l m, e, c, t) (ap (λ (i : ℕ). put_in i n x l) g)

-- a list whose part from p to the end of the places in use was closed by one
pub take_out : (p n : ℕ) (l z : List ℕ) → p < n → n ≤ length l → z ≡ closed 1 (take (n - p) (drop p l))
    → take p l ++ (z ++ post_of p (n - p) l) ≡ taken_out p n l
unfolding taken_out
take_out p n l z h k e =
    let m : p ≤ n = omega arith in
    let c : min 1 (length (take (n - p) (drop p l))) ≡ 1 = simp (length-take, length-drop) (omega arith) in
    let t : drop 1 (take (n - p) (drop p l)) ≡ drop (p + 1) (take n l) =
    ap (λ (u : List ℕ). drop 1 u) (sym (drop-take p n l m (omega arith))) ∙ drop-drop 1 p (take n l) in
    rw (Post-is p n l m, e, c, t, append_assoc)
