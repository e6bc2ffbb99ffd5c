-- The places in use, and those behind them, after a place was put in or taken out.
use Prim.Native.Nat.{ℕ, suc, ◌+◌, ◌-◌, ◌<◌, ◌≤◌}
use mathlib.Core.List.{List, ◌∷◌, ◌++◌, append_assoc}
use mathlib.Core.Path.{◌≡◌, sym}
use native.Mathlib.Numerals.{add-one}
use native.Mathlib.Omega.{arith}
use lib.ListN.{length, take, drop, length-append, length-take, length-drop}
use lib.Seq.{take-take, take_at, drop_at}
use Rattle.lists.specs.Lists.{put_in, taken_out}

-- the places in use, with x put in behind the first p of n, and with the place p taken out
front_in : ℕ → ℕ → ℕ → List ℕ → List ℕ
front_in p n x l = take p l ++ (x ∷ drop p (take n l))

front_out : ℕ → ℕ → List ℕ → List ℕ
front_out p n l = take p l ++ drop (p + 1) (take n l)

module _ (p n x : ℕ) (l : List ℕ) (h : p ≤ n) (k : n < length l) where
  front_in_length : length (front_in p n x l) ≡ n + 1
  unfolding front_in
  front_in_length = simp (length-append, length-take, length-drop) (omega arith)

  put_in_split : put_in p n x l ≡ (front_in p n x l) ++ drop (n + 1) l
  unfolding put_in front_in
  put_in_split = sym (append_assoc (take p l) (x ∷ drop p (take n l)) (drop (n + 1) l))

  pub held_put_in : take (n + 1) (put_in p n x l) ≡ take p (take n l) ++ (x ∷ drop p (take n l))
  unfolding front_in
  held_put_in = rw (put_in_split, take_at (front_in p n x l) (drop (n + 1) l) (n + 1) front_in_length) (rw (take-take p n l h))

  pub rest-put_in : drop (n + 1) (put_in p n x l) ≡ drop (n + 1) l
  rest-put_in = rw put_in_split (drop_at (front_in p n x l) (drop (n + 1) l) (n + 1) front_in_length)

  pub length-put_in : length (put_in p n x l) ≡ length l
  length-put_in = rw put_in_split (simp (length-append, length-drop) (omega (arith, front_in_length)))

module _ (p n : ℕ) (l : List ℕ) (h : p < n) (k : n ≤ length l) where
  front_out_length : length (front_out p n l) ≡ n - 1
  unfolding front_out
  front_out_length = simp (length-append, length-take, length-drop) (omega arith)

  taken_out_split : taken_out p n l ≡ (front_out p n l) ++ (0 ∷ drop n l)
  unfolding taken_out front_out
  taken_out_split = sym (append_assoc (take p l) (drop (p + 1) (take n l)) (0 ∷ drop n l))

  pub held_taken_out : take (n - 1) (taken_out p n l) ≡ take p (take n l) ++ drop (suc p) (take n l)
  unfolding front_out
  held_taken_out =
      rw (taken_out_split, take_at (front_out p n l) (0 ∷ drop n l) (n - 1) front_out_length) (rw (take-take p n l (omega arith), add-one))

  pub rest-taken_out : drop (n - 1) (taken_out p n l) ≡ 0 ∷ drop n l
  rest-taken_out = rw taken_out_split (drop_at (front_out p n l) (0 ∷ drop n l) (n - 1) front_out_length)

  pub length-taken_out : length (taken_out p n l) ≡ length l
  length-taken_out = rw taken_out_split (simp (length-append, length-drop) (omega (arith, front_out_length)))
