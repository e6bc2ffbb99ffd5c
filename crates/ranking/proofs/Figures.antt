-- Document 01, "Worked figures": P1 to P13 as one table, what the definitions give beside what the document says, by computation.
use Prim.Native.Nat.{ℕ}
use mathlib.Core.Bool.{Bool, cond}
use mathlib.Core.List.{List, [], ◌∷◌, map}
use mathlib.Core.Path.{◌≡◌, refl}
use Rattle.hash.specs.Hash.{stir, stir_all, F, weight, position, distance}
use Rattle.ranking.specs.Methods.{hrw, ring, row_server, row_flag}

-- a figure's mark (9 for P9), what our definitions give, and what the document says
pub record Figure : Type 0 where
  pub mark : ℕ
  pub gives : ℕ
  pub says : ℕ

abbrev P : ℕ → ℕ → ℕ → Figure
P m a b = record { mark = m; gives = a; says = b }

abbrev number : Bool → ℕ
number b = cond b 1 0

-- "working 1, 2, horizon 3"
abbrev working : List ℕ
working = 1 ∷ 2 ∷ []

abbrev horizon : List ℕ
horizon = 3 ∷ []

abbrev pub figures : List Figure
figures =
    P 1 (weight 1 0) 377401575
    ∷ P 2 (weight 2 0) 1495354192
    ∷ P 3 (weight 3 0) 465823161
    ∷ P 4 (weight 4 0) 1583775778
    ∷ P 5 (weight 1 1) 1480916820
    ∷ P 6 (weight 2 1) 391838947
    ∷ P 7 (weight 3 1) 1569338406
    ∷ P 8 (weight 4 1) 480260533
    ∷ P 9 (row_server working 0) 2
    ∷ P 9 (row_flag working horizon 0) 0
    ∷ P 10 (row_server working 1) 1
    ∷ P 10 (row_flag working horizon 1) 1
    ∷ P 11 (weight 2147483649 0) (weight 1 0)
    ∷ P 11 (number (hrw 0 2147483649 1)) 1
    ∷ P 12 (distance 5 4294967290) 11
    ∷ P 12 (distance 4294967289 4294967290) 4294967295
    ∷ P 13 (F (0 ∷ [])) 84696351
    ∷ []

pub figures_right : map (λ (f : Figure). f.gives) figures ≡ map (λ (f : Figure). f.says) figures
unfolding weight distance F stir_all stir
figures_right = refl

-- Further figures, so that a zero byte isn't all that is hashed: the FNV authors' vectors of "a" and "foobar", three servers' positions, two of them
-- the same, and "At equal positions the higher number outranks." (their mark is 0)
abbrev pub further : List Figure
further =
    P 0 (F (97 ∷ [])) 3826002220
    ∷ P 0 (F (102 ∷ 111 ∷ 111 ∷ 98 ∷ 97 ∷ 114 ∷ [])) 3214735720
    ∷ P 0 (position 4026531841) 833780210
    ∷ P 0 (position 15074560) 1309807150
    ∷ P 0 (position 108036203) 1309807150
    ∷ P 0 (number (ring 0 108036203 15074560)) 1
    ∷ P 0 (number (ring 0 15074560 108036203)) 0
    ∷ []

pub further_right : map (λ (f : Figure). f.gives) further ≡ map (λ (f : Figure). f.says) further
unfolding distance F stir_all stir
further_right = refl
