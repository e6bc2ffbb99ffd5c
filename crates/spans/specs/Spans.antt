-- Whole spans of bytes or other numbers, as a caller lends them.
use Rattle.std.specs.Prelude.{ℕ, ◌-◌, min, Bool, true, false, cond, List, [], ◌∷◌, ◌++◌, eqb, length, drop, replicate}

-- the same bytes, as many of them
unfoldable pub same : List ℕ → List ℕ → Bool
same [] [] = true
same [] (y ∷ ys) = false
same (x ∷ xs) [] = false
same (x ∷ xs) (y ∷ ys) = cond (eqb x y) (same xs ys) false

-- every byte is zero
unfoldable pub all_zero : List ℕ → Bool
all_zero [] = true
all_zero (x ∷ xs) = cond (eqb x 0) (all_zero xs) false

-- all bytes zeroed
abbrev pub zeroed : List ℕ → List ℕ
zeroed xs = replicate (length xs) 0

-- the gap that the first k places are is closed: what follows moves to the front, and as many of x come in behind
abbrev pub closed_with : {X : Type 0} → X → ℕ → List X → List X
closed_with x k xs = drop k xs ++ replicate (min k (length xs)) x

-- the same, with zeros coming in behind
abbrev pub closed : ℕ → List ℕ → List ℕ
closed k xs = closed_with 0 k xs

-- what follows the first k places moves to the front; behind it the last k places stay as they are
abbrev pub shifted : {X : Type 0} → ℕ → List X → List X
shifted k xs = drop k xs ++ drop (length xs - k) xs
