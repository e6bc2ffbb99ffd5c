-- Sets of numbers, held as lists: only which numbers stand there counts, neither their order nor repeats.
use Rattle.std.specs.Prelude.{ℕ, Bool, true, false, cond, ◌||◌, List, [], ◌∷◌, ◌≡◌, eqb}

-- x is a member
abbrev pub member : ℕ → List ℕ → Bool
member x [] = false
member x (y ∷ l) = eqb x y || member x l

-- every member of the first is a member of the second
abbrev pub Within : List ℕ → List ℕ → Type 0
Within m l = (x : ℕ) → member x m ≡ true → member x l ≡ true

-- the two have the same members
abbrev pub SameSet : List ℕ → List ℕ → Type 0
SameSet l m = (x : ℕ) → member x l ≡ member x m

-- the state of a held server: "It is working, in the horizon, or unknown." The document leaves the two numbers open; an unknown server has none of them
abbrev pub working : ℕ
working = 1

abbrev pub standby : ℕ
standby = 2

-- "Working and horizon together hold at most 64."
abbrev pub most_servers : ℕ
most_servers = 64

-- the servers that are in a state: those at whose place the second list has k
unfoldable pub in_state : ℕ → List ℕ → List ℕ → List ℕ
in_state k [] xs = []
in_state k (s ∷ ss) [] = []
in_state k (s ∷ ss) (x ∷ xs) = cond (eqb x k) (s ∷ in_state k ss xs) (in_state k ss xs)
