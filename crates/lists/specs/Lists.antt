-- Document 01, "The movers at the door": plain lists of servers and of their states, as the roster holds them.
use Rattle.std.specs.Prelude.{ℕ, suc, ◌+◌, Bool, true, false, cond, List, [], ◌∷◌, ◌++◌, eqb, ltb, length, take, drop, Option, None, Some}
-- the two states of a held server, passed on
pub use Rattle.sets.specs.Sets.{working, standby}

-- "servers in rising order": each above the one before it, the first above `last`. Above 0 at the start, so none is 0 and none stands twice.
unfoldable pub rising : ℕ → List ℕ → Bool
rising last [] = true
rising last (s ∷ l) = cond (ltb last s) (rising s l) false

-- "each working or in the horizon"
unfoldable pub all_stated : List ℕ → Bool
all_stated [] = true
all_stated (x ∷ l) = cond (eqb x working) (all_stated l) (cond (eqb x standby) (all_stated l) false)

-- how many servers stand before s: those up to the first that is not below it
unfoldable pub before : ℕ → List ℕ → ℕ
before s [] = 0
before s (y ∷ ys) = cond (ltb y s) (suc (before s ys)) 0

-- x put in behind the first p of the n places in use: those after it move up by one, the places behind stay
unfoldable pub put_in : ℕ → ℕ → ℕ → List ℕ → List ℕ
put_in p n x l = take p l ++ (x ∷ (drop p (take n l) ++ drop (n + 1) l))

-- the place of a server, counted from 0; as many as are held where it isn't there
unfoldable pub place_in : ℕ → List ℕ → ℕ
place_in s [] = 0
place_in s (y ∷ ys) = cond (eqb y s) 0 (suc (place_in s ys))

-- that place, where the server is there
abbrev pub found_in : ℕ → List ℕ → Option ℕ
found_in s l = cond (ltb (place_in s l) (length l)) (Some (place_in s l)) None

-- the place p, counted from 0, taken out of the n places in use: those after it move down by one, the freed place is zero, the places behind stay
unfoldable pub taken_out : ℕ → ℕ → List ℕ → List ℕ
taken_out p n l = take p l ++ (drop (p + 1) (take n l) ++ (0 ∷ drop n l))
