-- Document 01, "Hashes", end: "So each method gives every key a strict ranking of all servers. The choice over a set is its highest-ranked member."
use Rattle.std.specs.Prelude.{ℕ, Bool, true, false, cond, ◌||◌, List, [], ◌∷◌, ◌++◌, ◌≢◌, ◌≡◌}
use Rattle.sets.specs.Sets.{Within}
use Rattle.ranking.specs.declared.Pick.{Pick}

-- a ranking, as the test whether its first server outranks its second
abbrev pub Ranking : Type 0
Ranking = ℕ → ℕ → Bool

-- strict, over all servers: none outranks itself, who outranks one outranks all that one outranks, and of two different servers one outranks the other
pub record Strict (R : Ranking) : Type 0 where
  pub irreflexive : (a : ℕ) → R a a ≡ false
  pub transitive : (a b c : ℕ) → R a b ≡ true → R b c ≡ true → R a c ≡ true
  pub total : (a b : ℕ) → R a b ≡ false → R b a ≡ false → a ≡ b

-- the higher-ranked of two
abbrev pub higher : Ranking → ℕ → ℕ → ℕ
higher R c s = cond (R s c) s c

-- the highest-ranked of c and the members of a list
abbrev pub highest : Ranking → ℕ → List ℕ → ℕ
highest R c [] = c
highest R c (s ∷ l) = highest R (higher R c s) l

-- "The choice over a set is its highest-ranked member"; 0, which is no server, over none
abbrev pub choice : Ranking → List ℕ → ℕ
choice R [] = 0
choice R (s ∷ l) = highest R s l

-- some member of the list outranks c
abbrev pub outranked : Ranking → ℕ → List ℕ → Bool
outranked R c [] = false
outranked R c (h ∷ l) = R h c || outranked R c l

-- the choice is unsafe: some horizon server outranks it. Where no server works there is no choice, and nothing is unsafe.
abbrev pub unsafe : Ranking → List ℕ → List ℕ → Bool
unsafe R [] horizon = false
unsafe R (s ∷ working) horizon = outranked R (choice R (s ∷ working)) horizon

-- what a method gives a packet: a server, and whether that choice is unsafe
abbrev pub pick_of : ℕ → Bool → Pick
pick_of s f = record { server = s; flag = f }

-- what a packet without a record is given: the choice over the working set, and whether it is unsafe
abbrev pub picked : Ranking → List ℕ → List ℕ → Pick
picked R working horizon = pick_of (choice R working) (unsafe R working horizon)

-- "adding some set of horizon movers would change that choice": there is a list of horizon servers whose addition to the working ones changes the choice
abbrev pub SomeChange : Ranking → List ℕ → List ℕ → Type 0
SomeChange R working horizon =
    (added : List ℕ) × Within added horizon × (choice R (working ++ added) ≢ choice R working)
