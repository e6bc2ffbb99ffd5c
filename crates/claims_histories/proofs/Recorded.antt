-- Records as a list: a new record, one taken away and all of a server's taken away leave no key twice and every record naming a working server.
use Prim.Native.Nat.{ℕ, zero, suc, ◌<◌}
use mathlib.Core.Bool.{true, false}
use mathlib.Core.List.{List, [], ◌∷◌, ◌++◌, map}
use mathlib.Core.Path.{◌≡◌, refl, ◌∙◌}
use native.Mathlib.Nat.{not-suc-le-zero, le_of_suc-le-suc}
use native.Mathlib.Omega.{arith}
use lib.Dec.{eqb}
use lib.ListN.{length, get_or}
use Rattle.sets.proofs.Cases.{both, clash, or_left, not_so}
use Rattle.spans.specs.Spans.{same}
use Rattle.spans.proofs.Scans.{same_equal, same_self}
use Rattle.roster.specs.declared.Roster.{Roster}
use Rattle.roster.specs.Roster.{state_of, working}
use Rattle.table.proofs.HalfClosed.{half_key, half_server, half_at}
use Rattle.table.specs.Table.{key_of, server_of, Rec, rec_of, without, not_naming}
use Rattle.claims_histories.specs.Histories.{recorded, Distinct, AllWorking}

same_swap : (a b : List ℕ) → same a b ≡ false → same b a ≡ false
same_swap a b e = not_so (λ t. let q : same a b ≡ true = rw (same_equal b a t) (same_self a) in clash q e)

-- whether a key is recorded, after each change
recorded-append : (key : List ℕ) (es : List Rec) (e : Rec) → recorded key es ≡ false → same e.key key ≡ false
    → recorded key (es ++ (e ∷ [])) ≡ false
recorded-append key [] e n s = rw s
recorded-append key (x ∷ es) e n s =
    both
    (same x.key key)
    (λ t. clash (or_left (recorded key es) t) n)
    (λ t. rw t (recorded-append key es e (rw t at n) s))

recorded-without : (key : List ℕ) (place : ℕ) (rs : List (List ℕ)) → recorded key (map rec_of rs) ≡ false
    → recorded key (map rec_of (without place rs)) ≡ false
unfolding without
recorded-without key zero rs n = n
recorded-without key (suc i) [] n = n
recorded-without key (suc zero) (r ∷ rs) n =
    both (same (key_of r) key) (λ t. clash (or_left (recorded key (map rec_of rs)) t) n) (λ t. rw t at n)
recorded-without key (suc (suc i)) (r ∷ rs) n =
    both
    (same (key_of r) key)
    (λ t. clash (or_left (recorded key (map rec_of rs)) t) n)
    (λ t. rw t (recorded-without key (suc i) rs (rw t at n)))

recorded-not_naming : (key : List ℕ) (s : ℕ) (rs : List (List ℕ)) → recorded key (map rec_of rs) ≡ false
    → recorded key (map rec_of (not_naming s rs)) ≡ false
unfolding not_naming
recorded-not_naming key s [] n = n
recorded-not_naming key s (r ∷ rs) n =
    both
    (same (key_of r) key)
    (λ t. clash (or_left (recorded key (map rec_of rs)) t) n)
    (λ t.
    both
    (eqb (server_of r) s)
    (λ u. rw u (recorded-not_naming key s rs (rw t at n)))
    (λ u. rw (u, t) (recorded-not_naming key s rs (rw t at n))))

-- a key that no place has is not recorded
pub recorded_nowhere : (key : List ℕ) (rs : List (List ℕ)) → ((i : ℕ) → i < length rs → same (key_of (get_or rs i [])) key ≡ false)
    → recorded key (map rec_of rs) ≡ false
recorded_nowhere key [] n = refl
recorded_nowhere key (r ∷ rs) n = rw (n 0 (omega arith)) (recorded_nowhere key rs (λ i h. n (suc i) (omega arith)))

-- no key twice
pub distinct_append : (es : List Rec) (e : Rec) → Distinct es → recorded e.key es ≡ false → Distinct (es ++ (e ∷ []))
distinct_append [] e d n = (refl, tt)
distinct_append (x ∷ es) e d n =
    both
    (same x.key e.key)
    (λ t. clash (or_left (recorded e.key es) t) n)
    (λ t. (recorded-append x.key es e d.0 (same_swap x.key e.key t), distinct_append es e d.1 (rw t at n)))

pub distinct_without : (place : ℕ) (rs : List (List ℕ)) → Distinct (map rec_of rs) → Distinct (map rec_of (without place rs))
unfolding without
distinct_without zero rs d = d
distinct_without (suc i) [] d = tt
distinct_without (suc zero) (r ∷ rs) d = d.1
distinct_without (suc (suc i)) (r ∷ rs) d = (recorded-without (key_of r) (suc i) rs d.0, distinct_without (suc i) rs d.1)

pub distinct_not_naming : (s : ℕ) (rs : List (List ℕ)) → Distinct (map rec_of rs) → Distinct (map rec_of (not_naming s rs))
unfolding not_naming
distinct_not_naming s [] d = tt
distinct_not_naming s (r ∷ rs) d =
    both
    (eqb (server_of r) s)
    (λ u. rw u (distinct_not_naming s rs d.1))
    (λ u. rw u (recorded-not_naming (key_of r) s rs d.0, distinct_not_naming s rs d.1))

-- every record names a working server
pub named-append : (r : Roster) (es : List Rec) (e : Rec) → AllWorking r es → state_of e.server r ≡ working → AllWorking r (es ++ (e ∷ []))
named-append r [] e a w = (w, tt)
named-append r (x ∷ es) e a w = (a.0, named-append r es e a.1 w)

pub named-without : (r : Roster) (place : ℕ) (rs : List (List ℕ)) → AllWorking r (map rec_of rs) → AllWorking r (map rec_of (without place rs))
unfolding without
named-without r zero rs a = a
named-without r (suc i) [] a = tt
named-without r (suc zero) (x ∷ rs) a = a.1
named-without r (suc (suc i)) (x ∷ rs) a = (a.0, named-without r (suc i) rs a.1)

-- the record at a place names a working server
pub named-at : (r : Roster) (rs : List (List ℕ)) → AllWorking r (map rec_of rs) → (i : ℕ) → i < length rs
    → state_of (server_of (get_or rs i [])) r ≡ working
named-at r [] a i h = absurd (not-suc-le-zero h)
named-at r (x ∷ rs) a zero h = a.0
named-at r (x ∷ rs) a (suc i) h = named-at r rs a.1 i (le_of_suc-le-suc h)

-- under another roster: where every working server works on, and where all but one do, whose records are taken away
pub named_under : (r r' : Roster) (es : List Rec) → ((x : ℕ) → state_of x r ≡ working → state_of x r' ≡ working) → AllWorking r es → AllWorking r' es
named_under r r' [] f a = tt
named_under r r' (e ∷ es) f a = (f e.server a.0, named_under r r' es f a.1)

pub named-not_naming : (r r' : Roster) (s : ℕ) (rs : List (List ℕ)) → ((x : ℕ) → eqb x s ≡ false → state_of x r ≡ working → state_of x r' ≡ working)
    → AllWorking r (map rec_of rs) → AllWorking r' (map rec_of (not_naming s rs))
unfolding not_naming
named-not_naming r r' s [] f a = tt
named-not_naming r r' s (x ∷ rs) f a =
    both
    (eqb (server_of x) s)
    (λ u. rw u (named-not_naming r r' s rs f a.1))
    (λ u. rw u (f (server_of x) u a.0, named-not_naming r r' s rs f a.1))

-- a record half-closed: its key stays, and so does its server
recorded_half : (key : List ℕ) (place : ℕ) (rs : List (List ℕ))
    → recorded key (map rec_of (half_at place rs)) ≡ recorded key (map rec_of rs)
recorded_half key zero rs = refl
recorded_half key (suc i) [] = refl
recorded_half key (suc zero) (r ∷ rs) = rw (half_key r)
recorded_half key (suc (suc i)) (r ∷ rs) = rw (recorded_half key (suc i) rs)

pub distinct_half : (place : ℕ) (rs : List (List ℕ)) → Distinct (map rec_of rs) → Distinct (map rec_of (half_at place rs))
distinct_half zero rs d = d
distinct_half (suc i) [] d = tt
distinct_half (suc zero) (r ∷ rs) d = (rw (half_key r) d.0, d.1)
distinct_half (suc (suc i)) (r ∷ rs) d = (recorded_half (key_of r) (suc i) rs ∙ d.0, distinct_half (suc i) rs d.1)

pub named_half : (r : Roster) (place : ℕ) (rs : List (List ℕ)) → AllWorking r (map rec_of rs) → AllWorking r (map rec_of (half_at place rs))
named_half r zero rs a = a
named_half r (suc i) [] a = tt
named_half r (suc zero) (x ∷ rs) a = (rw (half_server x) a.0, a.1)
named_half r (suc (suc i)) (x ∷ rs) a = (a.0, named_half r (suc i) rs a.1)
