-- Bounds on the servers: those of the working set and of the horizon are below what all of the roster's are, and each change keeps that.
use Prim.Native.Nat.{ℕ, zero, suc, ◌+◌, ◌<◌}
use mathlib.Core.Bool.{true}
use mathlib.Core.List.{List, [], ◌∷◌, ◌++◌}
use mathlib.Core.Path.{◌≡◌, refl}
use native.Mathlib.Nat.{not-suc-le-zero, le_of_suc-le-suc}
use native.Mathlib.Omega.{arith}
use lib.Dec.{ltb}
use lib.ListN.{length, get_or, take, drop, replicate}
use borrow.Author.Tests.{eq-eqb}
use Rattle.sets.specs.Sets.{member, Within}
use Rattle.sets.proofs.Cases.{both, clash}
use Rattle.sets.proofs.Members.{member-cases, member_tail, member_head, member_split}
use Rattle.roster.specs.declared.Roster.{Roster}
use Rattle.lists.specs.Lists.{before, put_in, taken_out}
use Rattle.roster.specs.Roster.{held_servers, working_set, horizon, place_of, added_working, removed_working, added_horizon, removed_horizon, empty_roster}
use Rattle.roster.proofs.Sets.{working_within, horizon_within}

-- every member is below b
abbrev pub Below : ℕ → List ℕ → Type 0
Below b l = (x : ℕ) → member x l ≡ true → x < b

module _ (b : ℕ) where
  pub below_within : (m l : List ℕ) → Within m l → Below b l → Below b m
  below_within m l w h x i = h x (w x i)

  -- what code knows of each place
  pub places_below : (l : List ℕ) → ((i : ℕ) → i < length l → get_or l i 0 < b) → Below b l
  places_below [] h x m = clash m refl
  places_below (y ∷ l) h x m =
      member-cases x y l m
      (λ q. rw q (h 0 (omega arith)))
      (λ q. places_below l (λ i k. h (suc i) (omega arith)) x q)

  pub below_place : (l : List ℕ) → Below b l → (i : ℕ) → i < length l → get_or l i 0 < b
  below_place [] h i k = absurd (not-suc-le-zero k)
  below_place (y ∷ l) h zero k = h y (member_head y l)
  below_place (y ∷ l) h (suc i) k = below_place l (λ x m. h x (member_tail x y l m)) i (le_of_suc-le-suc k)

pub take_within : (n : ℕ) (l : List ℕ) → Within (take n l) l
take_within zero l x m = clash m refl
take_within (suc n) [] x m = m
take_within (suc n) (y ∷ l) x m =
    member-cases x y (take n l) m (λ q. rw (eq-eqb x y q)) (λ q. member_tail x y l (take_within n l x q))

pub drop_within : (n : ℕ) (l : List ℕ) → Within (drop n l) l
drop_within zero l x m = m
drop_within (suc n) [] x m = m
drop_within (suc n) (y ∷ l) x m = member_tail x y l (drop_within n l x m)

module _ (b : ℕ) (r : Roster) (h : Below b r.servers) where
  pub held_below : Below b (held_servers r)
  held_below = below_within b (held_servers r) r.servers (take_within r.held r.servers) h

  pub working_below : Below b (working_set r)
  working_below = below_within b (working_set r) (held_servers r) (working_within r) held_below

  pub horizon_below : Below b (horizon r)
  horizon_below = below_within b (horizon r) (held_servers r) (horizon_within r) held_below

-- one put in, one taken out
put_in_below : (b p n s : ℕ) (l : List ℕ) → s < b → Below b l → Below b (put_in p n s l)
unfolding put_in
put_in_below b p n s l k h x m =
    member_split x (take p l) (s ∷ (drop p (take n l) ++ drop (n + 1) l)) m
    (λ i. h x (take_within p l x i))
    (λ i.
    member-cases x s (drop p (take n l) ++ drop (n + 1) l) i
    (λ q. rw q k)
    (λ j.
    member_split x (drop p (take n l)) (drop (n + 1) l) j
    (λ u. h x (take_within n l x (drop_within p (take n l) x u)))
    (λ u. h x (drop_within (n + 1) l x u))))

taken_out_below : (b p n : ℕ) (l : List ℕ) → 0 < b → Below b l → Below b (taken_out p n l)
unfolding taken_out
taken_out_below b p n l k h x m =
    member_split x (take p l) (drop (p + 1) (take n l) ++ (0 ∷ drop n l)) m
    (λ i. h x (take_within p l x i))
    (λ i.
    member_split x (drop (p + 1) (take n l)) (0 ∷ drop n l) i
    (λ u. h x (take_within n l x (drop_within (p + 1) (take n l) x u)))
    (λ u. member-cases x 0 (drop n l) u (λ q. rw q k) (λ v. h x (drop_within n l x v))))

zeros_below : (b n : ℕ) → 0 < b → Below b (replicate n 0)
zeros_below b zero k x m = clash m refl
zeros_below b (suc n) k x m = member-cases x 0 (replicate n 0) m (λ q. rw q k) (λ q. zeros_below b n k x q)

pub empty_below : (b : ℕ) → 0 < b → Below b empty_roster.servers
empty_below b k = zeros_below b 64 k

-- each change keeps the bound
module _ (b s : ℕ) (r : Roster) (h : Below b r.servers) where
  pub added_working_below : Below b (added_working s r).servers
  added_working_below = h

  pub removed_working_below : Below b (removed_working s r).servers
  removed_working_below = h

  pub added_horizon_below : s < b → Below b (added_horizon s r).servers
  unfolding added_horizon
  added_horizon_below k =
      both
      (ltb r.held 64)
      (λ t. rw t (put_in_below b (before s (held_servers r)) r.held s r.servers k h))
      (λ t. rw t h)

  pub removed_horizon_below : 0 < b → Below b (removed_horizon s r).servers
  unfolding removed_horizon
  removed_horizon_below k =
      both
      (ltb (place_of s r) (length (held_servers r)))
      (λ t. rw t (taken_out_below b (place_of s r) r.held r.servers k h))
      (λ t. rw t h)
