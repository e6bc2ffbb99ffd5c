-- Servers by their keys: the order of keys is the ring's order, and each server has its own key, from which its position and number are read back.
use Prim.Native.Nat.{ℕ, zero, suc, ◌+◌, ◌^◌, ◌≤◌, ◌<◌}
use mathlib.Core.Bool.{Bool, true, false, cond}
use mathlib.Core.List.{List, [], ◌∷◌, map}
use mathlib.Core.Path.{◌≡◌, refl, sym, ap, ◌∙◌}
use native.Mathlib.Nat.{not-suc-le-zero, le_of_suc-le-suc}
use native.Mathlib.Numerals.{add-one}
use native.Mathlib.Omega.{arith}
use lib.Dec.{eqb, ltb}
use lib.ListN.{length, get_or, drop, length-map, drop_of_length-le}
use lib.Seq.{drop-cons}
use borrow.Author.Tests.{eqb-true, eqb-false, eq-eqb, ne_eqb, ltb-true, ltb-false, lt-ltb, le-ltb}
use Rattle.std.proofs.Common.{Option, None, Some}
use Rattle.std.specs.List.{list_any}
use Rattle.std.proofs.lemmas.List.{get_or-map}
use Rattle.hash.specs.Hash.{position, distance}
use Rattle.sets.specs.Sets.{member, in_state}
use Rattle.sets.proofs.Cases.{both}
use Rattle.ranking.specs.declared.Best.{Best}
use Rattle.ranking.specs.Best.{best_is, kept, best_of}
use Rattle.ranking.specs.Ranking.{choice}
use Rattle.ranking.specs.Methods.{nearer, ring}
use Rattle.ranking.proofs.Scan.{kept_all, kept_all_best}
use Rattle.ring.specs.declared.Entry.{Entry}
use Rattle.ringplan.specs.Plan.{stands_before, placed, arranged, some, entry_of}
use Rattle.ringplan.specs.Keys.{Fit, key_of, key_position, key_server}
use Rattle.ringplan.proofs.Clockwise.{from}

pub fit_all : (l : List ℕ) → ((i : ℕ) → get_or l i 0 < 2 ^ 32) → Fit l
fit_all [] h = tt
fit_all (s ∷ l) h = (h 0, fit_all l (λ i. h (suc i)))

pub fit_at : (l : List ℕ) (i : ℕ) → i < length l → Fit l → get_or l i 0 < 2 ^ 32
fit_at [] i h f = absurd (not-suc-le-zero h)
fit_at (s ∷ l) zero h f = f.0
fit_at (s ∷ l) (suc i) h f = fit_at l i (le_of_suc-le-suc h) f.1

pub fit_in_state : (k : ℕ) (ss xs : List ℕ) → Fit ss → Fit (in_state k ss xs)
unfolding in_state
fit_in_state k [] xs f = tt
fit_in_state k (s ∷ ss) [] f = tt
fit_in_state k (s ∷ ss) (x ∷ xs) f =
    both (eqb x k) (λ t. rw t (f.0, fit_in_state k ss xs f.1)) (λ t. rw t (fit_in_state k ss xs f.1))

fit_placed : (s : ℕ) (l : List ℕ) → s < 2 ^ 32 → Fit l → Fit (placed s l)
unfolding placed
fit_placed s [] h f = (h, tt)
fit_placed s (x ∷ l) h f =
    both (stands_before x s) (λ t. rw t (f.0, fit_placed s l h f.1)) (λ t. rw t (h, fit_placed x l f.0 f.1))

pub fit_arranged : (l : List ℕ) → Fit l → Fit (arranged l)
unfolding arranged
fit_arranged [] f = tt
fit_arranged (s ∷ l) f = fit_placed s (arranged l) f.0 (fit_arranged l f.1)

abbrev entry : ℕ → ℕ → ℕ → Entry
entry q s t = record { position = q; server = s; track = t }

-- position and number, read back
module _ (s : ℕ) (h : s < 2 ^ 32) where
  pub key_position_lem : key_position (key_of s) ≡ position s
  unfolding key_position key_of
  key_position_lem = omega arith

  pub key_server_lem : key_server (key_of s) ≡ s
  unfolding key_server key_of
  key_server_lem = omega arith

-- the lower key stands before
pub key_before : (a b : ℕ) → a < 2 ^ 32 → b < 2 ^ 32 → stands_before a b ≡ ltb (key_of a) (key_of b)
unfolding key_of
key_before a b ha hb =
    both
    (eqb (position a) (position b))
    (λ e.
    let q : position a ≡ position b = eqb-true (position a) (position b) e in
    rw e (both
    (ltb b a)
    (λ t. let l : b < a = ltb-true b a t in t ∙ sym (lt-ltb (key_of a) (key_of b) (omega arith)))
    (λ t. let l : a ≤ b = ltb-false b a t in t ∙ sym (le-ltb (key_of a) (key_of b) (omega arith)))))
    (λ e.
    rw e (both
    (ltb (position a) (position b))
    (λ t. let l : position a < position b = ltb-true (position a) (position b) t in t ∙ sym (lt-ltb (key_of a) (key_of b) (omega arith)))
    (λ t.
    let l : position b ≤ position a = ltb-false (position a) (position b) t in
    let n : position a ≡ position b → ⊥ = eqb-false _ _ e in
    let m : position b < position a = omega arith in
    t ∙ sym (le-ltb (key_of a) (key_of b) (omega arith)))))

-- each server has its own key
key_same : (s x : ℕ) → s < 2 ^ 32 → x < 2 ^ 32 → eqb (key_of s) (key_of x) ≡ eqb s x
key_same s x hs hx =
    both
    (eqb s x)
    (λ e. eq-eqb (key_of s) (key_of x) (ap key_of (eqb-true s x e)) ∙ sym e)
    (λ e.
    ne_eqb (key_of s) (key_of x) (λ q. eqb-false s x e (sym (key_server_lem s hs) ∙ ap key_server q ∙ key_server_lem x hx)) ∙ sym e)

member_keys : (s : ℕ) (l : List ℕ) → s < 2 ^ 32 → Fit l → member (key_of s) (map key_of l) ≡ member s l
member_keys s [] h f = refl
member_keys s (x ∷ l) h f = rw (key_same s x h f.0, member_keys s l h f.1)

-- a loop over the working servers' keys that keeps the nearest: what is left from index i on decides the whole, and the ways on
module _ (keys : List ℕ) (p : ℕ) (best : Option Best) (i : ℕ) where
  abbrev pub Nearing : Type 0
  Nearing = (w : List ℕ) → Fit w → keys ≡ map key_of w → kept_all nearer (from p) best (drop i w) ≡ best_of (ring p) (from p) w

pub nearing_none : (keys : List ℕ) (p : ℕ) → Nearing keys p None 0
nearing_none keys p w f q = kept_all_best nearer (from p) w

module _ (keys : List ℕ) (p : ℕ) (best : Option Best) (i : ℕ) (so : Nearing keys p best i) where
  pub nearing_more : (k r v d : ℕ) (best' : Best) → i < length keys → k ≡ get_or keys i 0 → r ≡ key_position k → d ≡ distance r p → v ≡ key_server k
      → best' ≡ kept nearer best (best_is v d) → Nearing keys p (Some best') (i + 1)
  unfolding kept_all
  nearing_more k r v d best' h ek er ed ev eb w f q =
      let s = get_or w i 0 in
      let n : i < length w = omega (arith, ap length q, length-map w key_of) in
      let e : k ≡ key_of s = ek ∙ ap (λ (l : List ℕ). get_or l i 0) q ∙ get_or-map key_of w i 0 0 n in
      let fits : s < 2 ^ 32 = fit_at w i n f in
      let a : v ≡ s = ev ∙ ap key_server e ∙ key_server_lem s fits in
      let b : d ≡ from p s = ed ∙ ap (λ (x : ℕ). distance x p) (er ∙ ap key_position e ∙ key_position_lem s fits) in
      rw (eb, a, b, add-one) (rw (drop-cons w i 0 n) at (so w f q))

  pub nearing_done : length keys ≤ i → (w : List ℕ) → Fit w → keys ≡ map key_of w → best ≡ best_of (ring p) (from p) w
  unfolding kept_all
  nearing_done h w f q =
      rw (drop_of_length-le w {i = i} (omega (arith, ap length q, length-map w key_of))) at (so w f q)

-- what a search for a key says of its server
contains_key : (k : ℕ) (l : List ℕ) → list_any (λ (x : ℕ). eqb x k) l ≡ member k l
contains_key k [] = refl
contains_key k (x ∷ l) =
    both
    (eqb k x)
    (λ t. rw (t, eq-eqb x k (sym (eqb-true k x t))))
    (λ t. rw (t, ne_eqb x k (λ e. eqb-false k x t (sym e))) (contains_key k l))

pub contains_server : (s : ℕ) (w keys : List ℕ) (k : ℕ) (b : Bool) → s < 2 ^ 32 → Fit w → keys ≡ map key_of w → k ≡ key_of s
    → b ≡ list_any (λ (x : ℕ). eqb x k) keys → member s w ≡ b
contains_server s w keys k b h f q e c = sym (c ∙ contains_key k keys ∙ rw (q, e) (member_keys s w h f))

-- the entry worked out from keys is the entry that the server owns
module _ (w : List ℕ) (s : ℕ) (h : s < 2 ^ 32) (k : ℕ) (e : k ≡ key_of s) (r : ℕ) (er : r ≡ key_position k) where
  at_position : r ≡ position s
  at_position = er ∙ ap key_position e ∙ key_position_lem s h

  pub entry_own : (v : ℕ) → v ≡ key_server k → member s w ≡ true → record { position = r; server = v; track = 0 } ≡ entry_of w s
  entry_own v ev t = rw (t, at_position, ev ∙ ap key_server e ∙ key_server_lem s h)

  pub entry_away : (b : Best) → Some b ≡ best_of (ring r) (from r) w → member s w ≡ false → record { position = r; server = b.server; track = 1 } ≡ entry_of w s
  unfolding best_of
  entry_away b q t = rw (t, at_position) (names w (rw at_position at q))
    where
      names : (v : List ℕ) → Some b ≡ best_of (ring (position s)) (from (position s)) v
          → entry (position s) b.server 1 ≡ entry (position s) (choice (ring (position s)) v) (cond (some v) 1 0)
      names [] q = cc
      names (y ∷ v) q = cc

  pub entry_alone : None ≡ best_of (ring r) (from r) w → member s w ≡ false → record { position = r; server = 0; track = 0 } ≡ entry_of w s
  unfolding best_of
  entry_alone q t = rw (t, at_position) (names w (rw at_position at q))
    where
      names : (v : List ℕ) → None ≡ best_of (ring (position s)) (from (position s)) v
          → entry (position s) 0 0 ≡ entry (position s) (choice (ring (position s)) v) (cond (some v) 1 0)
      names [] q = refl
      names (y ∷ v) q = cc
