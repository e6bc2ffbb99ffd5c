-- The code's removals do what `removed` and `removed_server` say: a gap closed, and one pass that keeps the others.
use Prim.Native.Nat.{ℕ, suc, ◌+◌, ◌*◌, ◌-◌, ◌<◌, ◌≤◌}
use mathlib.Core.Bool.{cond}
use mathlib.Core.List.{List, [], ◌∷◌, ◌++◌, append_assoc, append-nil}
use mathlib.Core.Logic.{◌⊎◌, ⊎_elim}
use mathlib.Core.Path.{◌≡◌, refl, sym, ap, ◌∙◌}
use native.Mathlib.Numerals.{add-one}
use native.Mathlib.Omega.{arith}
use lib.Dec.{eqb}
use lib.ListN.{length, get_or, take, drop, replicate, length-append, length-drop}
use lib.Seq.{paste, take-suc, take-add, take_at, take_all, drop_at, drop-drop, length-take-le}
use borrow.Author.Tests.{eq-eqb, ne_eqb}
use borrow.Rule.Slice.PartMut.{mid_of, post_of, put_mid, mid_len, Post-is}
use Rattle.table.specs.Table.{server_of, records_of, used_part, used, room, server_at, bytes_of, packed, without, removed, not_naming, removed_server}
use Rattle.table.proofs.Places.{record_at_lem}
use Rattle.table.proofs.Moves.{still_drop}
use Rattle.table.proofs.Parts.{Sized, each_take, bytes_append, bytes_one, bytes_length, used_fits, used-at, used-take, used-drop, used_sized}
use Rattle.table.proofs.Packing.{packed-same, without-none, without_out, without_in, not_naming-append, not_naming_each}

-- a place outside the used part
pub removed_nowhere : (t : List ℕ) (place n : ℕ) → n ≡ used t → (place ≡ 0) ⊎ (n < place) → t ≡ removed place t
unfolding removed
removed_nowhere t place n e o =
    let same : without place (used_part t) ≡ used_part t =
    ⊎_elim (λ z. rw z (without-none (used_part t))) (λ h. without_out place (used_part t) (omega arith)) o in
    rw same (sym (packed-same t))

-- a gap closed in bytes is a record less
pub removed_in : (t : List ℕ) (i : ℕ) → i < used t
    → take (i * 20) t ++ ((drop 20 (take (used t * 20 - i * 20) (drop (i * 20) t)) ++ replicate 20 0) ++ drop (used t * 20) t) ≡ removed (suc i) t
unfolding removed packed
removed_in t i h =
    let fits = used_fits t in
    let a = drop (i * 20) t in
    let k = (used t - suc i) * 20 in
    let la : length a ≡ length t - i * 20 = length-drop (i * 20) t in
    let n : used t * 20 - i * 20 ≡ 20 + k = omega arith in
    let m : i * 20 + 20 ≡ suc i * 20 = omega arith in
    let moved : drop 20 (take (used t * 20 - i * 20) a) ≡ take k (drop (suc i * 20) t) =
    ap (λ (j : ℕ). drop 20 (take j a)) n
    ∙ ap (λ (l : List ℕ). drop 20 l) (take-add 20 k a)
    ∙ drop_at (take 20 a) (take k (drop 20 a)) 20 (length-take-le 20 a (omega arith))
    ∙ ap (λ (l : List ℕ). take k l) (drop-drop 20 (i * 20) t ∙ ap (λ (j : ℕ). drop j t) m) in
    let less : length (take i (used_part t) ++ drop (suc i) (used_part t)) ≡ used t - 1 =
    length-append (take i (used_part t)) (drop (suc i) (used_part t))
    ∙ omega (arith, length-take-le i (used_part t) (omega arith), length-drop (suc i) (used_part t)) in
    let one : (used t - (used t - 1)) * 20 ≡ 20 = omega arith in
    rw (without_in i (used_part t) h, less, one, bytes_append (take i (used_part t)) (drop (suc i) (used_part t)), used-take t i (omega arith), used-drop t (suc i) h, moved)
    (ap (λ (l : List ℕ). take (i * 20) t ++ l) (append_assoc (take k (drop (suc i * 20) t)) (replicate 20 0) (drop (used t * 20) t))
    ∙ sym (append_assoc (take (i * 20) t) (take k (drop (suc i * 20) t)) (replicate 20 0 ++ drop (used t * 20) t)))

-- the same for a place counted from 1
pub removed_at : (t x : List ℕ) (place i n : ℕ) → n ≡ used t → (place ≡ i + 1) × (i < n)
    → x ≡ take (i * 20) t ++ ((drop 20 (take (n * 20 - i * 20) (drop (i * 20) t)) ++ replicate 20 0) ++ drop (n * 20) t)
    → x ≡ removed place t
removed_at t x place i n e p w =
    let q : place ≡ suc i = omega (arith, p.0) in
    (rw e at w) ∙ rw q (removed_in t i (omega (arith, p.1)))

-- i of the n used records of t₀ have been looked at and w of them kept: t has the kept ones in front, and from there on the bytes of t₀
pub record Sifted (t₀ : List ℕ) (s n : ℕ) (t : List ℕ) (w i : ℕ) : Type 0 where
  pub within : i ≤ n
  pub behind : w ≤ i
  pub all : n ≡ used t₀
  pub fits : n * 20 ≤ length t₀
  pub same : length t ≡ length t₀
  pub kept : length (not_naming s (take i (used_part t₀))) ≡ w
  pub is : t ≡ bytes_of (not_naming s (take i (used_part t₀))) ++ drop (w * 20) t₀

-- no record looked at yet; one that names the server is skipped, any other is kept; and all have been looked at
pub sift_start : (t₀ : List ℕ) (s n : ℕ) → n ≡ used t₀ → Sifted t₀ s n t₀ 0 0
unfolding not_naming bytes_of
sift_start t₀ s n e =
    record {
      within = omega arith;
      behind = omega arith;
      all = e;
      fits = omega (arith, used_fits t₀);
      same = refl;
      kept = refl;
      is = refl;
    }

kept_size : (t₀ : List ℕ) (s i w : ℕ) → length (not_naming s (take i (used_part t₀))) ≡ w → length (bytes_of (not_naming s (take i (used_part t₀)))) ≡ w * 20
kept_size t₀ s i w e =
    bytes_length (not_naming s (take i (used_part t₀))) (not_naming_each Sized s (take i (used_part t₀)) (each_take Sized i (used_part t₀) (used_sized t₀)))
    ∙ ap (λ (k : ℕ). k * 20) e

module _ (t₀ : List ℕ) (s n : ℕ) (t : List ℕ) (w i : ℕ) (p : Sifted t₀ s n t w i) (h : i < n) where
  fit : n * 20 ≤ length t₀
  fit = p.fits

  before : w ≤ i
  before = p.behind

  inside : i < used t₀
  inside = omega (arith, p.all)

  front : length (bytes_of (not_naming s (take i (used_part t₀)))) ≡ w * 20
  front = kept_size t₀ s i w p.kept

  -- the record to be looked at is still where it was
  still : drop (i * 20) t ≡ drop (i * 20) t₀
  still = rw p.is (still_drop (bytes_of (not_naming s (take i (used_part t₀)))) t₀ (w * 20) (i * 20) front (omega (arith, before)))

  named : server_at (i + 1) t ≡ server_of (get_or (used_part t₀) i [])
  unfolding server_at
  named =
      let r : i < room t = omega (arith, fit, p.same) in
      let e : get_or (records_of t) i [] ≡ get_or (used_part t₀) i [] = record_at_lem t i r ∙ ap (λ (l : List ℕ). take 20 l) still ∙ sym (used-at t₀ i inside) in
      rw (add-one i, e)

  kept_step : not_naming s (take (i + 1) (used_part t₀)) ≡ not_naming s (take i (used_part t₀))
      ++ cond (eqb (server_of (get_or (used_part t₀) i [])) s) [] (get_or (used_part t₀) i [] ∷ [])
  unfolding not_naming
  kept_step = rw (add-one i, take-suc (used_part t₀) i [] inside) (not_naming-append s (take i (used_part t₀)) (get_or (used_part t₀) i [] ∷ []))

  pub sift_skip : (t' : List ℕ) (w' : ℕ) → server_at (i + 1) t ≡ s → t' ≡ t → w' ≡ w → Sifted t₀ s n t' w' (i + 1)
  sift_skip t' w' e q r =
      let k : not_naming s (take (i + 1) (used_part t₀)) ≡ not_naming s (take i (used_part t₀)) = kept_step ∙ rw (eq-eqb _ _ (sym named ∙ e), append-nil) in
      rw (q, r) (record {
        within = omega arith;
        behind = omega (arith, before);
        all = p.all;
        fits = p.fits;
        same = p.same;
        kept = rw k p.kept;
        is = rw k p.is;
      })

  pub sift_keep : (t' : List ℕ) (w' : ℕ) → (server_at (i + 1) t ≡ s → ⊥) → t' ≡ paste t (w * 20) (drop (i * 20) t) 20 → w' ≡ w + 1
      → length t' ≡ length t → Sifted t₀ s n t' w' (i + 1)
  sift_keep t' w' e q r l =
      let us = used_part t₀ in
      let ks = not_naming s (take i us) in
      let x = get_or us i [] in
      let k : not_naming s (take (i + 1) us) ≡ ks ++ (x ∷ []) = kept_step ∙ rw (ne_eqb _ _ (λ z. e (named ∙ z))) in
      let m : (w + 1) * 20 ≡ w * 20 + 20 = omega arith in
      let b : bytes_of (ks ++ (x ∷ [])) ≡ bytes_of ks ++ take 20 (drop (i * 20) t₀) =
      bytes_append ks (x ∷ []) ∙ ap (λ (a : List ℕ). bytes_of ks ++ a) (bytes_one x ∙ used-at t₀ i inside) in
      let f : take (w * 20) t ≡ bytes_of ks = rw p.is (take_at (bytes_of ks) (drop (w * 20) t₀) (w * 20) front) in
      let g : drop (w * 20 + 20) t ≡ drop (w * 20 + 20) t₀ = rw p.is (still_drop (bytes_of ks) t₀ (w * 20) (w * 20 + 20) front (omega arith)) in
      rw r (record {
        within = omega arith;
        behind = omega (arith, before);
        all = p.all;
        fits = p.fits;
        same = l ∙ p.same;
        kept = rw (k, length-append ks (x ∷ [])) (omega (arith, p.kept));
        is = rw (k, m, b) (q ∙ rw (f, still, g));
      })

pub sift_end : (t₀ : List ℕ) (s n : ℕ) (t : List ℕ) (w i : ℕ) (z : List ℕ) → Sifted t₀ s n t w i → n ≤ i
    → z ≡ replicate (length (mid_of (w * 20) (n * 20 - w * 20) t)) 0 → put_mid (w * 20) (n * 20 - w * 20) t z ≡ removed_server s t₀
unfolding removed_server packed
sift_end t₀ s n t w i z p h ez =
    let us = used_part t₀ in
    let fits = p.fits in
    let within = p.within in
    let behind = p.behind in
    let same = p.same in
    let all = p.all in
    let last : take i us ≡ us = take_all i us (omega arith) in
    let front : length (bytes_of (not_naming s us)) ≡ w * 20 = rw last at (kept_size t₀ s i w p.kept) in
    let kept : length (not_naming s us) ≡ w = rw last at p.kept in
    let is : t ≡ bytes_of (not_naming s us) ++ drop (w * 20) t₀ = rw last at p.is in
    let f : take (w * 20) t ≡ bytes_of (not_naming s us) = rw is (take_at (bytes_of (not_naming s us)) (drop (w * 20) t₀) (w * 20) front) in
    let nz : length (mid_of (w * 20) (n * 20 - w * 20) t) ≡ (used t₀ - w) * 20 = mid_len (w * 20) (n * 20) t (omega arith) ∙ omega arith in
    let back : post_of (w * 20) (n * 20 - w * 20) t ≡ drop (used t₀ * 20) t₀ =
    Post-is (w * 20) (n * 20) t (omega arith)
    ∙ rw is (still_drop (bytes_of (not_naming s us)) t₀ (w * 20) (n * 20) front (omega arith))
    ∙ ap (λ (k : ℕ). drop (k * 20) t₀) all in
    rw (f, back, kept) (ap (λ (x : List ℕ). bytes_of (not_naming s us) ++ (x ++ drop (used t₀ * 20) t₀)) (rw nz at ez))
