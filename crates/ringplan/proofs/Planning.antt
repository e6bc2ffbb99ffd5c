-- The keys of all servers, and the entries laid out in a plan.
use Prim.Native.Nat.{ℕ, suc, ◌+◌, ◌-◌, ◌^◌, ◌<◌, ◌≤◌}
use mathlib.Core.List.{List, [], ◌∷◌, ◌++◌, map}
use mathlib.Core.Path.{◌≡◌, sym, ap, ◌∙◌}
use native.Mathlib.Numerals.{add-one}
use native.Mathlib.Omega.{arith}
use lib.ListN.{length, get_or, take, set, replicate, length-map}
use lib.Seq.{take-suc, take_all, length-take-le, set_at, append_snoc, take_at}
use borrow.Author.Tests.{le-leb, lt-leb}
use Rattle.std.proofs.lemmas.List.{map-append, get_or-map}
use Rattle.sets.specs.Sets.{in_state}
use Rattle.ring.specs.declared.Entry.{Entry}
use Rattle.ring.specs.Ring.{blank, overlaid}
use Rattle.ringplan.specs.Plan.{arranged, entry_of, entries, drawn, planned}
use Rattle.ringplan.specs.Keys.{Fit, key_of}
use Rattle.ringplan.proofs.Order.{length-arranged}
use Rattle.ringplan.proofs.Keys.{fit_at, fit_in_state, fit_arranged}
use Rattle.ringplan.proofs.Reading.{length-entries}

-- the first i entries are laid out, and the places behind them are blank
pub record LaidOut (held working : List ℕ) (plan : List Entry) (i : ℕ) : Type 0 where
  pub within : i ≤ length held
  pub so : plan ≡ map (entry_of working) (take i (arranged held)) ++ replicate (64 - i) blank

-- one more laid out, whatever is laid out
module _ (f : ℕ → Entry) where
  laid_one : (order : List ℕ) (b : Entry) (m i : ℕ) → i < length order → i < m
      → set (map f (take i order) ++ replicate (m - i) b) i (f (get_or order i 0)) ≡ map f (take (i + 1) order) ++ replicate (m - (i + 1)) b
  laid_one order b m i here room =
      let l : length (map f (take i order)) ≡ i = length-map (take i order) f ∙ length-take-le i order (omega arith) in
      let z : m - i ≡ suc (m - (i + 1)) = omega arith in
      let t : take (i + 1) order ≡ take i order ++ (get_or order i 0 ∷ []) = rw add-one (take-suc order i 0 here) in
      rw
      (z, t, map-append f (take i order) (get_or order i 0 ∷ []))
      (
      set_at (map f (take i order)) b (replicate (m - (i + 1)) b) (f (get_or order i 0)) i l
      ∙ sym (append_snoc (map f (take i order)) (f (get_or order i 0)) (replicate (m - (i + 1)) b)))

-- there are as many keys as servers
pub as_many : (held order : List ℕ) → order ≡ map key_of (arranged held) → length order ≡ length held
as_many held order o = ap length o ∙ length-map (arranged held) key_of ∙ length-arranged held

-- the entry is worked out from a key of the order and from the keys of the working servers
pub laid_more : (held states order keys : List ℕ) (plan : List Entry) (i : ℕ) (e : Entry) → length held ≤ 64 → i < length order
    → Fit held → order ≡ map key_of (arranged held) → keys ≡ map key_of (in_state 1 held states)
    → ((w : List ℕ) (s : ℕ) → Fit w → s < 2 ^ 32 → keys ≡ map key_of w → get_or order i 0 ≡ key_of s → e ≡ entry_of w s)
    → LaidOut held (in_state 1 held states) plan i → LaidOut held (in_state 1 held states) (set plan i e) (i + 1)
laid_more held states order keys plan i e small here fits o k says a =
    let working = in_state 1 held states in
    let x = get_or (arranged held) i 0 in
    let few : length order ≡ length held = as_many held order o in
    let whole : length (arranged held) ≡ length held = length-arranged held in
    let within : i < length (arranged held) = omega arith in
    let is_key : get_or order i 0 ≡ key_of x = ap (λ (l : List ℕ). get_or l i 0) o ∙ get_or-map key_of (arranged held) i 0 0 within in
    let q : e ≡ entry_of working x =
    says working x (fit_in_state 1 held states fits) (fit_at (arranged held) i within (fit_arranged held fits)) k is_key in
    record {
      within = omega arith;
      so =
          ap (set plan i) q
          ∙ ap (λ (p : List Entry). set p i (entry_of working x)) a.so
          ∙ laid_one (entry_of working) (arranged held) blank 64 i within (omega arith);
    }

pub laid_done : (held working : List ℕ) (plan : List Entry) (i : ℕ) → length held ≤ 64 → length held ≤ i
    → LaidOut held working plan i → plan ≡ planned held working
unfolding planned entries
laid_done held working plan i small end a =
    let e : i ≡ length held = omega (arith, a.within) in
    let all : take (length held) (arranged held) ≡ arranged held = take_all (length held) (arranged held) (omega (arith, length-arranged held)) in
    rw (le-leb (length held) 64 small) (a.so ∙ rw (e, all))

pub entry_blank : (e : Entry) → e.position ≡ 0 → e.server ≡ 0 → e.track ≡ 0 → e ≡ blank
entry_blank e p s t = λ i. record { position = p i; server = s i; track = t i }

pub planned-none : (held working : List ℕ) (plan : List Entry) → 64 < length held → plan ≡ replicate 64 blank → plan ≡ planned held working
unfolding planned
planned-none held working plan h e = rw (lt-leb (length held) 64 h) e

-- a ring with room for them, overlaid with the planned entries, is drawn
pub overlaid-drawn : (held working : List ℕ) (old : List Entry) → length held ≤ 64 → length held ≤ length old
    → overlaid (planned held working) (length held) old ≡ drawn held working old
unfolding overlaid planned drawn
overlaid-drawn held working old small fits =
    rw (
      le-leb (length held) 64 small,
      le-leb (length held) (length old) fits,
      take_at (entries held working) (replicate (64 - length held) blank) (length held) (length-entries held working),
    )
