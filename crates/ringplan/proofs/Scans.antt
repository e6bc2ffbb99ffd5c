-- A loop over servers with their states that collects the keys of those that work.
use Prim.Native.Nat.{ℕ, ◌+◌, ◌<◌, ◌≤◌}
use mathlib.Core.List.{List, ◌∷◌, ◌++◌, map, append-nil}
use mathlib.Core.Path.{◌≡◌, sym, ap, ◌∙◌}
use native.Mathlib.Numerals.{add-one}
use native.Mathlib.Omega.{arith}
use denote.Ref.{Bor}
use lib.ListN.{length, take, set, length-set}
use lib.Seq.{take-suc-set, append_snoc}
use Rattle.std.proofs.Common.{Option, None, Some}
use Rattle.std.proofs.iter.Yields.{fronts}
use Rattle.std.proofs.lemmas.Iterator.{zips}
use Rattle.std.proofs.lemmas.Slice.Zip.{Zip-more}
use Rattle.std.specs.Iterator.Adapters.{zip_first}
use Rattle.std.specs.Slice.Iter.{iter_rest}
use Rattle.std.specs.declared.iter.Zip.{Zip}
use Rattle.std.specs.declared.slice.Iter.{Iter}
use Rattle.sets.specs.Sets.{in_state}
use Rattle.ranking.proofs.Loop.{left, left_here, left_other, left_end}
use Rattle.ringplan.specs.Keys.{key_of}

-- the keys of the working ones of those that were met stand in the first n places of a list, and there is room for the rest
pub record Collecting (ss xs keys : List ℕ) (n : ℕ) (it : Zip (Iter ℕ) (Iter ℕ)) : Type 0 where
  pub room : n + length (iter_rest (zip_first it)) ≤ 64
  pub sized : length keys ≡ 64
  pub so : take n keys ++ map key_of (left 1 it) ≡ map key_of (in_state 1 ss xs)

module _ (ss xs keys : List ℕ) (n : ℕ) (s t : Zip (Iter ℕ) (Iter ℕ)) (r : Option (Bor ℕ × Bor ℕ)) (step : zips fronts fronts s r t)
    (c : Collecting ss xs keys n s) where
  module _ (p : Bor ℕ × Bor ℕ) (is : r ≡ Some p) where
    pub one_less : n + length (iter_rest (zip_first t)) < 64
    one_less = omega (arith, c.room, ap length (Zip-more s t r p is step).0)

    pub collect_here : (k : ℕ) → k ≡ key_of p.0.now → p.1.now ≡ 1 → Collecting ss xs (set keys n k) (n + 1) t
    collect_here k q e =
        let inside : n < length keys = omega (arith, c.sized, one_less) in
        record {
          room = omega (arith, one_less);
          sized = length-set keys n k ∙ c.sized;
          so =
              ap (λ (l : List ℕ). l ++ map key_of (left 1 t)) (ap (λ (m : ℕ). take m (set keys n k)) (add-one n) ∙ take-suc-set keys n k inside)
              ∙ append_snoc (take n keys) k (map key_of (left 1 t))
              ∙ ap (λ (x : ℕ). take n keys ++ (x ∷ map key_of (left 1 t))) q
              ∙ (rw (left_here 1 s t r step p is e) at c.so);
        }

    pub collect_other : (p.1.now ≡ 1 → ⊥) → Collecting ss xs keys n t
    collect_other m = record { room = omega (arith, one_less); sized = c.sized; so = rw (left_other 1 s t r step p is m) at c.so }

  pub collect_end : r ≡ None → take n keys ≡ map key_of (in_state 1 ss xs)
  collect_end e = sym (append-nil (take n keys)) ∙ (rw (left_end 1 s t r step e) at c.so)
