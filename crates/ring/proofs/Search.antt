-- A search of the entries in use, or else the first entry, gives a key what the ring gives it.
use mathlib.Core.Path.{◌≡◌, refl, sym, ◌∙◌}
use Prim.Native.Nat.{ℕ, min}
use mathlib.Core.Bool.{true, false, cond}
use mathlib.Core.List.{List, [], ◌∷◌}
use denote.Ref.{Bor}
use lib.ListN.{length, take}
use lib.Dec.{leb}
use Rattle.std.proofs.Common.{Option, None, Some, unwrap_or}
use Rattle.std.specs.List.{find, slice_get}
use Rattle.std.specs.Option.{option_copied, option_or, UnwrapsOrElse}
use Rattle.std.proofs.lemmas.List.{take_min}
use Rattle.ring.specs.declared.Entry.{Entry}
use Rattle.ring.specs.Ring.{blank, first_from, entry_read}

module _ (point : ℕ) where
  -- the first that isn't below the point, else another, is what a search finds
  first_found : (l : List Entry) (otherwise : Entry) → first_from point l otherwise ≡ unwrap_or (find (λ (e : Entry). leb point e.position) l) otherwise
  unfolding first_from
  first_found [] otherwise = refl
  first_found (e ∷ l) otherwise =
      elim (leb point e.position) as (λ b. cond b e (first_from point l otherwise) ≡ unwrap_or (cond b (Some e) (find (λ (x : Entry). leb point x.position) l)) otherwise) [
        | true ↦ refl
        | false ↦ first_found l otherwise
      ]

  -- so what a search of the entries in use found, and what the first entry is
  module _ (places : ℕ) (P : Entry → Type 0) (zeros : (e : Entry) → P e → e ≡ blank) where
    pub search_reads : (es : List Entry) (found first : Option (Bor Entry)) (r : Entry)
        → option_copied found ≡ find (λ (e : Entry). leb point e.position) (take (min places (length es)) es)
        → option_copied first ≡ slice_get es 0 → UnwrapsOrElse (option_copied (option_or found first)) P r
        → r ≡ entry_read places point es
    unfolding entry_read
    search_reads es (Some x) first r f b u = rw (first_found, sym (rw take_min at f)) u
    search_reads [] None None r f b u = rw (first_found, sym (rw take_min at f)) (zeros r u)
    search_reads [] None (Some y) r f b u = cc
    search_reads (e ∷ es) None None r f b u = cc
    search_reads (e ∷ es) None (Some y) r f b u =
        let q : y.now ≡ e = cc in
        rw (first_found, sym (rw take_min at f)) (u ∙ q)
