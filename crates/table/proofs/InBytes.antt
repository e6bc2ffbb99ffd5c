-- The sentences of document 01 and of request [1] about the table, said of its bytes: a definition and the code that were wrong together would break
-- them.
use Prim.Native.Nat.{ℕ, suc, ◌+◌, ◌*◌, ◌-◌, ◌<◌, ◌≤◌}
use mathlib.Core.Bool.{true, cond}
use mathlib.Core.List.{List, [], ◌∷◌, ◌++◌, append_assoc}
use mathlib.Core.Logic.{◌⊎◌}
use mathlib.Core.Path.{◌≡◌, refl, sym, ap, subst, ◌∙◌}
use native.Mathlib.Omega.{arith}
use lib.Dec.{eqb}
use lib.ListN.{length, get_or, set, take, drop, replicate, length-append, length-drop, length-replicate}
use lib.Seq.{take_at, drop_at, length-take-le, get_or-take, get_or-drop, get_or-set_same, get_or-set_other}
use borrow.Author.Tests.{eqb-true, eqb-false, ne_eqb, lt-ltb}
use Rattle.bigendian.specs.BigEndian.{bytes4}
use Rattle.sets.proofs.Cases.{both}
use Rattle.spans.specs.Spans.{all_zero}
use Rattle.spans.proofs.Scans.{zeros_all_zero}
use Rattle.table.specs.Table.{server_of, tag_of, used_tag, records_of, used_among, used_part, used, room, bytes_of, new_record, written_after, packed, without, removed, not_naming, removed_server, half_closed, started}
use Rattle.table.proofs.Places.{used_more}
use Rattle.table.proofs.Parts.{Each, Sized, Tagged, used_tags, tags_are, each_at, bytes_length, used_fits, used-at, used_sized, used_tagged, records_behind, behind_unused}
use Rattle.table.proofs.Packing.{without_in, without_each, without-length, not_naming_each, not_naming-length}
use Rattle.table.proofs.Records.{used-removed_server, new_length}
use Rattle.table.proofs.HalfClosed.{half_nowhere, half_in}

-- "The used part of a table is all records before the first whose tag is not" 1 or 2: request [1], "The used part runs over tags 1 and 2."
module _ (t : List ℕ) where
  pub tags_used : (i : ℕ) → i < used t → (get_or t (i * 20 + 13) 0 ≡ 1) ⊎ (get_or t (i * 20 + 13) 0 ≡ 2)
  tags_used i h =
      let r = take 20 (drop (i * 20) t) in
      let tagged : used_tag (tag_of r) ≡ true = subst (λ (x : List ℕ). used_tag (tag_of x) ≡ true) (used-at t i h) (each_at Tagged (used_part t) (used_tagged t) i h) in
      let here : tag_of r ≡ get_or t (i * 20 + 13) 0 = get_or-take 20 (drop (i * 20) t) 13 0 (omega arith) ∙ get_or-drop (i * 20) t 13 0 in
      used_tags (get_or t (i * 20 + 13) 0) (rw here at tagged)

  pub tag_behind : used t < room t → (get_or t (used t * 20 + 13) 0 ≡ 1) ⊎ (get_or t (used t * 20 + 13) 0 ≡ 2) → ⊥
  tag_behind h e =
      let more : used_among (drop (used t) (records_of t)) ≡ get_or (records_of t) (used t) [] ∷ used_among (drop (used t + 1) (records_of t)) =
      used_more t (used t) h (tags_are (get_or t (used t * 20 + 13) 0) e) in
      let none : used_among (drop (used t) (records_of t)) ≡ [] = ap used_among (records_behind t) ∙ behind_unused t in
      let clash : ◌≡◌ {A = ℕ} 0 (suc (length (used_among (drop (used t + 1) (records_of t))))) = ap length (sym none ∙ more) in
      absurd (omega arith)

-- "Starting zeroes the whole table"
pub started-zero : (t : List ℕ) → all_zero (started t) ≡ true
started-zero t = zeros_all_zero (length t)

-- a new record stands behind the first n, and every other byte stays
module _ (n : ℕ) (key : List ℕ) (s : ℕ) (t : List ℕ) (k : length key ≡ 13) (h : n < room t) where
  front : length (take (n * 20) t) ≡ n * 20
  front = length-take-le (n * 20) t (omega arith)

  written : written_after n key s t ≡ take (n * 20) t ++ (new_record key s ++ drop ((n + 1) * 20) t)
  unfolding written_after
  written = rw (lt-ltb n (room t) h)

  pub written-before : take (n * 20) (written_after n key s t) ≡ take (n * 20) t
  written-before = ap (λ (l : List ℕ). take (n * 20) l) written ∙ take_at (take (n * 20) t) (new_record key s ++ drop ((n + 1) * 20) t) (n * 20) front

  -- "key 13, tag 1, two zero bytes, server 4 big-endian", written out
  pub written_here : take 20 (drop (n * 20) (written_after n key s t)) ≡ key ++ (1 ∷ 0 ∷ 0 ∷ bytes4 s)
  written_here =
      ap (λ (l : List ℕ). take 20 (drop (n * 20) l)) written
      ∙ ap (λ (l : List ℕ). take 20 l) (drop_at (take (n * 20) t) (new_record key s ++ drop ((n + 1) * 20) t) (n * 20) front)
      ∙ take_at (new_record key s) (drop ((n + 1) * 20) t) 20 (new_length key s k)

  pub written_behind : drop ((n + 1) * 20) (written_after n key s t) ≡ drop ((n + 1) * 20) t
  written_behind =
      let a = take (n * 20) t in
      let r = new_record key s in
      let both-lengths : length (a ++ r) ≡ (n + 1) * 20 = simp length-append (omega (arith, front, new_length key s k)) in
      ap (λ (l : List ℕ). drop ((n + 1) * 20) l) (written ∙ sym (append_assoc a r (drop ((n + 1) * 20) t)))
      ∙ drop_at (a ++ r) (drop ((n + 1) * 20) t) ((n + 1) * 20) both-lengths

-- fewer records in the used part's place: zeros behind them, and "later bytes stay"
module _ (rs : List (List ℕ)) (t : List ℕ) (sized : Each Sized rs) (fewer : length rs ≤ used t) where
  packed_zero : take ((used t - length rs) * 20) (drop (length rs * 20) (packed rs t)) ≡ replicate ((used t - length rs) * 20) 0
  unfolding packed
  packed_zero =
      let n = (used t - length rs) * 20 in
      ap (λ (l : List ℕ). take n l) (drop_at (bytes_of rs) (replicate n 0 ++ drop (used t * 20) t) (length rs * 20) (bytes_length rs sized))
      ∙ take_at (replicate n 0) (drop (used t * 20) t) n (length-replicate n 0)

  packed-behind : drop (used t * 20) (packed rs t) ≡ drop (used t * 20) t
  unfolding packed
  packed-behind =
      let z : List ℕ = replicate ((used t - length rs) * 20) 0 in
      let whole : length (bytes_of rs ++ z) ≡ used t * 20 = simp (length-append, length-replicate) (omega (arith, bytes_length rs sized)) in
      ap (λ (l : List ℕ). drop (used t * 20) l) (sym (append_assoc (bytes_of rs) z (drop (used t * 20) t)))
      ∙ drop_at (bytes_of rs ++ z) (drop (used t * 20) t) (used t * 20) whole

-- "Removal closes the gap, keeps the order, and zeroes the last formerly used record; later bytes stay."
module _ (place : ℕ) (t : List ℕ) where
  pub removed-behind : drop (used t * 20) (removed place t) ≡ drop (used t * 20) t
  unfolding removed
  removed-behind = packed-behind (without place (used_part t)) t (without_each Sized place (used_part t) (used_sized t)) (without-length place (used_part t))

pub one_less : (i : ℕ) (rs : List (List ℕ)) → i < length rs → length (without (suc i) rs) ≡ length rs - 1
one_less i rs h = ap length (without_in i rs h) ∙ simp (length-append, length-drop, length-take-le i rs (omega arith)) (omega arith)

pub removed-zero : (i : ℕ) (t : List ℕ) → i < used t → take 20 (drop ((used t - 1) * 20) (removed (suc i) t)) ≡ replicate 20 0
unfolding removed
removed-zero i t h =
    let rs = without (suc i) (used_part t) in
    let n : length rs ≡ used t - 1 = one_less i (used_part t) h in
    let m : (used t - length rs) * 20 ≡ 20 = omega (arith, n) in
    subst (λ (k : ℕ). take k (drop ((used t - 1) * 20) (packed rs t)) ≡ replicate k 0) m
    (subst (λ (k : ℕ). take ((used t - length rs) * 20) (drop (k * 20) (packed rs t)) ≡ replicate ((used t - length rs) * 20) 0) n
    (packed_zero rs t (without_each Sized (suc i) (used_part t) (used_sized t)) (without-length (suc i) (used_part t))))

-- request [1], "sets its tag to 2": at a place of the used part that byte is 2 and every other byte stays; at any other place nothing changes
module _ (t : List ℕ) (place : ℕ) where
  at_index : (place ≡ 0 → ⊥) → place ≤ used t → set t ((place - 1) * 20 + 13) 2 ≡ half_closed place t
  at_index n h = let p : 1 ≤ place = omega arith in half_in t place (place - 1) (omega arith, omega arith)

  pub half_here : (place ≡ 0 → ⊥) → place ≤ used t → get_or (half_closed place t) ((place - 1) * 20 + 13) 0 ≡ 2
  half_here n h =
      rw (← (at_index n h)) (get_or-set_same t ((place - 1) * 20 + 13) 2 0 (omega (arith, used_fits t)))

  pub half_others : (place ≡ 0 → ⊥) → place ≤ used t → (j : ℕ) → (j ≡ (place - 1) * 20 + 13 → ⊥) → get_or (half_closed place t) j 0 ≡ get_or t j 0
  half_others n h j o = rw (← (at_index n h)) (get_or-set_other t ((place - 1) * 20 + 13) j 2 0 o)

  pub half_outside : (place ≡ 0) ⊎ (used t < place) → half_closed place t ≡ t
  half_outside o = sym (half_nowhere t place o)

-- "Remove working takes away every record naming that server.": none is left, those of any other server stay in their order, and what they leave is zeroed
gone : (s : ℕ) (rs : List (List ℕ)) → Each (λ r. server_of r ≡ s → ⊥) (not_naming s rs)
unfolding not_naming
gone s [] = tt
gone s (r ∷ rs) = both (eqb (server_of r) s) (λ e. rw e (gone s rs)) (λ e. rw e (eqb-false (server_of r) s e, gone s rs))

-- the records that name a server
unfoldable pub naming : ℕ → List (List ℕ) → List (List ℕ)
naming x [] = []
naming x (r ∷ rs) = cond (eqb (server_of r) x) (r ∷ naming x rs) (naming x rs)

others : (x s : ℕ) → (x ≡ s → ⊥) → (rs : List (List ℕ)) → naming x (not_naming s rs) ≡ naming x rs
unfolding naming not_naming
others x s n [] = refl
others x s n (r ∷ rs) =
    both (eqb (server_of r) s)
    (λ e. rw (e, ne_eqb (server_of r) x (λ q. n (sym q ∙ eqb-true (server_of r) s e))) (others x s n rs))
    (λ e. rw e (both (eqb (server_of r) x) (λ q. rw (q, others x s n rs)) (λ q. rw (q, others x s n rs))))

module _ (s : ℕ) (t : List ℕ) where
  pub removed_server_gone : (i : ℕ) → i < used (removed_server s t) → server_of (get_or (used_part (removed_server s t)) i []) ≡ s → ⊥
  removed_server_gone = rw (used-removed_server t s) (each_at (λ r. server_of r ≡ s → ⊥) (not_naming s (used_part t)) (gone s (used_part t)))

  pub removed_server_others : (x : ℕ) → (x ≡ s → ⊥) → naming x (used_part (removed_server s t)) ≡ naming x (used_part t)
  removed_server_others x n = rw (used-removed_server t s) (others x s n (used_part t))

  pub removed_server-zero : take ((used t - used (removed_server s t)) * 20) (drop (used (removed_server s t) * 20) (removed_server s t))
      ≡ replicate ((used t - used (removed_server s t)) * 20) 0
  unfolding removed_server
  removed_server-zero =
      rw (ap length (used-removed_server t s)) (packed_zero (not_naming s (used_part t)) t (not_naming_each Sized s (used_part t) (used_sized t)) (not_naming-length s (used_part t)))

  pub removed_server-behind : drop (used t * 20) (removed_server s t) ≡ drop (used t * 20) t
  unfolding removed_server
  removed_server-behind = packed-behind (not_naming s (used_part t)) t (not_naming_each Sized s (used_part t) (used_sized t)) (not_naming-length s (used_part t))
