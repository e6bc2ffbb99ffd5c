-- What is read off a key's record, its server or its tag, if the key has one: how that stands to `find`, and what becomes of it when the table
-- changes. Each law is stated of any reading.
use Prim.Native.Nat.{ℕ, zero, suc, ◌-◌, ◌^◌, ◌<◌}
use mathlib.Core.Bool.{true, false, cond}
use mathlib.Core.List.{List, [], ◌∷◌, ◌++◌, map}
use mathlib.Core.Logic.{◌≢◌, ◌⊎◌, inl, inr}
use mathlib.Core.Option.{Option, none, some}
use mathlib.Core.Path.{◌≡◌, refl, sym, ap, ◌∙◌}
use native.Mathlib.Nat.{not-suc-le-zero, le_of_suc-le-suc}
use native.Mathlib.Omega.{arith}
use lib.Dec.{eqb}
use lib.ListN.{length, get_or}
use borrow.Author.Tests.{ne_eqb}
use Rattle.sets.proofs.Cases.{both, clash, or_left}
use Rattle.spans.specs.Spans.{same}
use Rattle.spans.proofs.Scans.{same_equal}
use Rattle.table.specs.Table.{key_of, tag_of, server_of, used_part, used, room, Rec, rec_of, entries, find, server_at, tag_at, new_record, appended, without, removed, half_closed, not_naming, removed_server, no_stray}
use Rattle.table.proofs.HalfClosed.{half_record, half_key, half_server, half_tag, half_at, used_half}
use Rattle.table.proofs.Records.{used_record, server_used, used-removed, used-removed_server, new_back, tag_used}
use Rattle.table.proofs.Finds.{First, missing_none, found_from, found_within, found_first}
use Rattle.table.proofs.Stray.{used-appended}
use Rattle.claims_histories.specs.Histories.{recorded, Distinct}

-- ---- records as a list

first_tail : (key r : List ℕ) (rs : List (List ℕ)) (i : ℕ) → First key (r ∷ rs) (suc i) → First key rs i
first_tail key r rs i f =
    record {
      within = le_of_suc-le-suc f.within;
      here = f.here;
      none_before = λ j h. f.none_before (suc j) (omega arith);
    }

module _ (f : List ℕ → ℕ) where
  -- what f reads off the first record with the key
  abbrev pub read_for : List ℕ → List (List ℕ) → Option ℕ
  read_for key [] = none
  read_for key (r ∷ rs) = cond (same (key_of r) key) (some (f r)) (read_for key rs)

  read_first : (key : List ℕ) (rs : List (List ℕ)) (i : ℕ) → First key rs i → read_for key rs ≡ some (f (get_or rs i []))
  read_first key [] i p = absurd (not-suc-le-zero p.within)
  read_first key (r ∷ rs) zero p = rw p.here
  read_first key (r ∷ rs) (suc i) p = rw (p.none_before 0 (omega arith)) (read_first key rs i (first_tail key r rs i p))

  read_none : (key : List ℕ) (rs : List (List ℕ)) → ((i : ℕ) → i < length rs → same (key_of (get_or rs i [])) key ≡ false)
      → read_for key rs ≡ none
  read_none key [] n = refl
  read_none key (r ∷ rs) n = rw (n 0 (omega arith)) (read_none key rs (λ i h. n (suc i) (omega arith)))

  -- records behind the others: they count only for a key that has none before
  read_before : (key : List ℕ) (m : ℕ) (rs qs : List (List ℕ)) → read_for key rs ≡ some m → read_for key (rs ++ qs) ≡ some m
  read_before key m [] qs e = cc
  read_before key m (r ∷ rs) qs e =
      both (same (key_of r) key) (λ t. rw t (rw t at e)) (λ t. rw t (read_before key m rs qs (rw t at e)))

  read_behind : (key : List ℕ) (rs qs : List (List ℕ)) → read_for key rs ≡ none → read_for key (rs ++ qs) ≡ read_for key qs
  read_behind key [] qs e = refl
  read_behind key (r ∷ rs) qs e =
      both (same (key_of r) key) (λ t. cc) (λ t. rw t (read_behind key rs qs (rw t at e)))

  -- another key's record taken away, or half-closed
  read_without : (key j : List ℕ) (rs : List (List ℕ)) (i : ℕ) → First j rs i → same j key ≡ false
      → read_for key (without (suc i) rs) ≡ read_for key rs
  unfolding without
  read_without key j [] i p n = refl
  read_without key j (r ∷ rs) zero p n =
      let e : same (key_of r) key ≡ false = rw (same_equal (key_of r) j p.here) n in
      rw e
  read_without key j (r ∷ rs) (suc i) p n =
      both (same (key_of r) key) (λ t. rw t) (λ t. rw t (read_without key j rs i (first_tail j r rs i p) n))

  read_closed_other : (key j : List ℕ) (rs : List (List ℕ)) (i : ℕ) → First j rs i → same j key ≡ false
      → read_for key (half_at (suc i) rs) ≡ read_for key rs
  read_closed_other key j [] i p n = refl
  read_closed_other key j (r ∷ rs) zero p n =
      let e : same (key_of r) key ≡ false = rw (same_equal (key_of r) j p.here) n in
      rw (half_key r, e)
  read_closed_other key j (r ∷ rs) (suc i) p n =
      both (same (key_of r) key) (λ t. rw t) (λ t. rw t (read_closed_other key j rs i (first_tail j r rs i p) n))

  -- the key's own record half-closed
  read_closed : (key : List ℕ) (rs : List (List ℕ)) (i : ℕ) → First key rs i → read_for key (half_at (suc i) rs) ≡ some (f (half_record (get_or rs i [])))
  read_closed key [] i p = absurd (not-suc-le-zero p.within)
  read_closed key (r ∷ rs) zero p = rw (half_key r, p.here)
  read_closed key (r ∷ rs) (suc i) p = rw (p.none_before 0 (omega arith)) (read_closed key rs i (first_tail key r rs i p))

  -- its own record taken away: where no key is recorded twice it has none then
  unrecorded : (key : List ℕ) (rs : List (List ℕ)) → recorded key (map rec_of rs) ≡ false → read_for key rs ≡ none
  unrecorded key [] n = refl
  unrecorded key (r ∷ rs) n =
      both
      (same (key_of r) key)
      (λ t. clash (or_left (recorded key (map rec_of rs)) t) n)
      (λ t. rw t (unrecorded key rs (rw t at n)))

  read_gone : (key : List ℕ) (rs : List (List ℕ)) (i : ℕ) → First key rs i → Distinct (map rec_of rs) → read_for key (without (suc i) rs) ≡ none
  unfolding without
  read_gone key [] i p d = refl
  read_gone key (r ∷ rs) zero p d = unrecorded key rs (rw (same_equal (key_of r) key p.here) at d.0)
  read_gone key (r ∷ rs) (suc i) p d = rw (p.none_before 0 (omega arith)) (read_gone key rs i (first_tail key r rs i p) d.1)

  -- the records of a server taken away: no key gains a record
  read_still : (key : List ℕ) (s : ℕ) (rs : List (List ℕ)) → read_for key rs ≡ none → read_for key (not_naming s rs) ≡ none
  unfolding not_naming
  read_still key s [] e = refl
  read_still key s (r ∷ rs) e =
      both
      (same (key_of r) key)
      (λ t. cc)
      (λ t.
      both
      (eqb (server_of r) s)
      (λ u. rw u (read_still key s rs (rw t at e)))
      (λ u. rw (u, t) (read_still key s rs (rw t at e))))

  -- and where no key is recorded twice one that has a record keeps it or has none
  read_left : (key : List ℕ) (s : ℕ) (rs : List (List ℕ)) → Distinct (map rec_of rs)
      → (read_for key (not_naming s rs) ≡ none) ⊎ (read_for key (not_naming s rs) ≡ read_for key rs)
  unfolding not_naming
  read_left key s [] d = inl refl
  read_left key s (r ∷ rs) d =
      both
      (same (key_of r) key)
      (λ t.
      both
      (eqb (server_of r) s)
      (λ u. rw u (inl (read_still key s rs (unrecorded key rs (rw (same_equal (key_of r) key t) at d.0)))))
      (λ u. rw (u, t) (inr refl)))
      (λ t.
      both
      (eqb (server_of r) s)
      (λ u. rw (u, t) (read_left key s rs d.1))
      (λ u. rw (u, t) (read_left key s rs d.1)))

-- it keeps it that names another server
read_others : (f : List ℕ → ℕ) (key : List ℕ) (s m : ℕ) (rs : List (List ℕ)) → m ≢ s → read_for server_of key rs ≡ some m
    → read_for f key (not_naming s rs) ≡ read_for f key rs
unfolding not_naming
read_others f key s m [] n e = refl
read_others f key s m (r ∷ rs) n e =
    both
    (same (key_of r) key)
    (λ t.
    let q : server_of r ≡ m = cc in
    rw (ne_eqb (server_of r) s (λ p. n (sym q ∙ p)), t))
    (λ t.
    both
    (eqb (server_of r) s)
    (λ u. rw (u, t) (read_others f key s m rs n (rw t at e)))
    (λ u. rw (u, t) (read_others f key s m rs n (rw t at e))))

-- ---- records in a table

module _ (f : List ℕ → ℕ) (key t : List ℕ) where
  abbrev pub read_in : Option ℕ
  read_in = read_for f key (used_part t)

  pub found_read : (find key t).found ≡ true → read_in ≡ some (f (get_or (used_part t) ((find key t).reads - 1) []))
  found_read e = read_first f key (used_part t) ((find key t).reads - 1) (found_first key t e)

  pub missing_read : (find key t).found ≡ false → read_in ≡ none
  missing_read e = read_none f key (used_part t) (missing_none key t e)

  pub read_missing : read_in ≡ none → (find key t).found ≡ false
  read_missing e =
      both
      (find key t).found
      (λ q. let g = found_read q in let z : ◌≡◌ {A = ℕ} 0 1 = cc in absurd (omega arith))
      (λ q. q)

  -- a new record of the key j
  module _ (clean : no_stray t ≡ true) (left : used t < room t) (j : List ℕ) (s : ℕ) (k : length j ≡ 13) where
    pub read_appended : (m : ℕ) → read_in ≡ some m → read_for f key (used_part (appended j s t)) ≡ some m
    read_appended m e = rw (used-appended t clean left j s k) (read_before f key m (used_part t) (new_record j s ∷ []) e)

    pub read_new : s < 2 ^ 32 → read_in ≡ none → read_for f key (used_part (appended j s t)) ≡ cond (same j key) (some (f (new_record j s))) none
    read_new h e =
        rw (used-appended t clean left j s k)
        (read_behind f key (used_part t) (new_record j s ∷ []) e
        ∙ ap (λ (r : Rec). cond (same r.key key) (some (f (new_record j s))) none) (new_back j s k h))

  -- the record of the key j taken away, or half-closed
  module _ (j : List ℕ) (e : (find j t).found ≡ true) where
    abbrev place : ℕ
    place = (find j t).reads

    counted : suc (place - 1) ≡ place
    counted = omega (arith, found_from j t e)

    pub read_removed : same j key ≡ false → read_for f key (used_part (removed place t)) ≡ read_in
    read_removed n = rw (used-removed t place, ← counted) (read_without f key j (used_part t) (place - 1) (found_first j t e) n)

    pub read_half : same j key ≡ false → read_for f key (used_part (half_closed place t)) ≡ read_in
    read_half n = rw (used_half t place, ← counted) (read_closed_other f key j (used_part t) (place - 1) (found_first j t e) n)

  -- the key's own
  pub read_ended : (find key t).found ≡ true → Distinct (entries t) → read_for f key (used_part (removed (find key t).reads t)) ≡ none
  read_ended e d =
      rw (used-removed t (find key t).reads, ← (counted key e))
      (read_gone f key (used_part t) ((find key t).reads - 1) (found_first key t e) d)

  pub read_closed_own : (find key t).found ≡ true
      → read_for f key (used_part (half_closed (find key t).reads t)) ≡ some (f (half_record (get_or (used_part t) ((find key t).reads - 1) [])))
  read_closed_own e =
      ap (read_for f key) (used_half t (find key t).reads ∙ ap (λ (p : ℕ). half_at p (used_part t)) (sym (counted key e)))
      ∙ read_closed f key (used_part t) ((find key t).reads - 1) (found_first key t e)

  -- the records of the server s taken away
  pub read_kept : (s m : ℕ) → m ≢ s → read_for server_of key (used_part t) ≡ some m → read_for f key (used_part (removed_server s t)) ≡ read_in
  read_kept s m n e = rw (used-removed_server t s) (read_others f key s m (used_part t) n e)

  pub read_without_server : (s : ℕ) → read_in ≡ none → read_for f key (used_part (removed_server s t)) ≡ none
  read_without_server s e = rw (used-removed_server t s) (read_still f key s (used_part t) e)

  pub read_parted : (s : ℕ) → Distinct (entries t)
      → (read_for f key (used_part (removed_server s t)) ≡ none) ⊎ (read_for f key (used_part (removed_server s t)) ≡ read_in)
  read_parted s d = rw (used-removed_server t s) (read_left f key s (used_part t) d)

-- ---- the server and the tag
module _ (key t : List ℕ) where
  abbrev pub server_for : Option ℕ
  server_for = read_in server_of key t

  abbrev pub tag_for : Option ℕ
  tag_for = read_in tag_of key t

  pub found_server : (find key t).found ≡ true → server_for ≡ some (server_at (find key t).reads t)
  found_server e =
      found_read server_of key t e ∙ ap some (sym (server_used t (find key t).reads (found_from key t e) (found_within key t e)))

  pub found_tag : (find key t).found ≡ true → tag_for ≡ some (tag_at (find key t).reads t)
  found_tag e =
      found_read tag_of key t e ∙ ap some (sym (tag_used t (find key t).reads (found_from key t e) (found_within key t e)))

  pub server_found : (m : ℕ) → server_for ≡ some m → ((find key t).found ≡ true) × (server_at (find key t).reads t ≡ m)
  server_found m e =
      both
      (find key t).found
      (λ f. (f, (let g = found_server f in cc)))
      (λ f. let g = missing_read server_of key t f in let z : ◌≡◌ {A = ℕ} 0 1 = cc in absurd (omega arith))

  -- a new record names its server, and its tag is 1
  module _ (clean : no_stray t ≡ true) (left : used t < room t) (j : List ℕ) (s : ℕ) (k : length j ≡ 13) (h : s < 2 ^ 32) where
    pub server_new : server_for ≡ none → read_in server_of key (appended j s t) ≡ cond (same j key) (some s) none
    server_new e =
        read_new server_of key t clean left j s k h e ∙ ap (λ (r : Rec). cond (same j key) (some r.server) none) (new_back j s k h)

    pub tag_new : tag_for ≡ none → read_in tag_of key (appended j s t) ≡ cond (same j key) (some 1) none
    tag_new e = read_new tag_of key t clean left j s k h e ∙ ap (λ (r : Rec). cond (same j key) (some r.tag) none) (new_back j s k h)

  -- a half-closed record names the server that it named; its tag is 2
  pub server_half : (j : List ℕ) → (find j t).found ≡ true → read_in server_of key (half_closed (find j t).reads t) ≡ server_for
  server_half j e =
      both
      (same j key)
      (λ q.
      let own : (find key t).found ≡ true = rw (same_equal j key q) at e in
      rw (same_equal j key q) (read_closed_own server_of key t own ∙ ap some (half_server (get_or (used_part t) ((find key t).reads - 1) [])) ∙ sym (found_read server_of key t own)))
      (λ q. read_half server_of key t j e q)

  pub tag_half : (find key t).found ≡ true → read_in tag_of key (half_closed (find key t).reads t) ≡ some 2
  tag_half e =
      read_closed_own tag_of key t e
      ∙ ap some (half_tag (get_or (used_part t) ((find key t).reads - 1) []) (used_record t _ (found_first key t e).within).0)
