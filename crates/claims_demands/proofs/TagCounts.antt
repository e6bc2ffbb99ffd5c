-- A record's tag counts the ends of its key since it was written, along every history: what a history's events and answers show of them, and
-- what the table holds, is the same.
use Prim.Native.Nat.{ℕ, ◌+◌, ◌<◌}
use mathlib.Core.Bool.{true, false}
use mathlib.Core.List.{List, [], ◌∷◌}
use mathlib.Core.Logic.{◌≢◌, ◌↔◌, ◌⊎◌, inl, inr, ⊎_elim}
use mathlib.Core.Option.{none, some}
use mathlib.Core.Path.{◌≡◌, refl, ap, ◌∙◌}
use native.Mathlib.Omega.{arith}
use lib.Dec.{eqb}
use lib.ListN.{length}
use borrow.Author.Tests.{ne_eqb}
use Rattle.sets.proofs.Cases.{both, clash}
use Rattle.spans.specs.Spans.{same}
use Rattle.spans.proofs.Scans.{same_equal, same_self}
use Rattle.event.specs.Event.{Request, asks_key, event_in}
use Rattle.event.proofs.Reading.{reading}
use Rattle.table.specs.Table.{tag_of, used_part, used, find, tag_at}
use Rattle.rules.specs.Answer.{Answer, accepts, refuses}
use Rattle.rules.specs.Rules.{World, Change, Done}
use Rattle.rules.proofs.Ends.{first, next, nothing}
use Rattle.claims_histories.specs.Histories.{start_accepted, after, answer, AllBytes}
use Rattle.table.proofs.HalfClosed.{tag_cases}
use Rattle.claims_histories.proofs.Inner.{Inner}
use Rattle.claims_histories.proofs.Picking.{pick_at}
use Rattle.claims_histories.proofs.Along.{event_judged, inner}
use Rattle.claims_demands.specs.Demands.{Engine, ours, is_of, ends_since, FewerThanTwo, NoneWithout}
use Rattle.claims_demands.proofs.Obeys.{ours_obeys}
use Rattle.claims_demands.proofs.Same.{no_end, first-end, next_end}
use Rattle.claims_demands.proofs.Witness.{clear_used}
use Rattle.claims_demands.proofs.SteadyRecords.{read_for, tag_for, found_tag, missing_read, read_missing, read_appended, tag_new, read_removed, read_half, read_ended, tag_half, read_parted}
use Rattle.claims_demands.proofs.SteadyEvents.{known, safe, written, full, Goes, turned, served, ended, entered, left, stood, went, set, goes}
use Rattle.claims_demands.proofs.SteadyChanges.{works_fits}

-- ---- which events count
module _ (E : Engine) (key : List ℕ) (g : List (List ℕ)) (bytes : List ℕ) where
  abbrev before : ℕ
  before = ends_since E key g

  abbrev now : ℕ
  now = ends_since E key (bytes ∷ g)

  refused_uncounted : (n : ℕ) → E.says g bytes ≡ refuses n → now ≡ before
  unfolding ends_since
  refused_uncounted n a =
      both (is_of 1 key bytes)
      (λ p. both (is_of 2 key bytes) (λ q. rw (p, q, a)) (λ q. rw (p, q, a)))
      (λ p. both (is_of 2 key bytes) (λ q. rw (p, q, a)) (λ q. rw (p, q)))

  other_uncounted : (event_in bytes).kind ≢ 2 → (s m r : ℕ) → m ≢ 3 → E.says g bytes ≡ accepts s m r → now ≡ before
  unfolding ends_since
  other_uncounted k s m r n a =
      both (is_of 1 key bytes)
      (λ p. rw (p, a, ne_eqb m 3 n, ne_eqb (event_in bytes).kind 2 k))
      (λ p. rw (p, ne_eqb (event_in bytes).kind 2 k))

  another_uncounted : same (event_in bytes).key key ≡ false → now ≡ before
  unfolding ends_since
  another_uncounted s =
      both (eqb (event_in bytes).kind 1)
      (λ p. both (eqb (event_in bytes).kind 2) (λ q. rw (p, q, s)) (λ q. rw (p, q, s)))
      (λ p. both (eqb (event_in bytes).kind 2) (λ q. rw (p, q, s)) (λ q. rw (p, q)))

  written-counted : (event_in bytes).kind ≡ 1 → same (event_in bytes).key key ≡ true → (s r : ℕ) → E.says g bytes ≡ accepts s 3 r → now ≡ 0
  unfolding ends_since
  written-counted k y s r a = rw (k, y, a)

  end-counted : (event_in bytes).kind ≡ 2 → same (event_in bytes).key key ≡ true → (m r : ℕ) → E.says g bytes ≡ accepts 0 m r → now ≡ before + 1
  unfolding ends_since
  end-counted k y m r a = rw (k, y, a)

-- the key has no record, or its tag counts n ends
abbrev Counted : List ℕ → List ℕ → ℕ → Type 0
Counted key t n = (tag_for key t ≡ none) ⊎ (tag_for key t ≡ some (1 + n))

-- ---- one event
module _ (w : World) (s : start_accepted w ≡ true) (h : List (List ℕ)) (bytes : List ℕ) (b : AllBytes h) (key : List ℕ) where
  abbrev v : World
  v = after w h

  abbrev e : Request
  e = event_in bytes

  abbrev t : List ℕ
  t = v.state.table

  abbrev counted-before : Type 0
  counted-before = Counted key t (ends_since (ours w) key h)

  abbrev counted_now : List ℕ → Type 0
  counted_now t' = Counted key t' (ends_since (ours w) key (bytes ∷ h))

  i : Inner v
  i = inner w s h b

  -- an event that doesn't count and leaves the key's tag
  moved : (t' : List ℕ) → ends_since (ours w) key (bytes ∷ h) ≡ ends_since (ours w) key h → tag_for key t' ≡ tag_for key t → counted-before → counted_now t'
  moved t' q z = rw (q, z) (λ f. f)

  -- such is an accepted event other than an end, whose mark isn't 3, if it leaves the table
  untouched : (x m r : ℕ) → e.kind ≢ 2 → m ≢ 3 → answer w h bytes ≡ accepts x m r → counted-before → counted_now t
  untouched x m r k n a f = moved t (other_uncounted (ours w) key h bytes k x m r n a) refl f

  -- the key's own end
  own : same e.key key ≡ true → (find e.key t).found ≡ true → (find key t).found ≡ true
  own y f = rw (same_equal e.key key y) at f

  first_counted : (find key t).found ≡ true → tag_at (find key t).reads t ≡ 1 → counted-before → ends_since (ours w) key h ≡ 0
  first_counted f one =
      let g = found_tag key t f in
      ⊎_elim (λ z. clash f (read_missing tag_of key t z))
      (λ z. let q : 1 + ends_since (ours w) key h ≡ tag_at (find key t).reads t = cc in omega arith)

  counted-after : {c : Change} → Goes v e c → answer w h bytes ≡ c.answer → counted-before → counted_now c.state.table
  counted-after (turned x) a f = moved t (refused_uncounted (ours w) key h bytes x a) refl f
  counted-after (served k (known g q)) a f = untouched _ 1 _ (λ z. omega arith) (λ z. omega arith) a f
  counted-after (served k (safe g q u)) a f = untouched _ 2 _ (λ z. omega arith) (λ z. omega arith) a f
  counted-after (served k (written g q l)) a f =
      let p = (pick_at v e.key).server in
      let new = tag_new key t i.along.clean l e.key p (reading bytes).key_sized (works_fits v i p q) in
      both (same e.key key)
      (λ y.
      let none_yet : (find key t).found ≡ false = rw (same_equal e.key key y) at g in
      inr (new (missing_read tag_of key t none_yet) ∙ rw (written-counted (ours w) key h bytes k y p (used t) a, y)))
      (λ y.
      rw (another_uncounted (ours w) key h bytes y)
      (⊎_elim (λ z. inl (new z ∙ rw y)) (λ z. inr (read_appended tag_of key t i.along.clean l e.key p (reading bytes).key_sized _ z)) f))
  counted-after (served k full) a f = untouched _ 4 _ (λ z. omega arith) (λ z. omega arith) a f
  counted-after (ended k (first g one)) a f =
      both (same e.key key)
      (λ y.
      let n = first_counted (own y g) (rw (same_equal e.key key y) at one) f in
      inr (rw (end-counted (ours w) key h bytes k y 8 (find e.key t).reads a, n, same_equal e.key key y) (tag_half key t (own y g))))
      (λ y. moved _ (another_uncounted (ours w) key h bytes y) (read_half tag_of key t e.key g y) f)
  counted-after (ended k (next g other)) a f =
      both (same e.key key)
      (λ y. inl (rw (same_equal e.key key y) (read_ended tag_of key t (own y g) i.along.distinct)))
      (λ y. moved _ (another_uncounted (ours w) key h bytes y) (read_removed tag_of key t e.key g y) f)
  counted-after (ended k (nothing g)) a f =
      both (same e.key key)
      (λ y. inl (missing_read tag_of key t (rw (same_equal e.key key y) at g)))
      (λ y. moved t (another_uncounted (ours w) key h bytes y) refl f)
  counted-after (entered k) a f = untouched _ 0 _ (λ z. omega arith) (λ z. omega arith) a f
  counted-after (left k q) a f =
      ⊎_elim inl (λ z. moved _ (other_uncounted (ours w) key h bytes (λ x. omega arith) 0 0 0 (λ x. omega arith) a) z f)
      (read_parted tag_of key t e.server i.along.distinct)
  counted-after (stood k q) a f = untouched _ 0 _ (λ z. omega arith) (λ z. omega arith) a f
  counted-after (went k q) a f = untouched _ 0 _ (λ z. omega arith) (λ z. omega arith) a f
  counted-after (set k q) a f = untouched _ 0 _ (λ z. omega arith) (λ z. omega arith) a f

-- ---- along every history
module _ (w : World) (s : start_accepted w ≡ true) where
  counted_along : (h : List (List ℕ)) → AllBytes h → (key : List ℕ) → Counted key (after w h).state.table (ends_since (ours w) key h)
  unfolding after
  counted_along [] b key =
      inl (ap (read_for tag_of key) (ap used_part (ours_obeys w s).starts_clear ∙ clear_used (length w.state.table)))
  counted_along (bytes ∷ h) b key =
      let q = event_judged (after w h) (inner w s h b.1).along bytes in
      rw (q, after)
      (counted-after w s h bytes b.1 key (goes (after w h) bytes) (ap (λ (d : Done). d.answer) q) (counted_along h b.1 key))

  -- THE TAG COUNTS THE ENDS: 1 before the first, 2 after it
  pub tag_counts : (h : List (List ℕ)) → AllBytes h → (key : List ℕ) → (find key (after w h).state.table).found ≡ true
      → tag_at (find key (after w h).state.table).reads (after w h).state.table ≡ 1 + ends_since (ours w) key h
  tag_counts h b key f =
      let t = (after w h).state.table in
      let g = found_tag key t f in
      ⊎_elim (λ z. clash f (read_missing tag_of key t z)) (λ z. cc) (counted_along h b key)

  -- so while a key has a record it was ended at most once
  pub ended-once : (h : List (List ℕ)) → AllBytes h → (key : List ℕ) → (find key (after w h).state.table).found ≡ true
      → ends_since (ours w) key h < 2
  ended-once h b key f =
      let c = tag_counts h b key f in
      ⊎_elim (λ q. omega (arith, c, q)) (λ q. omega (arith, c, q)) (tag_cases key (after w h).state.table f)

  -- an end of the key
  module _ (h : List (List ℕ)) (bytes key : List ℕ) (b : AllBytes (bytes ∷ h)) (e : event_in bytes ≡ asks_key 2 key) where
    abbrev ends : ℕ
    ends = ends_since (ours w) key (bytes ∷ h)

    ends_more : (m r : ℕ) → answer w h bytes ≡ accepts 0 m r → ends ≡ ends_since (ours w) key h + 1
    ends_more = end-counted (ours w) key h bytes (rw e) (rw e (same_self key))

    -- on a record: it is the first since the record was written, with mark 8, or the second, with mark 5
    told : (find key (after w h).state.table).found ≡ true
        → ((answer w h bytes).accepted ≡ true) × ((((answer w h bytes).mark ≡ 8) × (ends ≡ 1)) ⊎ (((answer w h bytes).mark ≡ 5) × (ends ≡ 2)))
    told f =
        let d = ours_obeys w s in
        let n = length w.state.table in
        let c = tag_counts h b.1 key f in
        ⊎_elim
        (λ q.
        let (a, t) = first-end n (ours w) d h bytes b key e f q in
        (ap (λ (x : Answer). x.accepted) a, inl (ap (λ (x : Answer). x.mark) a, omega (arith, c, q, ends_more 8 _ a))))
        (λ q.
        let (a, t) = next_end n (ours w) d h bytes b key e f (λ one. omega (arith, one, q)) in
        (ap (λ (x : Answer). x.accepted) a, inr (ap (λ (x : Answer). x.mark) a, omega (arith, c, q, ends_more 5 _ a))))
        (tag_cases key (after w h).state.table f)

    -- so mark 8 tells the first, and mark 5 the second
    pub mark_first : (find key (after w h).state.table).found ≡ true → ((answer w h bytes).mark ≡ 8) ↔ (ends ≡ 1)
    mark_first f =
        ⊎_elim (λ (m, n). (λ q. n, λ q. m)) (λ (m, n). (λ q. absurd (omega (arith, m, q)), λ q. absurd (omega (arith, n, q)))) (told f).1

    pub mark_second : (find key (after w h).state.table).found ≡ true → ((answer w h bytes).mark ≡ 5) ↔ (ends ≡ 2)
    mark_second f =
        ⊎_elim (λ (m, n). (λ q. absurd (omega (arith, m, q)), λ q. absurd (omega (arith, n, q)))) (λ (m, n). (λ q. n, λ q. m)) (told f).1

    -- while there are fewer than two, no end removes the record
    pub unremoved : FewerThanTwo (ours w) key h bytes → (answer w h bytes).mark ≢ 5
    unremoved few m =
        both (find key (after w h).state.table).found
        (λ f.
        let n = (mark_second f).0 m in
        let l = few (rw (e, (told f).0, same_self key)) (λ q. omega (arith, m, q)) in
        omega (arith, n, l))
        (λ f.
        let a = (no_end (length w.state.table) (ours w) (ours_obeys w s) h bytes b key e f).0 in
        omega (arith, m, ap (λ (x : Answer). x.mark) a))

    -- the proviso about ends, both halves, lets an end pass exactly when its mark is 8
    pub proviso_marked : (FewerThanTwo (ours w) key h bytes × NoneWithout (ours w) key h bytes) ↔ ((answer w h bytes).mark ≡ 8)
    proviso_marked =
        both (find key (after w h).state.table).found
        (λ f.
        let (ok, t) = told f in
        ⊎_elim
        (λ (m, n). (λ q. m, λ q. (λ x y. omega (arith, n), λ x y. omega (arith, m, y))))
        (λ (m, n). (
          λ (few, without). absurd (let l = few (rw (e, ok, same_self key)) (λ q. omega (arith, m, q)) in omega (arith, n, l)),
          λ q. absurd (omega (arith, m, q)),
        ))
        t)
        (λ f.
        let a = (no_end (length w.state.table) (ours w) (ours_obeys w s) h bytes b key e f).0 in
        let m = ap (λ (x : Answer). x.mark) a in
        (λ (few, without). absurd (without (rw (e, ap (λ (x : Answer). x.accepted) a, same_self key)) m), λ q. absurd (omega (arith, m, q))))
