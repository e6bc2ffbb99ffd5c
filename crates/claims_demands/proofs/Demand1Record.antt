-- Demand 1, refusals 1 and 2: what an event record reads as, against the causes that the document lists.
use Prim.Native.Nat.{ℕ, ◌+◌, ◌-◌, ◌<◌, ◌≤◌}
use mathlib.Core.Bool.{true, false}
use mathlib.Core.List.{List}
use mathlib.Core.Logic.{◌≢◌, ◌⊎◌, inl, inr, ⊎_elim}
use mathlib.Core.Path.{◌≡◌, refl, sym, ◌∙◌}
use native.Mathlib.Omega.{arith}
use lib.Dec.{eqb}
use lib.ListN.{length, get_or, take, drop, length-drop}
use lib.Seq.{get_or-drop, get_or-take, drop-drop, length-take-le}
use borrow.Author.Tests.{eqb-true, eqb-false}
use Rattle.sets.proofs.Cases.{both}
use Rattle.bigendian.specs.BigEndian.{number2_at, number4_at}
use Rattle.spans.specs.Spans.{all_zero}
use Rattle.spans.proofs.Zeros.{zero-at, nonzero_at}
use Rattle.settings.specs.Settings.{valid, named, well_formed}
use Rattle.event.specs.Event.{Request, refused_by, asks_server, asks_settings, by_kind, event_in}
use Rattle.claims_demands.specs.Causes.{kind_in, key_in, server_in, BadSettings, Malformed, not_sixteen, unknown_kind, filler, server_filler, settings_filler, bad_asked}
use Rattle.claims_demands.proofs.Demand1Lent.{zero-from, nonzero_from, bad_settings_lem, good_settings}

-- what a record has that isn't malformed
record Right (l : List ℕ) : Type 0 where
  pub some : 1 ≤ kind_in l
  pub few : kind_in l ≤ 7
  pub server_zeros : 3 ≤ kind_in l → kind_in l ≤ 6 → all_zero (drop 7 l) ≡ true
  pub settings_zeros : kind_in l ≡ 7 → all_zero (drop 6 l) ≡ true
  pub settings_right : kind_in l ≡ 7 → BadSettings (get_or l 3 0) (number2_at l 4) → ⊥

-- an event that is of the record's kind, and has its key or server
pub record Agrees (l : List ℕ) (e : Request) : Type 0 where
  pub kind : e.kind ≡ kind_in l
  pub some : 1 ≤ kind_in l
  pub few : kind_in l ≤ 7
  pub key : kind_in l ≤ 2 → e.key ≡ key_in l
  pub server : 3 ≤ kind_in l → kind_in l ≤ 6 → e.server ≡ server_in l

abbrev pub Serverless : List ℕ → Type 0
Serverless l = (3 ≤ kind_in l) × (kind_in l ≤ 6) × (server_in l ≡ 0)

-- what a record reads as
pub data Reads (l : List ℕ) : Request → Type 0 where
  malformed : Malformed l → Reads l (refused_by 1)
  serverless : (Malformed l → ⊥) → Serverless l → Reads l (refused_by 2)
  asks : (e : Request) → (Malformed l → ⊥) → (Serverless l → ⊥) → Agrees l e → Reads l e

-- a kind that is none of the seven
above : {k : ℕ} (n : ℕ) → n ≤ k → k ≢ n → n < k
above n l m = omega arith

beyond : (k : ℕ) → k ≢ 1 → k ≢ 2 → k ≢ 3 → k ≢ 4 → k ≢ 5 → k ≢ 6 → k ≢ 7 → (k ≡ 0) ⊎ (7 < k)
beyond k a b c d e f g =
    both (eqb k 0) (λ z. inl (eqb-true k 0 z)) (λ z.
    inr (above 7 (above 6 (above 5 (above 4 (above 3 (above 2 (above 1 (above 0 (omega (arith)) (eqb-false k 0 z)) a) b) c) d) e) f) g))

module _ (l : List ℕ) (long : length l ≡ 16) where
  filled_wrong : all_zero (take 2 (drop 1 l)) ≡ false → Malformed l
  filled_wrong z =
      let (i, within, n) = nonzero_at (take 2 (drop 1 l)) z in
      let two : length (take 2 (drop 1 l)) ≡ 2 = length-take-le 2 (drop 1 l) (omega (arith, length-drop 1 l)) in
      let low : i < 2 = omega arith in
      filler (1 + i) (omega arith) (omega arith) (λ q. n (get_or-take 2 (drop 1 l) i 0 low ∙ get_or-drop 1 l i 0 ∙ q))

  module _ (zeros : all_zero (take 2 (drop 1 l)) ≡ true) where
    -- bytes 1 and 2
    filled-right : (i : ℕ) → 1 ≤ i → i ≤ 2 → get_or l i 0 ≡ 0
    filled-right i from to =
        let e : 1 + (i - 1) ≡ i = omega arith in
        rw e at
        (sym (get_or-drop 1 l (i - 1) 0) ∙ sym (get_or-take 2 (drop 1 l) (i - 1) 0 (omega arith)) ∙ zero-at (take 2 (drop 1 l)) zeros (i - 1))

    right : Right l → Malformed l → ⊥
    right p (not_sixteen n) = n long
    right p (unknown_kind u) = ⊎_elim (λ z. omega (arith, p.some)) (λ z. omega (arith, p.few)) u
    right p (filler i from to n) = n (filled-right i from to)
    right p (server_filler a b i from to n) = n (zero-from 7 l (p.server_zeros a b) i from)
    right p (settings_filler k i from to n) = n (zero-from 6 l (p.settings_zeros k) i from)
    right p (bad_asked k b) = p.settings_right k b

    -- kinds 1 and 2
    keyed : (k : ℕ) → kind_in l ≡ k → 1 ≤ k → k ≤ 2 → (e : Request) → e.kind ≡ k → e.key ≡ drop 3 l → Reads l e
    keyed k q low high e same key =
        asks e
        (right
        (record {
          some = omega arith;
          few = omega arith;
          server_zeros = λ a b. absurd (omega arith);
          settings_zeros = λ a. absurd (omega arith);
          settings_right = λ a. absurd (omega arith);
        }))
        (λ s. omega (arith, s.0))
        (record { kind = same ∙ sym q; some = omega arith; few = omega arith; key = λ _. key; server = λ a b. absurd (omega arith) })

    -- kinds 3 to 6
    server-same : number4_at (drop 3 l) 0 ≡ server_in l
    server-same = rw (get_or-drop 3 l 0 0, get_or-drop 3 l 1 0, get_or-drop 3 l 2 0, get_or-drop 3 l 3 0)

    naming : (k : ℕ) → kind_in l ≡ k → 3 ≤ k → k ≤ 6 → Reads l (asks_server k (drop 3 l))
    unfolding asks_server
    naming k q low high =
        both (all_zero (drop 4 (drop 3 l)))
        (λ z.
        let p : Right l =
        record {
          some = omega arith;
          few = omega arith;
          server_zeros = λ a b. rw (drop-drop 4 3 l) at z;
          settings_zeros = λ a. absurd (omega arith);
          settings_right = λ a. absurd (omega arith);
        } in
        both (eqb (number4_at (drop 3 l) 0) 0)
        (λ e. rw (z, e) (serverless (right p) (omega arith, omega arith, sym server-same ∙ eqb-true (number4_at (drop 3 l) 0) 0 e)))
        (λ e.
        rw (z, e)
        (asks _ (right p)
        (λ s. eqb-false (number4_at (drop 3 l) 0) 0 e (server-same ∙ s.2))
        (record { kind = sym q; some = omega arith; few = omega arith; key = λ a. absurd (omega arith); server = λ _ _. server-same }))))
        (λ z.
        let (i, from, within, n) = nonzero_from 7 l (rw (drop-drop 4 3 l) at z) in
        rw z (malformed (server_filler (omega arith) (omega arith) i from (omega arith) n)))

    -- kind 7
    configuring : kind_in l ≡ 7 → Reads l (asks_settings (drop 3 l))
    unfolding asks_settings well_formed
    configuring q =
        both (all_zero (drop 3 (drop 3 l)))
        (λ z.
        both (valid (named (drop 3 l)))
        (λ v.
        rw (z, v)
        (asks _
        (right
        (record {
          some = omega arith;
          few = omega arith;
          server_zeros = λ a b. absurd (omega arith);
          settings_zeros = λ _. rw (drop-drop 3 3 l) at z;
          settings_right = λ _. rw (get_or-drop 3 l 0 0, get_or-drop 3 l 1 0, get_or-drop 3 l 2 0) at (good_settings (named (drop 3 l)) v);
        }))
        (λ s. omega (arith, s.1))
        (record {
          kind = sym q;
          some = omega arith;
          few = omega arith;
          key = λ a. absurd (omega arith);
          server = λ a b. absurd (omega arith);
        })))
        (λ v.
        rw (z, v)
        (malformed (bad_asked q (rw (get_or-drop 3 l 0 0, get_or-drop 3 l 1 0, get_or-drop 3 l 2 0) at (bad_settings_lem (named (drop 3 l)) v))))))
        (λ z.
        let (i, from, within, n) = nonzero_from 6 l (rw (drop-drop 3 3 l) at z) in
        rw z (malformed (settings_filler q i from (omega arith) n)))

    of_kind : Reads l (by_kind (kind_in l) (drop 3 l))
    unfolding by_kind
    of_kind =
        let k = kind_in l in
        both (eqb k 1) (λ e. rw e (keyed 1 (eqb-true k 1 e) (omega arith) (omega arith) _ refl refl)) (λ e₁.
        both (eqb k 2) (λ e. rw (e₁, e) (keyed 2 (eqb-true k 2 e) (omega arith) (omega arith) _ refl refl)) (λ e₂.
        both (eqb k 3) (λ e. rw (e₁, e₂, e) (naming 3 (eqb-true k 3 e) (omega arith) (omega arith))) (λ e₃.
        both (eqb k 4) (λ e. rw (e₁, e₂, e₃, e) (naming 4 (eqb-true k 4 e) (omega arith) (omega arith))) (λ e₄.
        both (eqb k 5) (λ e. rw (e₁, e₂, e₃, e₄, e) (naming 5 (eqb-true k 5 e) (omega arith) (omega arith))) (λ e₅.
        both (eqb k 6) (λ e. rw (e₁, e₂, e₃, e₄, e₅, e) (naming 6 (eqb-true k 6 e) (omega arith) (omega arith))) (λ e₆.
        both (eqb k 7) (λ e. rw (e₁, e₂, e₃, e₄, e₅, e₆, e) (configuring (eqb-true k 7 e))) (λ e₇.
        rw (e₁, e₂, e₃, e₄, e₅, e₆, e₇) (malformed (unknown_kind
        (beyond k (eqb-false k 1 e₁) (eqb-false k 2 e₂) (eqb-false k 3 e₃) (eqb-false k 4 e₄) (eqb-false k 5 e₅) (eqb-false k 6 e₆) (eqb-false k 7 e₇)))))))))))

pub reads : (l : List ℕ) → Reads l (event_in l)
unfolding event_in
reads l =
    both (eqb (length l) 16)
    (λ n.
    let long = eqb-true (length l) 16 n in
    both (all_zero (take 2 (drop 1 l)))
    (λ z. rw (n, z) (of_kind l long z))
    (λ z. rw (n, z) (malformed (filled_wrong l long z))))
    (λ n. rw n (malformed (not_sixteen (eqb-false (length l) 16 n))))
