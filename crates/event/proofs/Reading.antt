-- What an event record can be, and what follows for its fields: laws to use in place of the text of `event_in`.
use Prim.Native.Nat.{ℕ, zero, suc, ◌+◌, ◌*◌, ◌/◌, ◌%◌, ◌<◌, ◌≤◌, ◌^◌}
use mathlib.Core.Bool.{true}
use mathlib.Core.List.{List, [], ◌∷◌, ◌++◌}
use mathlib.Core.Path.{◌≡◌, refl, ◌∙◌}
use native.Mathlib.Nat.{div-add-mod'}
use native.Mathlib.Omega.{arith}
use lib.Dec.{eqb, ltb}
use lib.ListN.{length, get_or, take, drop, replicate, length-drop}
use lib.Seq.{get_or-drop}
use borrow.Author.Tests.{eqb-true, eqb-false, ne_eqb, ltb-true, lt-ltb}
use Rattle.sets.proofs.Cases.{both, clash}
use Rattle.bigendian.specs.BigEndian.{bytes4, number4_at}
use Rattle.bigendian.proofs.RoundTrip.{number4-bytes4}
use Rattle.spans.specs.Spans.{all_zero}
use Rattle.settings.specs.declared.Settings.{Settings}
use Rattle.settings.specs.Settings.{named, well_formed, valid}
use Rattle.event.specs.Event.{Request, refused_by, asks_key, names, asks_server, configures, asks_settings, by_kind, event_in, all_bytes}

-- the kinds of event
pub data Kind : ℕ → Type 0 where
  packet : Kind 1
  end : Kind 2
  add_working : Kind 3
  remove_working : Kind 4
  add_horizon : Kind 5
  remove_horizon : Kind 6
  configure : Kind 7

-- the four things that a record can be
pub data Outcome (l : List ℕ) : Request → Type 0 where
  refused : (n : ℕ) → 0 < n → n ≤ 2 → Outcome l (refused_by n)
  keyed : (k : ℕ) → 0 < k → k ≤ 2 → length l ≡ 16 → Outcome l (asks_key k (drop 3 l))
  naming : (k : ℕ) → 3 ≤ k → k ≤ 6 → 0 < number4_at (drop 3 l) 0 → Outcome l (names k (number4_at (drop 3 l) 0))
  configured : (s : Settings) → valid s ≡ true → Outcome l (configures s)

refused1 : {l : List ℕ} → Outcome l (refused_by 1)
refused1 = refused 1 (omega arith) (omega arith)

of_server : (l : List ℕ) (k : ℕ) → 3 ≤ k → k ≤ 6 → Outcome l (asks_server k (drop 3 l))
unfolding asks_server
of_server l k low high =
    both (all_zero (drop 4 (drop 3 l))) (λ z. rw z
    (both (eqb (number4_at (drop 3 l) 0) 0) (λ e. rw e (refused 2 (omega arith) (omega arith))) (λ e. rw e
    (naming k low high (omega (arith, eqb-false (number4_at (drop 3 l) 0) 0 e))))))
    (λ z. rw z refused1)

of_settings : (l : List ℕ) → Outcome l (asks_settings (drop 3 l))
unfolding asks_settings well_formed
of_settings l =
    both (all_zero (drop 3 (drop 3 l))) (λ z. rw z
    (both (valid (named (drop 3 l))) (λ v. rw v (configured (named (drop 3 l)) v)) (λ v. rw v refused1)))
    (λ z. rw z refused1)

of_kind : (l : List ℕ) → length l ≡ 16 → (k : ℕ) → Outcome l (by_kind k (drop 3 l))
unfolding by_kind
of_kind l n k =
    both (eqb k 1) (λ e. rw e (keyed 1 (omega arith) (omega arith) n)) (λ e. rw e
    (both (eqb k 2) (λ e. rw e (keyed 2 (omega arith) (omega arith) n)) (λ e. rw e
    (both (eqb k 3) (λ e. rw e (of_server l 3 (omega arith) (omega arith))) (λ e. rw e
    (both (eqb k 4) (λ e. rw e (of_server l 4 (omega arith) (omega arith))) (λ e. rw e
    (both (eqb k 5) (λ e. rw e (of_server l 5 (omega arith) (omega arith))) (λ e. rw e
    (both (eqb k 6) (λ e. rw e (of_server l 6 (omega arith) (omega arith))) (λ e. rw e
    (both (eqb k 7) (λ e. rw e (of_settings l)) (λ e. rw e refused1)))))))))))))

pub outcome : (l : List ℕ) → Outcome l (event_in l)
unfolding event_in
outcome l =
    both (eqb (length l) 16) (λ n. rw n
    (both (all_zero (take 2 (drop 1 l))) (λ z. rw z (of_kind l (eqb-true (length l) 16 n) (get_or l 0 0))) (λ z. rw z refused1)))
    (λ n. rw n refused1)

-- every number of a list of bytes is below 256, and a list of such numbers is one of bytes
pub bytes_at : (l : List ℕ) → all_bytes l ≡ true → (i : ℕ) → get_or l i 0 < 256
unfolding all_bytes
bytes_at [] b i = omega arith
bytes_at (x ∷ xs) b zero = both (ltb x 256) (λ e. ltb-true x 256 e) (λ e. clash (rw e at b) refl)
bytes_at (x ∷ xs) b (suc i) = both (ltb x 256) (λ e. bytes_at xs (rw e at b) i) (λ e. clash (rw e at b) refl)

pub at_bytes : (l : List ℕ) → ((i : ℕ) → get_or l i 0 < 256) → all_bytes l ≡ true
unfolding all_bytes
at_bytes [] h = refl
at_bytes (x ∷ xs) h = rw (lt-ltb x 256 (h 0)) (at_bytes xs (λ i. h (suc i)))

server_fits : (l : List ℕ) → all_bytes l ≡ true → number4_at (drop 3 l) 0 < 2 ^ 32
server_fits l b =
    rw (get_or-drop 3 l 0 0, get_or-drop 3 l 1 0, get_or-drop 3 l 2 0, get_or-drop 3 l 3 0)
    (omega (arith, bytes_at l b 3, bytes_at l b 4, bytes_at l b 5, bytes_at l b 6))

-- a packet and an end are kinds, and so are those that name a server
keyed_kind : (k : ℕ) → 0 < k → k ≤ 2 → Kind k
keyed_kind k low high =
    both (eqb k 1) (λ e. rw (eqb-true k 1 e) packet) (λ e₁.
    let e : k ≡ 2 = omega (arith, eqb-false k 1 e₁) in rw e end)

naming_kind : (k : ℕ) → 3 ≤ k → k ≤ 6 → Kind k
naming_kind k low high =
    both (eqb k 3) (λ e. rw (eqb-true k 3 e) add_working) (λ e₃.
    both (eqb k 4) (λ e. rw (eqb-true k 4 e) remove_working) (λ e₄.
    both (eqb k 5) (λ e. rw (eqb-true k 5 e) add_horizon) (λ e₅.
    let e : k ≡ 6 = omega (arith, eqb-false k 3 e₃, eqb-false k 4 e₄, eqb-false k 5 e₅) in rw e remove_horizon)))

-- what holds of the fields of an event that a record is; only a refused one is of kind 0
pub record Fields (l : List ℕ) (a : Request) : Type 0 where
  pub refusal_small : a.refusal ≤ 2
  pub kind_known : 0 < a.kind → Kind a.kind
  pub key_sized : length a.key ≡ 13
  pub key_asked : 0 < a.kind → a.kind ≤ 2 → a ≡ asks_key a.kind a.key
  pub server_some : 3 ≤ a.kind → a.kind ≤ 6 → 0 < a.server
  pub server_small : all_bytes l ≡ true → a.server < 2 ^ 32
  pub settings_valid : valid a.settings ≡ true

fields : {l : List ℕ} {a : Request} → Outcome l a → Fields l a
unfolding valid
fields (refused n low high) =
    record {
      refusal_small = high;
      kind_known = λ p. absurd (omega arith);
      key_sized = refl;
      key_asked = λ p q. absurd (omega arith);
      server_some = λ p q. omega arith;
      server_small = λ _. omega arith;
      settings_valid = refl;
    }
fields {l} (keyed k low high n) =
    record {
      refusal_small = omega arith;
      kind_known = λ _. keyed_kind k low high;
      key_sized = simp length-drop (omega arith);
      key_asked = λ _ _. refl;
      server_some = λ p q. omega arith;
      server_small = λ _. omega arith;
      settings_valid = refl;
    }
fields {l} (naming k low high some) =
    record {
      refusal_small = omega arith;
      kind_known = λ _. naming_kind k low high;
      key_sized = refl;
      key_asked = λ p q. absurd (omega arith);
      server_some = λ _ _. some;
      server_small = server_fits l;
      settings_valid = refl;
    }
fields (configured s ok) =
    record {
      refusal_small = omega arith;
      kind_known = λ _. configure;
      key_sized = refl;
      key_asked = λ p q. absurd (omega arith);
      server_some = λ p q. omega arith;
      server_small = λ _. omega arith;
      settings_valid = ok;
    }

pub reading : (l : List ℕ) → Fields l (event_in l)
reading l = fields (outcome l)

-- records written by the document read back: a kind number and two zeros before a body of 13
pub framed : (kind : ℕ) (body : List ℕ) → length body ≡ 13 → event_in (kind ∷ 0 ∷ 0 ∷ body) ≡ by_kind kind body
unfolding event_in all_zero
framed kind body n = rw n

pub packet_reads : (key : List ℕ) → length key ≡ 13 → event_in (1 ∷ 0 ∷ 0 ∷ key) ≡ asks_key 1 key
unfolding by_kind
packet_reads key n = framed 1 key n

pub end_reads : (key : List ℕ) → length key ≡ 13 → event_in (2 ∷ 0 ∷ 0 ∷ key) ≡ asks_key 2 key
unfolding by_kind
end_reads key n = framed 2 key n

pub by_server : (kind : ℕ) (body : List ℕ) → 3 ≤ kind → kind ≤ 6 → by_kind kind body ≡ asks_server kind body
unfolding by_kind
by_server kind body low high =
    both (eqb kind 3) (λ e. rw (eqb-true kind 3 e)) (λ e₃.
    (both (eqb kind 4) (λ e. rw (eqb-true kind 4 e)) (λ e₄.
    (both (eqb kind 5) (λ e. rw (eqb-true kind 5 e)) (λ e₅.
    let e : kind ≡ 6 = omega (arith, eqb-false kind 3 e₃, eqb-false kind 4 e₄, eqb-false kind 5 e₅) in rw e)))))

pub server_reads : (kind s : ℕ) → 3 ≤ kind → kind ≤ 6 → 0 < s → s < 2 ^ 32
    → event_in (kind ∷ 0 ∷ 0 ∷ (bytes4 s ++ replicate 9 0)) ≡ names kind s
unfolding asks_server all_zero
server_reads kind s low high some fits =
    let body = bytes4 s ++ replicate 9 0 in
    framed kind body refl ∙ by_server kind body low high ∙ rw (number4-bytes4 s fits, ne_eqb s 0 (omega arith))

pub settings_reads : (s : Settings) → valid s ≡ true
    → event_in (7 ∷ 0 ∷ 0 ∷ s.method ∷ s.rows / 2 ^ 8 ∷ s.rows % 2 ^ 8 ∷ replicate 10 0) ≡ configures s
unfolding by_kind asks_settings well_formed all_zero
settings_reads s ok =
    let whole : s.rows / 2 ^ 8 * 2 ^ 8 + s.rows % 2 ^ 8 ≡ s.rows = div-add-mod' s.rows 256 in
    framed 7 (s.method ∷ s.rows / 2 ^ 8 ∷ s.rows % 2 ^ 8 ∷ replicate 10 0) refl ∙ rw (whole, ok)
