-- What every outcome comes to: its number is at most 5, its key has 13 bytes and is the packet's own where it is emitted. The sums add up.
use Prim.Native.Nat.{ℕ, zero, suc, ◌+◌, ◌≤◌, ◌<◌}
use mathlib.Core.Bool.{Bool, true, false, cond}
use mathlib.Core.List.{List, [], ◌∷◌, map}
use mathlib.Core.Path.{◌≡◌, refl}
use native.Mathlib.Omega.{arith}
use lib.Dec.{eqb, leb, ltb}
use lib.ListN.{length, length-append, length-drop, length-take}
use borrow.Author.Tests.{ltb-true, ltb-false, leb-true, eqb-true}
use Rattle.sets.proofs.Cases.{both, clash}
use Rattle.frames.specs.Frames.{Outcome, outcome, of_ethernet, of_ipv4, asked, carried, skipped, emitted, cut_short, key_in, ports_at, header_words, version, ether_type, is_tcp, is_udp, has_fin, fragment_offset}
use Rattle.pcap.specs.Captures.{counted, packets_in, ethernet}
use Rattle.claims_captures.specs.Reasons.{KeyRight, EmittedKey}
use Rattle.claims_captures.specs.Captured.{AddsUp}

-- ---- what holds of every outcome

-- of a packet's outcome by a question: the question's bytes aren't all there and it is cut short; or they are, and it is skipped where the
-- answer is no, and the next question follows where it is yes
pub asked_holds : (P : Outcome → Type 0) (b : List ℕ) (n : ℕ) (holds : Bool) (why : ℕ) (next : Outcome) → (length b < n → P (skipped cut_short))
    → (n ≤ length b → holds ≡ false → P (skipped why)) → (n ≤ length b → holds ≡ true → P next) → P (asked b n holds why next)
asked_holds P b n holds why next cut skip go =
    both (ltb (length b) n) (λ few. rw few (cut (ltb-true (length b) n few))) (λ few. rw few
    (both holds (λ h. rw h (go (ltb-false (length b) n few) h)) (λ h. rw h (skip (ltb-false (length b) n few) h))))

-- version 4 and a header length of 5 or more
pub version_words : (b : List ℕ) → cond (eqb (version b) 4) (leb 5 (header_words b)) false ≡ true → (version b ≡ 4) × (5 ≤ header_words b)
version_words b h =
    both (eqb (version b) 4) (λ v. (eqb-true (version b) 4 v, leb-true 5 (header_words b) (rw v at h))) (λ v. clash (rw v at h) refl)

-- the outcome of any packet: skipped for a reason from 1 to 5, or emitted with the key of a packet whose addresses and ports are there, and
-- with FIN where it is TCP that has it
module _ (P : Outcome → Type 0) (b : List ℕ) (skip : (why : ℕ) → 0 < why → why ≤ 5 → P (skipped why))
    (go : 34 ≤ length b → ports_at b + 4 ≤ length b → P (record { reason = emitted; fin = cond (is_tcp b) (has_fin b) false; key = key_in b })) where
  cut : {A : Type 0} → A → P (skipped cut_short)
  cut _ = skip 5 (omega arith) (omega arith)

  carried_holds : (n : ℕ) (end : Bool) → end ≡ cond (is_tcp b) (has_fin b) false → 4 ≤ n → 5 ≤ header_words b → P (carried b n end)
  carried_holds n end same four five =
      asked_holds P b (ports_at b + n) true cut_short _ cut (λ few _. cut few) (λ h _. rw same (go (omega arith) (omega arith)))

  ipv4_holds : 5 ≤ header_words b → P (of_ipv4 b)
  unfolding of_ipv4
  ipv4_holds five =
      asked_holds P b 22 (eqb (fragment_offset b) 0) 3 _ cut (λ _ _. skip 3 (omega arith) (omega arith)) (λ _ _.
      asked_holds P b 24 (cond (is_tcp b) true (is_udp b)) 4 _ cut (λ _ _. skip 4 (omega arith) (omega arith)) (λ _ _.
      both (is_tcp b) (λ t. rw t (carried_holds 14 (has_fin b) (rw t) (omega arith) five)) (λ t. rw t (carried_holds 4 false (rw t) (omega arith) five))))

  pub outcome_holds : (e : Bool) → P (outcome e b)
  unfolding outcome of_ethernet
  outcome_holds true =
      asked_holds P b 14 (eqb (ether_type b) 2048) 2 _ cut (λ _ _. skip 2 (omega arith) (omega arith)) (λ _ _.
      asked_holds P b 15 (cond (eqb (version b) 4) (leb 5 (header_words b)) false) 2 _ cut (λ _ _. skip 2 (omega arith) (omega arith)) (λ _ h.
      ipv4_holds (version_words b h).1))
  outcome_holds false = skip 1 (omega arith) (omega arith)

-- ---- the number

pub reason_small : (e : Bool) (b : List ℕ) → (outcome e b).reason ≤ 5
reason_small e b = outcome_holds (λ o. o.reason ≤ 5) b (λ why _ h. h) (λ _ _. omega arith) e

-- ---- the key has 13 bytes

key_length : (b : List ℕ) → 34 ≤ length b → ports_at b + 4 ≤ length b → length (key_in b) ≡ 13
key_length b long room =
    simp (length-append, length-take, length-drop) (omega arith)

pub key_sized : (e : Bool) (b : List ℕ) → length (outcome e b).key ≡ 13
key_sized e b = outcome_holds (λ o. length o.key ≡ 13) b (λ _ _ _. refl) (λ long room. key_length b long room) e

-- ---- the sums

-- one packet more is one more in exactly one of the six sums
one_more_turn : (r a₀ a₁ a₂ a₃ a₄ a₅ n : ℕ) → r ≤ 5 → a₀ + (a₁ + (a₂ + (a₃ + (a₄ + a₅)))) ≡ n
    → cond (eqb r 0) (suc a₀) a₀
    + (cond (eqb r 1) (suc a₁) a₁ + (cond (eqb r 2) (suc a₂) a₂ + (cond (eqb r 3) (suc a₃) a₃ + (cond (eqb r 4) (suc a₄) a₄ + cond (eqb r 5) (suc a₅) a₅))))
    ≡ suc n
one_more_turn zero a₀ a₁ a₂ a₃ a₄ a₅ n h e = omega arith
one_more_turn (suc zero) a₀ a₁ a₂ a₃ a₄ a₅ n h e = omega arith
one_more_turn (suc (suc zero)) a₀ a₁ a₂ a₃ a₄ a₅ n h e = omega arith
one_more_turn (suc (suc (suc zero))) a₀ a₁ a₂ a₃ a₄ a₅ n h e = omega arith
one_more_turn (suc (suc (suc (suc zero)))) a₀ a₁ a₂ a₃ a₄ a₅ n h e = omega arith
one_more_turn (suc (suc (suc (suc (suc zero))))) a₀ a₁ a₂ a₃ a₄ a₅ n h e = omega arith
one_more_turn (suc (suc (suc (suc (suc (suc r)))))) a₀ a₁ a₂ a₃ a₄ a₅ n h e = absurd (omega arith)

sums_add : (e : Bool) (ps : List (List ℕ)) → (let os = map (outcome e) ps in
    counted 0 os + (counted 1 os + (counted 2 os + (counted 3 os + (counted 4 os + counted 5 os)))) ≡ length ps)
unfolding counted
sums_add e [] = refl
sums_add e (p ∷ ps) = one_more_turn (outcome e p).reason _ _ _ _ _ _ _ (reason_small e p) (sums_add e ps)

pub adds_up : (f : List ℕ) → AddsUp f
adds_up f = record { adds = sums_add (ethernet f) (packets_in f) }

-- ---- the key and FIN, of the packet itself

pub emitted_key : EmittedKey
emitted_key e b =
    outcome_holds (KeyRight b) b (λ why some few. record {
      emitted_key = λ r. absurd (omega arith);
      emitted_fin = λ r. absurd (omega arith);
      skipped_key = λ _. refl;
      skipped_fin = λ _. refl;
    }) (λ _ _. record {
      emitted_key = λ _. refl;
      emitted_fin = λ _. refl;
      skipped_key = λ r. absurd (omega arith);
      skipped_fin = λ r. absurd (omega arith);
    }) e
