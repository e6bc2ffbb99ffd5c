-- A packet's outcome is the first reason that applies, and emitted where none does. So it is counted under exactly one.
use Prim.Native.Nat.{ℕ, ◌+◌, ◌≤◌, ◌<◌}
use mathlib.Core.Bool.{Bool, true, false, cond}
use mathlib.Core.List.{List}
use mathlib.Core.Logic.{inr}
use mathlib.Core.Path.{◌≡◌, refl, sym}
use native.Mathlib.Omega.{arith}
use lib.Dec.{eqb, leb, ltb}
use lib.ListN.{length}
use borrow.Author.Tests.{eqb-true, eqb-false, ltb-true, ltb-false, leb-false}
use Rattle.sets.proofs.Cases.{both, clash}
use Rattle.frames.specs.Frames.{outcome, of_ethernet, of_ipv4, carried, cut_short, ether_type, version, header_words, fragment_offset, protocol, ports_at, is_tcp, is_udp, has_fin}
use Rattle.claims_captures.specs.Reasons.{NotIPv4, another_ether_type, another_version, short_header, Fragment, OtherProtocol, CutShort, no_ether_type, no_version, no_fragment_field, no_protocol, no_ports, no_flags, Applies, by_link_type, by_not_ipv4, by_fragment, by_protocol, by_cut_short, FirstThat, NoneApplies, FirstApplies}
use Rattle.claims_captures.specs.Captured.{OneReason}
use Rattle.claims_captures.proofs.Reasons.{asked_holds, version_words, reason_small}

-- ---- which reasons don't apply

-- every reason's number is above 0
above_zero : {e : Bool} {b : List ℕ} {why : ℕ} → Applies e b why → 0 < why
above_zero (by_link_type h) = omega arith
above_zero (by_not_ipv4 h) = omega arith
above_zero (by_fragment h) = omega arith
above_zero (by_protocol h) = omega arith
above_zero (by_cut_short h) = omega arith

module _ (b : List ℕ) where
  -- of an Ethernet packet: no reason under a number applies, where none of these four does that is under it
  none_under : (n : ℕ) → (2 < n → NotIPv4 b → ⊥) → (3 < n → Fragment b → ⊥) → (4 < n → OtherProtocol b → ⊥) → (5 < n → CutShort b → ⊥)
      → (why : ℕ) → why < n → Applies true b why → ⊥
  none_under n two three four five why less (by_link_type e) = clash refl e
  none_under n two three four five why less (by_not_ipv4 h) = two less h
  none_under n two three four five why less (by_fragment h) = three less h
  none_under n two three four five why less (by_protocol h) = four less h
  none_under n two three four five why less (by_cut_short h) = five less h

  -- a reason that its bytes don't decide doesn't apply
  undecided_ipv4 : length b < 14 → NotIPv4 b → ⊥
  undecided_ipv4 few (another_ether_type there _) = absurd (omega arith)
  undecided_ipv4 few (another_version there _) = absurd (omega arith)
  undecided_ipv4 few (short_header there _) = absurd (omega arith)

  undecided_version : length b < 15 → ether_type b ≡ 2048 → NotIPv4 b → ⊥
  undecided_version few ether (another_ether_type there other) = other ether
  undecided_version few ether (another_version there _) = absurd (omega arith)
  undecided_version few ether (short_header there _) = absurd (omega arith)

  undecided_fragment : length b < 22 → Fragment b → ⊥
  undecided_fragment few h = let there = h.there in absurd (omega arith)

  undecided_protocol : length b < 24 → OtherProtocol b → ⊥
  undecided_protocol few h = let there = h.there in absurd (omega arith)

  -- nor does one that they decide otherwise
  is_ipv4 : ether_type b ≡ 2048 → version b ≡ 4 → 5 ≤ header_words b → NotIPv4 b → ⊥
  is_ipv4 ether four five (another_ether_type _ other) = other ether
  is_ipv4 ether four five (another_version _ other) = other four
  is_ipv4 ether four five (short_header _ few) = absurd (omega arith)

  all_there : 24 ≤ length b → ports_at b + 4 ≤ length b → (protocol b ≡ 6 → ports_at b + 14 ≤ length b) → CutShort b → ⊥
  all_there many ports flags (no_ether_type few) = absurd (omega arith)
  all_there many ports flags (no_version few) = absurd (omega arith)
  all_there many ports flags (no_fragment_field few) = absurd (omega arith)
  all_there many ports flags (no_protocol few) = absurd (omega arith)
  all_there many ports flags (no_ports _ few) = absurd (omega arith)
  all_there many ports flags (no_flags tcp few) = let all = flags tcp in absurd (omega arith)

-- ---- the outcome, question by question

-- what an outcome's number says: that none applies, or that this is the first that does
data Found (e : Bool) (b : List ℕ) : ℕ → Type 0 where
  none : NoneApplies e b → Found e b 0
  first : (why : ℕ) → FirstThat why e b → Found e b why

module _ (b : List ℕ) where
  -- the first, where the four reasons under its number don't apply
  found_first : (why : ℕ) → Applies true b why → (2 < why → NotIPv4 b → ⊥) → (3 < why → Fragment b → ⊥) → (4 < why → OtherProtocol b → ⊥)
      → (5 < why → CutShort b → ⊥) → Found true b why
  found_first why here two three four five = first why (record { applies = here; none_earlier = none_under b why two three four five })

  found_cut : (NotIPv4 b → ⊥) → (Fragment b → ⊥) → (OtherProtocol b → ⊥) → CutShort b → Found true b 5
  found_cut two three four h = found_first 5 (by_cut_short h) (λ _. two) (λ _. three) (λ _. four) (λ less _. absurd (omega arith))

  found_none : (NotIPv4 b → ⊥) → (Fragment b → ⊥) → (OtherProtocol b → ⊥) → (CutShort b → ⊥) → Found true b 0
  found_none two three four five =
      none (λ why here. none_under b (1 + why) (λ _. two) (λ _. three) (λ _. four) (λ _. five) why (omega arith) here)

  -- the questions behind the IPv4 header's first byte
  module _ (two : NotIPv4 b → ⊥) where
    found-carried : (Fragment b → ⊥) → (OtherProtocol b → ⊥) → (n : ℕ) (end : Bool) → (length b < ports_at b + n → CutShort b)
        → (ports_at b + n ≤ length b → CutShort b → ⊥) → Found true b (carried b n end).reason
    found-carried three four n end short all =
        asked_holds (λ o. Found true b o.reason) b (ports_at b + n) true cut_short _ (λ few. found_cut two three four (short few))
        (λ _ never. clash refl never) (λ many _. found_none two three four (all many))

    found-tcp : (Fragment b → ⊥) → 24 ≤ length b → protocol b ≡ 6 → Found true b (carried b 14 (has_fin b)).reason
    found-tcp three many tcp =
        found-carried three (λ h. h.not_tcp tcp) 14 (has_fin b) (λ few. no_flags tcp (omega arith)) (λ all. all_there b many (omega arith) (λ _. all))

    found-udp : (Fragment b → ⊥) → 24 ≤ length b → protocol b ≡ 17 → Found true b (carried b 4 false).reason
    found-udp three many udp =
        found-carried three (λ h. h.not_udp udp) 4 false (λ few. no_ports (inr udp) (omega arith))
        (λ all. all_there b many all (λ tcp. absurd (omega arith)))

    -- neither TCP nor UDP
    found-other : (Fragment b → ⊥) → 24 ≤ length b → cond (is_tcp b) true (is_udp b) ≡ false → Found true b 4
    found-other three many neither =
        both (is_tcp b) (λ t. clash refl (rw t at neither)) (λ t.
        found_first 4
        (by_protocol
        (record { there = many; not_tcp = eqb-false (protocol b) 6 t; not_udp = eqb-false (protocol b) 17 (rw t at neither) }))
        (λ _. two) (λ _. three) (λ less _. absurd (omega arith)) (λ less _. absurd (omega arith)))

    found-protocol : (Fragment b → ⊥) → 24 ≤ length b → cond (is_tcp b) true (is_udp b) ≡ true
        → Found true b (cond (is_tcp b) (carried b 14 (has_fin b)) (carried b 4 false)).reason
    found-protocol three many one =
        both (is_tcp b) (λ t. rw t (found-tcp three many (eqb-true (protocol b) 6 t))) (λ t.
        rw t (found-udp three many (eqb-true (protocol b) 17 (rw t at one))))

    found-ipv4 : Found true b (of_ipv4 b).reason
    unfolding of_ipv4
    found-ipv4 =
        asked_holds (λ o. Found true b o.reason) b 22 (eqb (fragment_offset b) 0) 3 _
        (λ few. found_cut two (undecided_fragment b few) (undecided_protocol b (omega arith)) (no_fragment_field (omega arith)))
        (λ many later.
        found_first 3 (by_fragment (record { there = many; later = eqb-false (fragment_offset b) 0 later }))
        (λ _. two) (λ less _. absurd (omega arith)) (λ less _. absurd (omega arith)) (λ less _. absurd (omega arith))) (λ _ begins.
        let three : Fragment b → ⊥ = λ h. h.later (eqb-true (fragment_offset b) 0 begins) in
        asked_holds (λ o. Found true b o.reason) b 24 (cond (is_tcp b) true (is_udp b)) 4 _
        (λ few. found_cut two three (undecided_protocol b few) (no_protocol (omega arith)))
        (found-other three)
        (found-protocol three))

  -- not IPv4, by one of three numbers
  found_not : NotIPv4 b → Found true b 2
  found_not h =
      found_first 2 (by_not_ipv4 h)
      (λ less _. absurd (omega arith)) (λ less _. absurd (omega arith)) (λ less _. absurd (omega arith)) (λ less _. absurd (omega arith))

  other_header : 15 ≤ length b → cond (eqb (version b) 4) (leb 5 (header_words b)) false ≡ false → NotIPv4 b
  other_header many other =
      both (eqb (version b) 4) (λ v. short_header many (leb-false 5 (header_words b) (rw v at other))) (λ v. another_version many (eqb-false (version b) 4 v))

found : (e : Bool) (b : List ℕ) → Found e b (outcome e b).reason
unfolding outcome of_ethernet
found true b =
    asked_holds (λ o. Found true b o.reason) b 14 (eqb (ether_type b) 2048) 2 _
    (λ few. found_cut b (undecided_ipv4 b few) (undecided_fragment b (omega arith)) (undecided_protocol b (omega arith)) (no_ether_type (omega arith)))
    (λ many other. found_not b (another_ether_type many (eqb-false (ether_type b) 2048 other))) (λ _ ether.
    let ipv4 = eqb-true (ether_type b) 2048 ether in
    asked_holds (λ o. Found true b o.reason) b 15 (cond (eqb (version b) 4) (leb 5 (header_words b)) false) 2 _
    (λ few. found_cut b (undecided_version b few ipv4) (undecided_fragment b (omega arith)) (undecided_protocol b (omega arith)) (no_version (omega arith)))
    (λ many other. found_not b (other_header b many other)) (λ _ ours.
    let right = version_words b ours in found-ipv4 b (is_ipv4 b ipv4 right.0 right.1)))
found false b = first 1 (record { applies = by_link_type refl; none_earlier = λ other less h. absurd (omega (arith, above_zero h)) })

-- ---- the theorem

-- no two reasons are the first
one_first : (e : Bool) (b : List ℕ) (n m : ℕ) → FirstThat n e b → FirstThat m e b → n ≡ m
one_first e b n m p q =
    both (ltb n m) (λ less. absurd (q.none_earlier n (ltb-true n m less) p.applies)) (λ less.
    both (ltb m n) (λ more. absurd (p.none_earlier m (ltb-true m n more) q.applies)) (λ more.
    omega (arith, ltb-false n m less, ltb-false m n more)))

-- the four directions
is-first : (e : Bool) (b : List ℕ) (n why : ℕ) → Found e b n → 0 < why → n ≡ why → FirstThat why e b
is-first e b n why (none never) some same = absurd (omega arith)
is-first e b n why (first m h) some same = rw (sym same) h

first-is : (e : Bool) (b : List ℕ) (n why : ℕ) → Found e b n → FirstThat why e b → n ≡ why
first-is e b n why (none never) h = absurd (never why h.applies)
first-is e b n why (first m p) h = one_first e b m why p h

is_none : (e : Bool) (b : List ℕ) (n : ℕ) → Found e b n → n ≡ 0 → NoneApplies e b
is_none e b n (none never) same = never
is_none e b n (first m h) same = absurd (omega (arith, above_zero h.applies))

none_is : (e : Bool) (b : List ℕ) (n : ℕ) → Found e b n → NoneApplies e b → n ≡ 0
none_is e b n (none never) h = refl
none_is e b n (first m p) h = absurd (h m p.applies)

pub first_that_applies : FirstApplies
first_that_applies e b =
    let n = (outcome e b).reason in
    record {
      skipped_for = λ why some. (is-first e b n why (found e b) some, first-is e b n why (found e b));
      emitted_where = (is_none e b n (found e b), none_is e b n (found e b));
    }

pub one_reason : (e : Bool) (b : List ℕ) → OneReason e b
one_reason e b = record { known = reason_small e b; by_first = first_that_applies e b }
