-- Short histories, written out in bytes, and what every engine that obeys demand 2 shows after them: the witnesses against impostors.
use Prim.Native.Nat.{ℕ, ◌≤◌, ◌/◌}
use mathlib.Core.Bool.{Bool, true, false, not, ◌&&◌}
use mathlib.Core.List.{List, [], ◌∷◌}
use mathlib.Core.Path.{◌≡◌, refl, sym, ap, ◌∙◌}
use native.Mathlib.Omega.{arith}
use lib.Dec.{ltb}
use lib.ListN.{replicate, length-replicate}
use borrow.Author.Tests.{lt-ltb}
use Rattle.sets.specs.Sets.{in_state}
use Rattle.sets.proofs.Cases.{both, clash}
use Rattle.spans.specs.Spans.{all_zero, same}
use Rattle.hash.specs.Hash.{F, stir_all, stir, weight}
use Rattle.settings.specs.Settings.{fresh}
use Rattle.roster.specs.declared.Roster.{Roster}
use Rattle.lists.specs.Lists.{before, put_in}
use Rattle.roster.specs.Roster.{empty_roster, state_in, restated, added_horizon}
use Rattle.event.specs.Event.{all_bytes, event_in, by_kind, asks_server}
use Rattle.event.proofs.Reading.{packet_reads}
use Rattle.table.specs.Table.{Finding, find, find_among, used_part, room, new_record}
use Rattle.table.proofs.Records.{used-started}
use Rattle.rules.specs.Answer.{accepts}
use Rattle.rules.specs.Rules.{State, is, barred, effect, judged, packet}
use Rattle.claims_histories.specs.Histories.{AllBytes}
use Rattle.claims_demands.specs.Demands.{Engine, mover, Written, otherwise, Demand2}
use Rattle.claims_demands.proofs.Same.{ruled, packet_seen, unserved_seen}

-- event records: add horizon, add working, packet and end
abbrev pub stand : ℕ → List ℕ
stand s = 5 ∷ 0 ∷ 0 ∷ 0 ∷ 0 ∷ 0 ∷ s ∷ replicate 9 0

abbrev pub enter : ℕ → List ℕ
enter s = 3 ∷ 0 ∷ 0 ∷ 0 ∷ 0 ∷ 0 ∷ s ∷ replicate 9 0

-- the key P, thirteen bytes of 1: under method 1 server 2 outranks server 1
abbrev pub key_p : List ℕ
key_p = replicate 13 1

abbrev pub packet_p : List ℕ
packet_p = 1 ∷ 0 ∷ 0 ∷ key_p

abbrev pub end_p : List ℕ
end_p = 2 ∷ 0 ∷ 0 ∷ key_p

-- server 1 works and 2 waits; then both work
abbrev pub waiting : List (List ℕ)
waiting = stand 2 ∷ enter 1 ∷ stand 1 ∷ []

abbrev pub joined : List (List ℕ)
joined = enter 2 ∷ waiting

abbrev pub holding : List ℕ → List ℕ → ℕ → Roster
holding servers states n = record { servers = servers; states = states; held = n; settings = fresh }

abbrev pub one_waits : Roster
one_waits = holding (1 ∷ 2 ∷ replicate 62 0) (1 ∷ 2 ∷ replicate 62 0) 2

abbrev pub both_work : Roster
both_work = holding (1 ∷ 2 ∷ replicate 62 0) (1 ∷ 1 ∷ replicate 62 0) 2

-- a cleared table has no records
pub clear_used : (n : ℕ) → used_part (replicate n 0) ≡ []
clear_used n = ap (λ (m : ℕ). used_part (replicate m 0)) (sym (length-replicate n 0)) ∙ used-started (replicate n 0)

pub clear_find : (n : ℕ) (key : List ℕ) → find key (replicate n 0) ≡ record { found = false; reads = 0 }
unfolding find find_among
clear_find n key = rw (clear_used n)

-- a history without packets leads every obeying engine to the same table and roster
abbrev pub plain : ℕ → List (List ℕ) → State
plain n [] = record { table = replicate n 0; rows = []; flags = []; roster = empty_roster }
plain n (bytes ∷ h) = (otherwise (event_in bytes) (plain n h).table (plain n h).roster).state

abbrev pub no_packet : List (List ℕ) → Bool
no_packet [] = true
no_packet (bytes ∷ h) = not (is 1 (event_in bytes)) && no_packet h

-- the two histories have no packet, and bytes only; what they lead to is computed
no_packet-joined : (no_packet waiting ≡ true) × (no_packet joined ≡ true)
unfolding event_in by_kind asks_server all_zero
no_packet-joined = (refl, refl)

pub joined_bytes : AllBytes joined
unfolding all_bytes
joined_bytes = (refl, (refl, (refl, (refl, tt))))

waiting_plainly : (n : ℕ) → ((plain n waiting).table ≡ replicate n 0) × ((plain n waiting).roster ≡ one_waits)
unfolding judged barred effect added_horizon put_in before state_in restated event_in by_kind asks_server all_zero
waiting_plainly n = (refl, refl)

joined_plainly : (n : ℕ) → ((plain n joined).table ≡ replicate n 0) × ((plain n joined).roster ≡ both_work)
unfolding judged barred effect added_horizon put_in before state_in restated event_in by_kind asks_server all_zero
joined_plainly n = (refl, refl)

-- what the rules make of a packet of P
safe_ruled : (n : ℕ) → (ruled key_p (replicate n 0) both_work).answer ≡ accepts 2 2 0
unfolding packet in_state weight F stir_all stir
safe_ruled n = rw (clear_find n key_p)

written-ruled : (n : ℕ) → 20 ≤ n → (ruled key_p (replicate n 0) one_waits).answer ≡ accepts 1 3 0
unfolding packet in_state weight F stir_all stir
written-ruled n h =
    let l : ltb 0 (room (replicate n 0)) ≡ true = rw (length-replicate {A = ℕ} n 0) (lt-ltb 0 (n / 20) (omega arith)) in
    rw (clear_find n key_p, l)

module _ (n : ℕ) (E : Engine) (d : Demand2 n E) where
  pub plain_seen : (h : List (List ℕ)) → AllBytes h → no_packet h ≡ true → (E.table h ≡ (plain n h).table) × (E.roster h ≡ (plain n h).roster)
  plain_seen [] b p = (d.starts_clear, d.starts_empty)
  plain_seen (bytes ∷ h) b p =
      both (is 1 (event_in bytes)) (λ k. clash (rw k at p) refl) (λ k.
      let (t, r) = plain_seen h b.1 (rw k at p) in
      let o = unserved_seen n E d h bytes b (rw k) in
      (o.table ∙ rw (t, r), o.roster ∙ rw (t, r)))

  pub waiting_seen : (E.table waiting ≡ replicate n 0) × (E.roster waiting ≡ one_waits)
  waiting_seen =
      let (t, r) = plain_seen waiting joined_bytes.1 no_packet-joined.0 in
      (t ∙ (waiting_plainly n).0, r ∙ (waiting_plainly n).1)

  pub joined_seen : (E.table joined ≡ replicate n 0) × (E.roster joined ≡ both_work)
  joined_seen =
      let (t, r) = plain_seen joined joined_bytes no_packet-joined.1 in
      (t ∙ (joined_plainly n).0, r ∙ (joined_plainly n).1)

  -- P is led to 2 where both work,
  pub joined-packet : E.says joined packet_p ≡ accepts 2 2 0
  unfolding in_state all_bytes
  joined-packet =
      let (t, r) = joined_seen in
      (packet_seen n E d joined packet_p (refl, joined_bytes) key_p (packet_reads key_p refl) (rw r)).answer ∙ rw (t, r) (safe_ruled n)

  -- and to 1 while 2 waits, who outranks it: a record is written where the table has room for one
  module _ (h : 20 ≤ n) where
    pub waiting-packet : E.says waiting packet_p ≡ accepts 1 3 0
    unfolding in_state all_bytes
    waiting-packet =
        let (t, r) = waiting_seen in
        (packet_seen n E d waiting packet_p (refl, joined_bytes.1) key_p (packet_reads key_p refl) (rw r)).answer ∙ rw (t, r) (written-ruled n h)

    pub waiting-written : Written key_p (mover key_p (E.table waiting) (E.roster waiting)) (E.table waiting) (E.table (packet_p ∷ waiting))
    unfolding in_state all_bytes
    waiting-written =
        let (t, r) = waiting_seen in
        let found : (find key_p (E.table waiting)).found ≡ false = rw t (ap (λ (f : Finding). f.found) (clear_find n key_p)) in
        ((d.packets waiting packet_p key_p (refl, joined_bytes.1) (packet_reads key_p refl) (rw r)).written found).0 (rw waiting-packet)

    -- so after it there is one record, the first that a reader of P meets
    pub written_part : used_part (E.table (packet_p ∷ waiting)) ≡ new_record key_p 1 ∷ []
    unfolding in_state weight F stir_all stir
    written_part =
        let (t, r) = waiting_seen in
        let first : mover key_p (E.table waiting) (E.roster waiting) ≡ 1 = rw (t, r, clear_find n key_p) in
        waiting-written.gains ∙ rw (first, t, clear_used n)

    pub written-find : find key_p (E.table (packet_p ∷ waiting)) ≡ record { found = true; reads = 1 }
    unfolding find find_among same
    written-find = rw written_part
