-- Engines that demand 2 turns away, each class as a theorem: no engine of the class obeys, whatever its table's size n, or where the class
-- shows only with room for a record, for n from 20 on.
use Prim.Native.Nat.{ℕ, ◌≤◌}
use mathlib.Core.Bool.{true, false}
use mathlib.Core.List.{List, [], ◌∷◌}
use mathlib.Core.Logic.{◌≢◌, ◌⊎◌, inr}
use mathlib.Core.Path.{◌≡◌, refl, ap, ◌∙◌}
use native.Mathlib.Omega.{arith}
use lib.ListN.{length, length-append}
use Rattle.sets.specs.Sets.{in_state}
use Rattle.sets.proofs.Cases.{clash}
use Rattle.spans.specs.Spans.{all_zero}
use Rattle.roster.specs.declared.Roster.{Roster}
use Rattle.roster.specs.Roster.{working_set, empty_roster, state_in, added_horizon}
use Rattle.event.specs.Event.{all_bytes, event_in, by_kind, asks_server, asks_key}
use Rattle.event.proofs.Reading.{packet_reads, end_reads}
use Rattle.table.specs.Table.{Finding, find, used}
use Rattle.ringplan.specs.Plan.{some}
use Rattle.rules.specs.Answer.{Answer, accepts}
use Rattle.rules.specs.Rules.{State, Change, barred, effect, judged}
use Rattle.rules.proofs.Ends.{Ends, first, next, nothing, ends}
use Rattle.claims_histories.specs.Histories.{AllBytes}
use Rattle.claims_demands.specs.Demands.{Engine, otherwise, Demand2}
use Rattle.claims_demands.proofs.Same.{unserved_seen, end_seen}
use Rattle.claims_demands.proofs.Witness.{stand, key_p, packet_p, end_p, waiting, joined, clear_find, joined_bytes, waiting_seen, joined_seen, joined-packet, waiting-packet, waiting-written, written-find}

-- the first of a working set; it is in rising order, so this is the lowest
abbrev pub lowest : List ℕ → ℕ
lowest [] = 0
lowest (s ∷ l) = s

-- the first event: server 1 is taken into the horizon
first_told : (t : List ℕ) → (otherwise (event_in (stand 1)) t empty_roster).answer ≡ accepts 0 0 0
unfolding judged barred effect state_in event_in by_kind asks_server all_zero
first_told t = refl

first_held : (t : List ℕ) → (otherwise (event_in (stand 1)) t empty_roster).state.roster.held ≡ 1
unfolding judged barred effect added_horizon state_in event_in by_kind asks_server all_zero
first_held t = refl

-- an end tells what was read, whatever it comes to
end_reads_found : {found : Finding} {st : State} {c : Change} → Ends found st c → c.answer.reads ≡ found.reads
end_reads_found (first f t) = refl
end_reads_found (next f t) = refl
end_reads_found (nothing f) = refl

module _ (n : ℕ) (E : Engine) (d : Demand2 n E) where
  -- one that refuses everything
  pub not_refusing : ((h : List (List ℕ)) (bytes : List ℕ) → AllBytes (bytes ∷ h) → (E.says h bytes).accepted ≡ false) → ⊥
  unfolding all_bytes event_in by_kind asks_server all_zero
  not_refusing all =
      let e : E.says [] (stand 1) ≡ accepts 0 0 0 =
      (unserved_seen n E d [] (stand 1) (refl, tt) refl).answer ∙ rw d.starts_empty (first_told (E.table [])) in
      clash (ap (λ (a : Answer). a.accepted) e) (all [] (stand 1) (refl, tt))

  -- one that names the lowest working server to each packet without a record
  pub not_lowest : ((h : List (List ℕ)) (bytes key : List ℕ) → AllBytes (bytes ∷ h) → event_in bytes ≡ asks_key 1 key
      → some (working_set (E.roster h)) ≡ true → (find key (E.table h)).found ≡ false
      → (E.says h bytes).server ≡ lowest (working_set (E.roster h))) → ⊥
  unfolding all_bytes in_state
  not_lowest all =
      let (t, r) = joined_seen n E d in
      let f : (find key_p (E.table joined)).found ≡ false = rw t (ap (λ (x : Finding). x.found) (clear_find n key_p)) in
      let one : lowest (working_set (E.roster joined)) ≡ 1 = rw r in
      let two : (E.says joined packet_p).server ≡ 2 = ap (λ (a : Answer). a.server) (joined-packet n E d) in
      let q = all joined packet_p key_p (refl, joined_bytes) (packet_reads key_p refl) (rw r) f in
      omega arith

  -- one that routes but writes no record: any whose used part stays empty, whatever else it scribbles
  pub not_forgetful : 20 ≤ n → ((h : List (List ℕ)) → AllBytes h → used (E.table h) ≡ 0) → ⊥
  unfolding all_bytes
  not_forgetful room all =
      let w = waiting-written n E d room in
      let gained = ap (length {A = List ℕ}) w.gains in
      let none = all (packet_p ∷ waiting) (refl, joined_bytes.1) in
      omega (arith, simp length-append at gained)

  -- one that updates no roster: any whose roster no add ever changes
  pub not_idle : ((h : List (List ℕ)) (bytes : List ℕ) → AllBytes (bytes ∷ h) → ((event_in bytes).kind ≡ 3) ⊎ ((event_in bytes).kind ≡ 5)
      → E.roster (bytes ∷ h) ≡ E.roster h) → ⊥
  unfolding all_bytes event_in by_kind asks_server all_zero
  not_idle all =
      let e = (unserved_seen n E d [] (stand 1) (refl, tt) refl).roster in
      let one : (E.roster (stand 1 ∷ [])).held ≡ 1 = ap (λ (r : Roster). r.held) e ∙ rw d.starts_empty (first_held (E.table [])) in
      let same : (E.roster (stand 1 ∷ [])).held ≡ 0 =
      ap (λ (r : Roster). r.held) (all [] (stand 1) (refl, tt) (inr refl) ∙ d.starts_empty) in
      omega arith

  -- one that invents its read count, at a packet or at an end: what is told is the number of used records read
  pub not_inventing : (h : List (List ℕ)) (bytes key : List ℕ) → AllBytes (bytes ∷ h) → event_in bytes ≡ asks_key 1 key
      → some (working_set (E.roster h)) ≡ true → (E.says h bytes).reads ≢ (find key (E.table h)).reads → ⊥
  not_inventing h bytes key b e works other = other (ap (λ (a : Answer). a.reads) (d.packets h bytes key b e works).gets)

  pub end_counts : (h : List (List ℕ)) (bytes key : List ℕ) → AllBytes (bytes ∷ h) → event_in bytes ≡ asks_key 2 key
      → (E.says h bytes).reads ≡ (find key (E.table h)).reads
  end_counts h bytes key b e =
      ap (λ (a : Answer). a.reads) (end_seen n E d h bytes b key e).answer ∙ end_reads_found (ends (find key (E.table h)) _)

  pub not_inventing_ends : (h : List (List ℕ)) (bytes key : List ℕ) → AllBytes (bytes ∷ h) → event_in bytes ≡ asks_key 2 key
      → (E.says h bytes).reads ≢ (find key (E.table h)).reads → ⊥
  not_inventing_ends h bytes key b e other = other (end_counts h bytes key b e)

  -- one that tells the same number at every packet, or at every end
  pub not_fixed : 20 ≤ n → (c : ℕ) → ((h : List (List ℕ)) (bytes key : List ℕ) → AllBytes (bytes ∷ h) → event_in bytes ≡ asks_key 1 key
      → some (working_set (E.roster h)) ≡ true → (E.says h bytes).reads ≡ c) → ⊥
  unfolding all_bytes in_state
  not_fixed room c all =
      let b = joined_bytes.1 in
      let e = packet_reads key_p refl in
      let r = (waiting_seen n E d).1 in
      let works : some (working_set (E.roster waiting)) ≡ true = rw r in
      let p = d.packets waiting packet_p key_p (refl, b) e works in
      let r' : some (working_set (E.roster (packet_p ∷ waiting))) ≡ true = rw p.keeps works in
      let q = d.packets (packet_p ∷ waiting) packet_p key_p (refl, (refl, b)) e r' in
      let none : (E.says waiting packet_p).reads ≡ 0 = ap (λ (a : Answer). a.reads) (waiting-packet n E d room) in
      let one : (E.says (packet_p ∷ waiting) packet_p).reads ≡ 1 =
      ap (λ (a : Answer). a.reads) q.gets ∙ ap (λ (f : Finding). f.reads) (written-find n E d room) in
      omega (arith, all waiting packet_p key_p (refl, b) e works, all (packet_p ∷ waiting) packet_p key_p (refl, (refl, b)) e r')

  pub not_fixed_ends : 20 ≤ n → (c : ℕ) → ((h : List (List ℕ)) (bytes key : List ℕ) → AllBytes (bytes ∷ h) → event_in bytes ≡ asks_key 2 key
      → (E.says h bytes).reads ≡ c) → ⊥
  unfolding all_bytes
  not_fixed_ends room c all =
      let b = joined_bytes.1 in
      let e = end_reads key_p refl in
      let none : (find key_p (E.table waiting)).reads ≡ 0 = rw ((waiting_seen n E d).0, clear_find n key_p) in
      let one : (find key_p (E.table (packet_p ∷ waiting))).reads ≡ 1 = rw (written-find n E d room) in
      omega (
        arith,
        all waiting end_p key_p (refl, b) e,
        end_counts waiting end_p key_p (refl, b) e,
        all (packet_p ∷ waiting) end_p key_p (refl, (refl, b)) e,
        end_counts (packet_p ∷ waiting) end_p key_p (refl, (refl, b)) e,
      )
