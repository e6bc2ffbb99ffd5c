-- What the rules come to for a packet that meets a sound roster, by the tests that the code makes.
use Prim.Native.Nat.{ℕ, ◌/◌, ◌≤◌, ◌<◌}
use mathlib.Core.Bool.{true, false, cond}
use mathlib.Core.List.{List, [], ◌∷◌}
use mathlib.Core.Path.{◌≡◌, refl, sym, subst, ◌∙◌}
use lib.Dec.{eqb, leb}
use lib.ListN.{length}
use borrow.Author.Tests.{eq-eqb, ne_eqb, lt-ltb, le-ltb, eqb-true}
use Rattle.hash.specs.Hash.{digest}
use Rattle.sets.specs.Sets.{member, in_state}
use Rattle.sets.proofs.Cases.{both, clash}
use Rattle.sets.proofs.Members.{member_head}
use Rattle.ranking.specs.declared.Pick.{Pick}
use Rattle.ranking.specs.Ranking.{Ranking, Strict, choice, picked}
use Rattle.ranking.specs.Methods.{hrw}
use Rattle.ranking.proofs.Choice.{choice-member}
use Rattle.ranking.proofs.Instances.{hrw_strict}
use Rattle.roster.specs.declared.Roster.{Roster}
use Rattle.roster.specs.Roster.{sound, state_of, state_in, working_set, horizon}
use Rattle.roster.proofs.Form.{sound_parts}
use Rattle.roster.proofs.Sets.{working_state, working_nonzero}
use Rattle.event.specs.Event.{asks_key}
use Rattle.table.specs.Table.{Finding, server_at, written_after}
use Rattle.settings.specs.declared.Settings.{Settings}
use Rattle.settings.specs.Settings.{valid}
use Rattle.rows.specs.Rows.{row_read}
use Rattle.ring.specs.declared.Entry.{Entry}
use Rattle.ring.specs.Ring.{gives}
use Rattle.ringplan.specs.Plan.{some}
use Rattle.ringplan.proofs.Members.{member-some}
use Rattle.rules.specs.declared.Refusal.{Refusal}
use Rattle.rules.specs.declared.Refusal.TheVariants.{LedToIdle, NoneWorking}
use Rattle.rules.specs.Answer.{accepts, number_of}
use Rattle.rules.specs.Rules.{state_with, State, lent_bar, admitted, judged, barred, effect, target, packet, refused, answered, pick_by}
use Rattle.packets.specs.Lent.{Lent}

-- ---- a sound roster: who works is in the working set, and the choice over that set works

module _ (R : Ranking) (S : Strict R) where
  choice-some : (l : List ℕ) → (choice R l ≡ 0 → ⊥) → member (choice R l) l ≡ true
  choice-some [] n = absurd (n refl)
  choice-some (s ∷ l) n = choice-member R S s (s ∷ l) (member_head s l)

  choice-none : (l : List ℕ) → member 0 l ≡ false → choice R l ≡ 0 → some l ≡ false
  choice-none [] m e = refl
  choice-none (s ∷ l) m e = clash (subst (λ (x : ℕ). member x (s ∷ l) ≡ true) e (choice-member R S s (s ∷ l) (member_head s l))) m

-- ---- what a packet comes to
module _ (key t rows flags : List ℕ) (pick : Pick) (r : Roster) (found : Finding) where
  abbrev st : State
  st = state_with t rows flags r

  -- refusals 7 and 8, and none
  packet_7 : some (working_set r) ≡ false → refused 7 st ≡ judged (asks_key 1 key) found pick st
  unfolding judged barred
  packet_7 f = rw f

  packet_8 : some (working_set r) ≡ true → (state_of (target found pick st) r ≡ 1 → ⊥) → refused 8 st ≡ judged (asks_key 1 key) found pick st
  unfolding judged barred
  packet_8 e n = rw (e, ne_eqb (state_of (target found pick st) r) 1 n)

  packet_on : some (working_set r) ≡ true → state_of (target found pick st) r ≡ 1 → packet key found pick st ≡ judged (asks_key 1 key) found pick st
  unfolding judged barred effect
  packet_on e w = rw (e, eq-eqb (state_of (target found pick st) r) 1 w)

  -- a roster that isn't sound
  pub packet_11 : sound r ≡ false → refused 11 st ≡ judged (admitted (lent_bar true (sound r)) (asks_key 1 key)) found pick st
  unfolding admitted lent_bar judged
  packet_11 f = rw f

  pub packet-admitted : sound r ≡ true
      → judged (asks_key 1 key) found pick st ≡ judged (admitted (lent_bar true (sound r)) (asks_key 1 key)) found pick st
  unfolding admitted lent_bar
  packet-admitted e = rw e

  module _ (ss xs : List ℕ) (l : Lent r ss xs) where
    -- the server that the packet is led to doesn't work
    pub led_nowhere : (e : Refusal) → e ≡ cond (some (in_state 1 ss xs)) LedToIdle NoneWorking → (state_in (target found pick st) ss xs ≡ 1 → ⊥)
        → refused (number_of e) st ≡ judged (asks_key 1 key) found pick st
    led_nowhere v e n =
        let same : some (in_state 1 ss xs) ≡ some (working_set r) = rw (l.servers, l.states) in
        let idle : state_of (target found pick st) r ≡ 1 → ⊥ = λ w. n (rw (l.servers, l.states) at w) in
        both
        (some (working_set r))
        (λ y. rw (e, same, y) (packet_8 y idle))
        (λ y. rw (e, same, y) (packet_7 y))

    -- it works
    pub led_on : state_in (target found pick st) ss xs ≡ 1 → packet key found pick st ≡ judged (asks_key 1 key) found pick st
    led_on w =
        let works : state_of (target found pick st) r ≡ 1 = rw (l.servers, l.states) w in
        packet_on (member-some (target found pick st) (working_set r) (working_state r l.sound (target found pick st) ∙ eq-eqb (state_of (target found pick st) r) 1 works)) works

-- the server that HRW chooses needs no test: it is one of those that work, and 0 where none does
module _ (key t rows flags : List ℕ) (d : ℕ) (r : Roster) (so : sound r ≡ true) (n : ℕ) where
  abbrev best : Pick
  best = picked (hrw d) (working_set r) (horizon r)

  pub chosen_none : best.server ≡ 0
      → refused 7 (state_with t rows flags r) ≡ judged (asks_key 1 key) (record { found = false; reads = n }) best (state_with t rows flags r)
  chosen_none e =
      packet_7 key t rows flags best r (record { found = false; reads = n })
      (choice-none (hrw d) (hrw_strict d) (working_set r) (working_nonzero r so) e)

  pub chosen_on : (best.server ≡ 0 → ⊥)
      → packet key (record { found = false; reads = n }) best (state_with t rows flags r)
      ≡ judged (asks_key 1 key) (record { found = false; reads = n }) best (state_with t rows flags r)
  chosen_on z =
      let m : member best.server (working_set r) ≡ true = choice-some (hrw d) (hrw_strict d) (working_set r) z in
      packet_on key t rows flags best r (record { found = false; reads = n })
      (member-some best.server (working_set r) m)
      (eqb-true (state_of best.server r) 1 (sym (working_state r so best.server) ∙ m))

-- ---- a key without a record, whose server works
module _ (key t rows flags : List ℕ) (pick : Pick) (r : Roster) (n : ℕ) where
  pub settle_2 : pick.flag ≡ false
      → answered (accepts pick.server 2 n) t (state_with t rows flags r) ≡ packet key (record { found = false; reads = n }) pick (state_with t rows flags r)
  unfolding packet
  settle_2 f = rw f

  pub settle_4 : pick.flag ≡ true → length t / 20 ≤ n
      → answered (accepts pick.server 4 n) t (state_with t rows flags r) ≡ packet key (record { found = false; reads = n }) pick (state_with t rows flags r)
  unfolding packet
  settle_4 u h = rw (u, le-ltb n (length t / 20) h)

  pub settle_3 : pick.flag ≡ true → n < length t / 20
      → answered (accepts pick.server 3 n) (written_after n key pick.server t) (state_with t rows flags r)
      ≡ packet key (record { found = false; reads = n }) pick (state_with t rows flags r)
  unfolding packet
  settle_3 u h = rw (u, lt-ltb n (length t / 20) h)

-- ---- a key with one
pub known_1 : (key t rows flags : List ℕ) (pick : Pick) (r : Roster) (place : ℕ)
    → answered (accepts (server_at place t) 1 place) t (state_with t rows flags r)
    ≡ packet key (record { found = true; reads = place }) pick (state_with t rows flags r)
unfolding packet
known_1 key t rows flags pick r place = refl

-- ---- what the method in force gives
second : (c : Settings) → valid c ≡ true → eqb c.method 1 ≡ false → eqb c.method 3 ≡ false → eqb c.method 2 ≡ true
unfolding valid
second c v one three =
    both (eqb c.rows 0) (λ z. rw (three, z, one) at v) (λ z. clash (rw (three, z) at v) refl)

module _ (f : ℕ) (spot : Entry) (t rows flags : List ℕ) (r : Roster) (so : sound r ≡ true) (c : Settings) (s : r.settings ≡ c) where
  pub pick_read : (p : Pick) → (c.method ≡ 1 → ⊥)
      → p ≡ cond (eqb c.method 3) (row_read c.rows f (record { servers = rows; flags = flags })) (gives spot)
      → p ≡ pick_by f spot (state_with t rows flags r)
  unfolding pick_by
  pick_read p n e =
      let v : valid c ≡ true = rw s at (sound_parts r so).settings_valid in
      both
      (eqb c.method 3)
      (λ m. rw (s, m) (rw m at e))
      (λ m. rw (s, m, second c v (ne_eqb c.method 1 n) m) (rw m at e))

  pub pick_hrw : (p : Pick) (ss xs : List ℕ) → Lent r ss xs → c.method ≡ 1
      → p ≡ picked (hrw (digest f)) (in_state 1 ss xs) (in_state 2 ss xs) → p ≡ pick_by f spot (state_with t rows flags r)
  unfolding pick_by
  pick_hrw p ss xs l m e = rw (s, m, l.servers, l.states) e

-- the pick over the lent lists is the one over the roster's sets
pub best_of : (d : ℕ) (r : Roster) (ss xs : List ℕ) (p : Pick) → Lent r ss xs → p ≡ picked (hrw d) (in_state 1 ss xs) (in_state 2 ss xs)
    → p ≡ picked (hrw d) (working_set r) (horizon r)
best_of d r ss xs p l e = rw (l.servers, l.states) e

-- ---- the roster's two lists have 64 places
pub lent-sound : (r : Roster) → length r.servers ≡ 64 → length r.states ≡ 64
    → cond (leb r.held (length r.servers)) (cond (leb r.held (length r.states)) (sound r) false) false ≡ sound r
unfolding sound
lent-sound r a b = both (leb r.held 64) (λ t. rw (a, b, t)) (λ t. rw (a, b, t))
