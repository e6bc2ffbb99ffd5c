-- Demand 1, proved of what `event` and `start` promise, for every input: the refusal table line by line, the marks, and that a refusal changes nothing.
use Prim.Native.Nat.{ℕ}
use mathlib.Core.Bool.{true, false, not}
use mathlib.Core.List.{List, [], ◌∷◌}
use mathlib.Core.Logic.{◌⊎◌, ⊎_elim}
use mathlib.Core.Path.{◌≡◌, refl, sym, ap, ◌∙◌}
use native.Mathlib.Omega.{arith}
use lib.Dec.{eqb}
use lib.ListN.{length, drop, replicate}
use borrow.Author.Tests.{eqb-true, eqb-false, ne_eqb, not-true, not-false}
use Rattle.sets.specs.Sets.{member}
use Rattle.sets.proofs.Cases.{both, clash}
use Rattle.hash.specs.Hash.{F}
use Rattle.ranking.specs.declared.Pick.{Pick}
use Rattle.roster.specs.declared.Roster.{Roster}
use Rattle.roster.specs.Roster.{sound, state_of, working_set, horizon, empty_roster}
use Rattle.roster.proofs.Sets.{working_state, horizon_state}
use Rattle.roster.proofs.Known.{known_sets}
use Rattle.event.specs.Event.{Request}
use Rattle.table.specs.Table.{Finding, find, used}
use Rattle.ring.specs.Ring.{entry_read}
use Rattle.ringplan.specs.Plan.{some}
use Rattle.rules.specs.declared.Reply.{Reply}
use Rattle.rules.specs.declared.Reply.TheVariants.{Accepted, Refused}
use Rattle.rules.specs.Answer.{Answer, accepts, answer_of}
use Rattle.rules.specs.Rules.{World, world_with, Done, is, barred, effect, judged, pick_by, sized_for, lent_bar, admitted, event_of, start_of, EventPromise, StartPromise}
use Rattle.rules.proofs.Refusals.{refused_changes_nothing, refused_start_changes_nothing}
use Rattle.claims_histories.proofs.Barring.{line3, line4, line5, line8}
use Rattle.claims_demands.specs.Causes.{kind_in, key_in, server_in, LedAstray}
use Rattle.claims_demands.specs.Demand1.{refusals, length_line, MarkRight, other, Demand1, Demand1Start}
use Rattle.claims_demands.proofs.Demand1Lent.{Tells, yes, no, tells_and, tells_or, tells_nand, tells_false, tells_eqb, tells_leb, lengths_told, sound_told}
use Rattle.claims_demands.proofs.Demand1Record.{Agrees, Reads, malformed, serverless, asks, reads}
use Rattle.claims_demands.proofs.Demand1Packet.{astray_told, Marked, marked, packet_marked, end_marked}
use Rattle.claims_demands.proofs.Demand1Verdict.{Verdict, answered, accepted, here, past, step, first_listed, accepted_right, refused_exactly, accepted_exactly}

none_told : (l : List ℕ) → Tells (l ≡ []) (not (some l))
none_told [] = yes refl
none_told (x ∷ l) = no (λ e. let z : ◌≡◌ {A = ℕ} 0 1 = cc in omega arith)

-- ---- a sound roster's servers by their states
module _ (r : Roster) (so : sound r ≡ true) (s : ℕ) where
  known_told : Tells ((member s (working_set r) ≡ true) ⊎ (member s (horizon r) ≡ true)) (not (eqb (state_of s r) 0))
  known_told =
      both (eqb (state_of s r) 0)
      (λ z.
      let u = eqb-true (state_of s r) 0 z in
      rw z (no (⊎_elim (λ m. clash m (working_state r so s ∙ rw u)) (λ m. clash m (horizon_state r so s ∙ rw u)))))
      (λ z. rw z (yes (known_sets r so s (eqb-false (state_of s r) 0 z))))

  idle_told : Tells (member s (working_set r) ≡ false) (not (eqb (state_of s r) 1))
  idle_told = rw (← (working_state r so s)) (tells_false (member s (working_set r)))

  absent_told : Tells (member s (horizon r) ≡ false) (not (eqb (state_of s r) 2))
  absent_told = rw (← (horizon_state r so s)) (tells_false (member s (horizon r)))

-- ---- an event record that is well formed, on a sound roster: refusals 10, 3, 6, 4, 5, 7, 8 and the marks
module _ (bytes : List ℕ) (w : World) (so : sound w.state.roster ≡ true) (e : Request) (g : Agrees bytes e) where
  abbrev r : Roster
  r = w.state.roster

  abbrev found : Finding
  found = find e.key w.state.table

  abbrev pick : Pick
  pick = pick_by (F e.key) (entry_read r.held (F e.key) w.ring) w.state

  kind_told : (n : ℕ) → Tells (kind_in bytes ≡ n) (is n e)
  kind_told n = rw g.kind (tells_eqb (kind_in bytes) n)

  kind_is : (n : ℕ) → is n e ≡ true → kind_in bytes ≡ n
  kind_is n k = sym g.kind ∙ eqb-true e.kind n k

  told_3 : Tells ((kind_in bytes ≡ 5) × ((member (server_in bytes) (working_set r) ≡ true) ⊎ (member (server_in bytes) (horizon r) ≡ true))) (line3 e found pick w.state)
  told_3 = tells_and (kind_told 5) (λ k. rw (g.server (omega arith) (omega arith)) (known_told r so (server_in bytes)))

  told_4 : Tells (((kind_in bytes ≡ 3) ⊎ (kind_in bytes ≡ 6)) × (member (server_in bytes) (horizon r) ≡ false)) (line4 e found pick w.state)
  told_4 =
      tells_and (tells_or (kind_told 3) (kind_told 6))
      (λ k.
      rw (g.server (⊎_elim (λ q. omega arith) (λ q. omega arith) k) (⊎_elim (λ q. omega arith) (λ q. omega arith) k))
      (absent_told r so (server_in bytes)))

  told_5 : Tells ((kind_in bytes ≡ 4) × (member (server_in bytes) (working_set r) ≡ false)) (line5 e found pick w.state)
  told_5 = tells_and (kind_told 4) (λ k. rw (g.server (omega arith) (omega arith)) (idle_told r so (server_in bytes)))

  -- a packet that passed refusal 7
  module _ (served : (kind_in bytes ≡ 1) × (working_set r ≡ []) → ⊥) where
    serves : kind_in bytes ≡ 1 → some (working_set r) ≡ true
    serves k = some_of (working_set r) (λ z. served (k, z))
      where
        some_of : (l : List ℕ) → (l ≡ [] → ⊥) → some l ≡ true
        some_of [] n = absurd (n refl)
        some_of (x ∷ l) n = refl

    told-8 : Tells ((kind_in bytes ≡ 1) × LedAstray (key_in bytes) w) (line8 e found pick w.state)
    told-8 = tells_and (kind_told 1) (λ k. rw (g.key (omega arith)) (astray_told (key_in bytes) w so (serves k)))

    packet_right : is 1 e ≡ true → Marked bytes w (effect e found pick w.state).answer
    unfolding effect
    packet_right k = let one = kind_is 1 k in rw (k, g.key (omega arith)) (packet_marked bytes w so one (serves one))

    end-right : is 1 e ≡ false → is 2 e ≡ true → Marked bytes w (effect e found pick w.state).answer
    unfolding effect
    end-right k₁ k = let two = kind_is 2 k in rw (k₁, k, g.key (omega arith)) (end_marked bytes w two)

    other-right : is 1 e ≡ false → is 2 e ≡ false → Marked bytes w (accepts 0 0 0)
    other-right k₁ k₂ =
        marked 0 0 0 (other (omega (arith, g.kind, g.some, eqb-false e.kind 1 k₁, eqb-false e.kind 2 k₂)) g.few)

    effect-right : Marked bytes w (effect e found pick w.state).answer
    unfolding effect
    effect-right =
        both (is 1 e) packet_right (λ k₁.
        both (is 2 e) (λ k. end-right k₁ k) (λ k₂.
        both (is 3 e) (λ k. rw (k₁, k₂, k) (other-right k₁ k₂)) (λ k₃.
        both (is 4 e) (λ k. rw (k₁, k₂, k₃, k) (other-right k₁ k₂)) (λ k₄.
        both (is 5 e) (λ k. rw (k₁, k₂, k₃, k₄, k) (other-right k₁ k₂)) (λ k₅.
        both (is 6 e)
        (λ k. rw (k₁, k₂, k₃, k₄, k₅, k) (other-right k₁ k₂))
        (λ k. rw (k₁, k₂, k₃, k₄, k₅, k) (other-right k₁ k₂)))))))

  judged_right : Verdict (Marked bytes w) (drop 4 (refusals bytes w)) (judged e found pick w.state).answer
  unfolding judged barred
  judged_right =
      let z : is 0 e ≡ false = ne_eqb e.kind 0 (omega (arith, g.kind, g.some)) in
      step (tells_and (kind_told 7) (λ _. tells_nand (tells_eqb r.held 0) (tells_eqb (used w.state.table) 0))) (λ t. rw (z, t)) (λ f₁₀ _.
      step told_3 (λ t. rw (z, f₁₀, t)) (λ f₃ _.
      step (tells_and (kind_told 5) (λ _. tells_leb 64 r.held)) (λ t. rw (z, f₁₀, f₃, t)) (λ f₆ _.
      step told_4 (λ t. rw (z, f₁₀, f₃, f₆, t)) (λ f₄ _.
      step told_5 (λ t. rw (z, f₁₀, f₃, f₆, f₄, t)) (λ f₅ _.
      step (tells_and (kind_told 1) (λ _. none_told (working_set r))) (λ t. rw (z, f₁₀, f₃, f₆, f₄, f₅, t)) (λ f₇ served.
      step (told-8 served) (λ t. rw (z, f₁₀, f₃, f₆, f₄, f₅, f₇, t)) (λ f₈ _.
      accepted [] _ tt (rw (z, f₁₀, f₃, f₆, f₄, f₅, f₇, f₈) (effect-right served)))))))))

-- ---- every event record
module _ (bytes : List ℕ) (w : World) where
  record_right : sound w.state.roster ≡ true → {e : Request} → Reads bytes e
      → Verdict (Marked bytes w) (drop 2 (refusals bytes w))
      (judged e (find e.key w.state.table) (pick_by (F e.key) (entry_read w.state.roster.held (F e.key) w.ring) w.state) w.state).answer
  unfolding judged
  record_right so (malformed m) = here m
  record_right so (serverless n s) = past n (here s)
  record_right so (asks e n s g) = past n (past s (judged_right bytes w so e g))

  event_right : Verdict (Marked bytes w) (refusals bytes w) (event_of bytes w).answer
  unfolding event_of lent_bar admitted judged
  event_right =
      let sized = sized_for (length w.ring) w.state in
      let roster_sound = sound w.state.roster in
      step (lengths_told w) (λ t. rw (not-true sized t)) (λ f _.
      let si = not-false sized f in
      step (sound_told w.state.roster) (λ t. rw (si, not-true roster_sound t)) (λ f _.
      let so = not-false roster_sound f in
      rw (si, so) (record_right so (reads bytes))))

marked_says : {bytes : List ℕ} {w : World} (a : Answer) → Marked bytes w a → a.accepted ≡ true
marked_says a (marked s mark reads m) = refl

marked_reply : {bytes : List ℕ} {w : World} (a : Answer) → Marked bytes w a → (reply : Reply) × (answer_of reply ≡ a)
marked_reply a (marked s mark number m) = (Accepted s mark number, refl)

mark_of : {bytes : List ℕ} {w : World} {a : Answer} (s mark reads : ℕ) → Marked bytes w a → a ≡ accepts s mark reads → MarkRight (kind_in bytes) (key_in bytes) w s mark reads
mark_of s mark reads (marked s' mark' reads' m) e =
    let p : s' ≡ s = ap (λ (a : Answer). a.server) e in
    let q : mark' ≡ mark = ap (λ (a : Answer). a.mark) e in
    let o : reads' ≡ reads = ap (λ (a : Answer). a.reads) e in
    rw (p, q, o) at m

-- "Every event record and every lent buffer is met with a defined reply."
pub demand1_met : (bytes : List ℕ) (before : World) → (after : World) × (reply : Reply) × EventPromise bytes before after reply
demand1_met bytes before =
    let w = (event_of bytes before).world in
    let (reply, q) = answered marked_reply (event_right bytes before) in
    (w, reply, ap (λ (a : Answer). record { answer = a; world = w }) q)

pub demand1 : (bytes : List ℕ) (before after : World) (reply : Reply) → EventPromise bytes before after reply → Demand1 bytes before after reply
demand1 bytes before after reply p =
    let a : answer_of reply ≡ (event_of bytes before).answer = ap (λ (d : Done). d.answer) p in
    let v : Verdict (Marked bytes before) (refusals bytes before) (answer_of reply) = rw a (event_right bytes before) in
    record {
      refused = refused_exactly marked_says (refusals bytes before) reply v;
      accepted = accepted_exactly marked_says (refusals bytes before) reply v;
      numbers = λ n q. first_listed (refusals bytes before) n ((refused_exactly marked_says (refusals bytes before) reply v n).0 q);
      refusal = λ n q.
          record {
            told = ap answer_of q;
            unchanged =
                ap (λ (d : Done). d.world) p
                ∙ (refused_changes_nothing bytes before (sym (ap (λ (x : Answer). x.accepted) a) ∙ ap (λ (x : Reply). (answer_of x).accepted) q)).world;
          };
      marks = λ s mark reads q.
          mark_of s mark reads (accepted_right marked_says v (ap (λ (x : Reply). (answer_of x).accepted) q)) (ap answer_of q);
      told = λ s mark reads q. ap answer_of q;
    }

-- ---- every start
data Zeros (a : Answer) : Type 1 where
  zeros : a ≡ accepts 0 0 0 → Zeros a

zeros_says : (a : Answer) → Zeros a → a.accepted ≡ true
zeros_says a (zeros e) = ap (λ (x : Answer). x.accepted) e

zeros_reply : (a : Answer) → Zeros a → (reply : Reply) × (answer_of reply ≡ a)
zeros_reply a (zeros e) = (Accepted 0 0 0, sym e)

start_right : (w : World) → Verdict Zeros (length_line w ∷ []) (start_of w).answer
unfolding start_of
start_right w =
    let sized = sized_for (length w.ring) w.state in
    step (lengths_told w) (λ t. rw (not-true sized t)) (λ f _. rw (not-false sized f) (accepted [] _ tt (zeros refl)))

reply_zeros : (reply : Reply) → Zeros (answer_of reply) → reply ≡ Accepted 0 0 0
reply_zeros (Accepted s mark number) (zeros e) =
    let p : s ≡ 0 = ap (λ (a : Answer). a.server) e in
    let q : mark ≡ 0 = ap (λ (a : Answer). a.mark) e in
    let o : number ≡ 0 = ap (λ (a : Answer). a.reads) e in
    rw (p, q, o)
reply_zeros (Refused n) (zeros e) = clash {b = true} refl (sym (ap (λ (x : Answer). x.accepted) e))

pub demand1_start_met : (before : World) → (after : World) × (reply : Reply) × StartPromise before after reply
demand1_start_met before =
    let w = (start_of before).world in
    let (reply, q) = answered zeros_reply (start_right before) in
    (w, reply, ap (λ (a : Answer). record { answer = a; world = w }) q)

-- what an accepted start leaves
start_leaves : (w : World) → (start_of w).answer.accepted ≡ true
    → (start_of w).world ≡ world_with (replicate (length w.state.table) 0) w.state.rows w.state.flags w.ring empty_roster
unfolding start_of
start_leaves w = both (sized_for (length w.ring) w.state) (λ t. rw t (λ _. refl)) (λ t. rw t (λ a. clash a refl))

pub demand1_start : (before after : World) (reply : Reply) → StartPromise before after reply → Demand1Start before after reply
demand1_start before after reply p =
    let a : answer_of reply ≡ (start_of before).answer = ap (λ (d : Done). d.answer) p in
    let v : Verdict Zeros (length_line before ∷ []) (answer_of reply) = rw a (start_right before) in
    record {
      refused = refused_exactly zeros_says (length_line before ∷ []) reply v;
      accepted = (
        λ q. (accepted_exactly zeros_says (length_line before ∷ []) reply v).0 (0, 0, 0, q),
        λ o.
            let (s, mark, reads, q) = (accepted_exactly zeros_says (length_line before ∷ []) reply v).1 o in
            reply_zeros reply (accepted_right zeros_says v (ap (λ (x : Reply). (answer_of x).accepted) q)),
      );
      leaves = λ q.
          ap (λ (d : Done). d.world) p
          ∙ start_leaves before (sym (ap (λ (x : Answer). x.accepted) a) ∙ ap (λ (x : Reply). (answer_of x).accepted) q);
      refusal = λ n q.
          record {
            told = ap answer_of q;
            unchanged =
                ap (λ (d : Done). d.world) p
                ∙ (refused_start_changes_nothing before (sym (ap (λ (x : Answer). x.accepted) a) ∙ ap (λ (x : Reply). (answer_of x).accepted) q)).1.world;
          };
    }
