-- Demand 2 leaves no choice: two engines that obey it show the same table, the same roster and the same answers, after every history.
use Prim.Native.Nat.{ℕ}
use mathlib.Core.Bool.{Bool, true, false, ◌&&◌}
use mathlib.Core.List.{List, [], ◌∷◌}
use mathlib.Core.Logic.{◌≢◌, ⊎_elim}
use mathlib.Core.Path.{◌≡◌, refl, sym, ap, ◌∙◌}
use native.Mathlib.Omega.{arith}
use lib.Dec.{ltb}
use borrow.Author.Tests.{ltb-true, ltb-false}
use Rattle.sets.specs.Sets.{member}
use Rattle.sets.proofs.Cases.{both, clash}
use Rattle.ranking.specs.Ranking.{choice, unsafe, picked}
use Rattle.roster.specs.declared.Roster.{Roster}
use Rattle.roster.specs.Roster.{working_set, horizon}
use Rattle.event.specs.Event.{all_bytes, asks_key, event_in}
use Rattle.table.specs.Table.{find, tag_at, used, room, removed, half_closed}
use Rattle.table.proofs.Records.{used_within}
use Rattle.table.proofs.Finds.{missing_reads}
use Rattle.ringplan.specs.Plan.{some}
use Rattle.ringplan.proofs.Members.{some-member}
use Rattle.rules.specs.Answer.{Answer, accepts}
use Rattle.rules.specs.Rules.{State, Change, state_with, is, packet, end, barred, effect, judged}
use Rattle.rules.proofs.Ends.{end-first, end_next, end-nothing}
use Rattle.claims_histories.specs.Histories.{AllBytes}
use Rattle.claims_demands.specs.Demands.{Engine, ranking_of, mover, Unsafe, PacketRight, otherwise, Demand2}
use Rattle.claims_demands.proofs.Packets.{flagged, unflagged}
use Rattle.claims_demands.proofs.Others.{Shows, asked-packet}

-- a packet as the rules have it with the ranking's pick, over a table and a roster
abbrev pub ruled : List ℕ → List ℕ → Roster → Change
ruled key t r =
    packet key (find key t) (picked (ranking_of r key) (working_set r) (horizon r)) (record { table = t; rows = []; flags = []; roster = r })

-- what is right at a packet is that and nothing else
module _ (key t : List ℕ) (r : Roster) (s : ℕ) (works : member s (working_set r) ≡ true)
    (a : Answer) (t' : List ℕ) (r' : Roster) (p : PacketRight key t r a t' r') where
  answer-is : (x m : ℕ) → mover key t r ≡ x → a.mark ≡ m → a ≡ accepts x m (find key t).reads
  answer-is x m e k = p.gets ∙ rw (e, k)

  -- with room, an unsafe choice is written, and without it that is told
  marked_3 : (find key t).found ≡ false → Unsafe key r → ltb (used t) (room t) ≡ true → a.mark ≡ 3
  marked_3 f u l =
      ⊎_elim (λ m. m) (λ m. absurd (omega (arith, ltb-true (used t) (room t) l, ((p.full f).0 m).1))) ((p.tracked f).1 u)

  marked_4 : (find key t).found ≡ false → Unsafe key r → ltb (used t) (room t) ≡ false → a.mark ≡ 4
  marked_4 f u l = (p.full f).1 (u, omega (arith, ltb-false (used t) (room t) l, used_within t))

  pub packet-is : Shows (ruled key t r) a t' r'
  unfolding packet
  packet-is =
      let chosen = choice (ranking_of r key) (working_set r) in
      both (find key t).found
      (λ f. rw f (record { answer = answer-is _ 1 (rw f) (p.known f).0; table = (p.known f).1; roster = p.keeps }))
      (λ f.
      let m : mover key t r ≡ chosen = rw f in
      both (unsafe (ranking_of r key) (working_set r) (horizon r))
      (λ u.
      let c = flagged key r s works u in
      let n = missing_reads key t f in
      both (ltb (used t) (room t))
      (λ l.
      let k = marked_3 f c l in
      rw (f, u, n, l) (record { answer = answer-is chosen 3 m k ∙ rw n; table = ((p.written f).0 k).bytes ∙ rw m; roster = p.keeps }))
      (λ l.
      let k = marked_4 f c l in
      rw (f, u, n, l) (record { answer = answer-is chosen 4 m k ∙ rw n; table = p.full_keeps f k; roster = p.keeps })))
      (λ u.
      let c = p.safe f (unflagged key r s works u) in
      rw (f, u) (record { answer = answer-is chosen 2 m c.0; table = c.1; roster = p.keeps })))

-- what an engine that obeys shows after an event, from what it showed before
module _ (n : ℕ) (E : Engine) (d : Demand2 n E) (h : List (List ℕ)) (bytes : List ℕ) (b : AllBytes (bytes ∷ h)) where
  pub packet_seen : (key : List ℕ) → event_in bytes ≡ asks_key 1 key → some (working_set (E.roster h)) ≡ true
      → Shows (ruled key (E.table h) (E.roster h)) (E.says h bytes) (E.table (bytes ∷ h)) (E.roster (bytes ∷ h))
  packet_seen key e works =
      let (s, m) = some-member (working_set (E.roster h)) works in
      packet-is key (E.table h) (E.roster h) s m _ _ _ (d.packets h bytes key b e works)

  -- the event is a packet that some server could take
  abbrev pub served : Bool
  served = is 1 (event_in bytes) && some (working_set (E.roster h))

  pub served_seen : served ≡ true
      → Shows (ruled (event_in bytes).key (E.table h) (E.roster h)) (E.says h bytes) (E.table (bytes ∷ h)) (E.roster (bytes ∷ h))
  served_seen v =
      let packet? : is 1 (event_in bytes) ≡ true = both (is 1 (event_in bytes)) (λ k. k) (λ k. clash (rw k at v) refl) in
      packet_seen (event_in bytes).key (asked-packet bytes packet?) (rw packet? at v)

  pub unserved_seen : served ≡ false
      → Shows (otherwise (event_in bytes) (E.table h) (E.roster h)) (E.says h bytes) (E.table (bytes ∷ h)) (E.roster (bytes ∷ h))
  unserved_seen v =
      let o = d.others h bytes b (λ key e works. clash (rw (e, works)) v) in
      record { answer = o.0; table = o.1; roster = o.2 }

  -- an end of a key
  pub end_seen : (key : List ℕ) → event_in bytes ≡ asks_key 2 key
      → Shows (end (find key (E.table h)) (state_with (E.table h) [] [] (E.roster h))) (E.says h bytes) (E.table (bytes ∷ h)) (E.roster (bytes ∷ h))
  unfolding judged barred effect
  end_seen key e = rw e at (unserved_seen (rw e))

  -- without a record, with one that wasn't ended yet, and with one that was
  module _ (key : List ℕ) (e : event_in bytes ≡ asks_key 2 key) where
    abbrev place : ℕ
    place = (find key (E.table h)).reads

    abbrev st : State
    st = state_with (E.table h) [] [] (E.roster h)

    seen_as : {c : Change} → end (find key (E.table h)) st ≡ c → (E.says h bytes ≡ c.answer) × (E.table (bytes ∷ h) ≡ c.state.table)
    seen_as q = let s = end_seen key e in (s.answer ∙ ap (λ (c : Change). c.answer) q, s.table ∙ ap (λ (c : Change). c.state.table) q)

    pub no_end : (find key (E.table h)).found ≡ false → (E.says h bytes ≡ accepts 0 6 place) × (E.table (bytes ∷ h) ≡ E.table h)
    no_end f = seen_as (end-nothing (find key (E.table h)) st f)

    module _ (f : (find key (E.table h)).found ≡ true) where
      pub first-end : tag_at place (E.table h) ≡ 1
          → (E.says h bytes ≡ accepts 0 8 place) × (E.table (bytes ∷ h) ≡ half_closed place (E.table h))
      first-end one = seen_as (end-first (find key (E.table h)) st f one)

      pub next_end : tag_at place (E.table h) ≢ 1
          → (E.says h bytes ≡ accepts 0 5 place) × (E.table (bytes ∷ h) ≡ removed place (E.table h))
      next_end other = seen_as (end_next (find key (E.table h)) st f other)

-- a packet that an engine which obeys accepts found some server at work
pub accepted_works : (n : ℕ) (E : Engine) → Demand2 n E → (h : List (List ℕ)) (bytes key : List ℕ) → AllBytes (bytes ∷ h)
    → event_in bytes ≡ asks_key 1 key → (E.says h bytes).accepted ≡ true → some (working_set (E.roster h)) ≡ true
unfolding judged barred
accepted_works n E d h bytes key b e a =
    both (some (working_set (E.roster h))) (λ t. t) (λ t.
    let o = (unserved_seen n E d h bytes b (rw (e, t))).answer in
    clash a (ap (λ (x : Answer). x.accepted) o ∙ rw (e, t)))

module _ (n : ℕ) (E G : Engine) (d : Demand2 n E) (g : Demand2 n G) where
  same_next : (h : List (List ℕ)) (bytes : List ℕ) → AllBytes (bytes ∷ h) → E.table h ≡ G.table h → E.roster h ≡ G.roster h
      → (E.says h bytes ≡ G.says h bytes) × (E.table (bytes ∷ h) ≡ G.table (bytes ∷ h)) × (E.roster (bytes ∷ h) ≡ G.roster (bytes ∷ h))
  same_next h bytes b t r =
      both (served n E d h bytes b)
      (λ v.
      let x = served_seen n E d h bytes b v in
      let y = rw (← t, ← r) at (served_seen n G g h bytes b (rw r at v)) in
      (x.answer ∙ sym y.answer, x.table ∙ sym y.table, x.roster ∙ sym y.roster))
      (λ v.
      let x = unserved_seen n E d h bytes b v in
      let y = rw (← t, ← r) at (unserved_seen n G g h bytes b (rw r at v)) in
      (x.answer ∙ sym y.answer, x.table ∙ sym y.table, x.roster ∙ sym y.roster))

  pub same_engines : (h : List (List ℕ)) → AllBytes h → (E.table h ≡ G.table h) × (E.roster h ≡ G.roster h)
  same_engines [] b = (d.starts_clear ∙ sym g.starts_clear, d.starts_empty ∙ sym g.starts_empty)
  same_engines (bytes ∷ h) b =
      let before = same_engines h b.1 in
      let now = same_next h bytes b before.0 before.1 in
      (now.1, now.2)

  pub same_answers : (h : List (List ℕ)) → AllBytes h → (bytes : List ℕ) → all_bytes bytes ≡ true → E.says h bytes ≡ G.says h bytes
  same_answers h b bytes c =
      let before = same_engines h b in
      (same_next h bytes (c, b) before.0 before.1).0
