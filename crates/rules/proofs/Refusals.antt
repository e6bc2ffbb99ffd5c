-- A refused event or start changes nothing: every buffer, the ring and the roster stay, and the answer has only its number. For every input.
use Prim.Native.Nat.{ℕ}
use mathlib.Core.Bool.{true, false, not}
use mathlib.Core.List.{List}
use mathlib.Core.Path.{◌≡◌, refl}
use lib.Dec.{eqb, ltb}
use lib.ListN.{length}
use Rattle.sets.proofs.Cases.{both, clash}
use Rattle.hash.specs.Hash.{F}
use Rattle.ranking.specs.declared.Pick.{Pick}
use Rattle.roster.specs.Roster.{sound}
use Rattle.event.specs.Event.{Request, event_in}
use Rattle.table.specs.Table.{Finding, find, room}
use Rattle.ring.specs.Ring.{entry_read}
use Rattle.rules.specs.Answer.{Answer, accepts}
use Rattle.rules.proofs.Ends.{Ends, first, next, nothing, ends}
use Rattle.rules.specs.Rules.{State, World, Change, Done, is, barred, refused, packet, effect, judged, pick_by, sized_for, lent_bar, admitted, settled, event_of, start_of}

-- whatever holds of every accepting answer holds of the answer of an event that nothing bars
module _ (P : Answer → Type 0) (a : (s mark reads : ℕ) → P (accepts s mark reads)) (e : Request) (found : Finding) (pick : Pick) (st : State) where
  packet_answers : (key : List ℕ) → P (packet key found pick st).answer
  unfolding packet
  packet_answers key =
      both found.found (λ f. rw f (a _ _ _)) (λ f.
      both (not pick.flag) (λ g. rw (f, g) (a _ _ _)) (λ g.
      both (ltb found.reads (room st.table)) (λ h. rw (f, g, h) (a _ _ _)) (λ h. rw (f, g, h) (a _ _ _))))

  end_answers : {c : Change} → Ends found st c → P c.answer
  end_answers (first f t) = a _ _ _
  end_answers (next f t) = a _ _ _
  end_answers (nothing f) = a _ _ _

  effect_answers : P (effect e found pick st).answer
  unfolding effect
  effect_answers =
      both (is 1 e) (λ k. rw k (packet_answers e.key)) (λ k₁.
      both (is 2 e) (λ k. rw (k₁, k) (end_answers (ends found st))) (λ k₂.
      both (is 3 e) (λ k. rw (k₁, k₂, k) (a _ _ _)) (λ k₃.
      both (is 4 e) (λ k. rw (k₁, k₂, k₃, k) (a _ _ _)) (λ k₄.
      both (is 5 e) (λ k. rw (k₁, k₂, k₃, k₄, k) (a _ _ _)) (λ k₅.
      both (is 6 e) (λ k. rw (k₁, k₂, k₃, k₄, k₅, k) (a _ _ _)) (λ k. rw (k₁, k₂, k₃, k₄, k₅, k) (a _ _ _)))))))

module _ (e : Request) (found : Finding) (pick : Pick) (st : State) where
  pub effect_accepted : (effect e found pick st).answer.accepted ≡ true
  effect_accepted = effect_answers (λ (t : Answer). t.accepted ≡ true) (λ s m r. refl) e found pick st

  pub effect_unrefused : (effect e found pick st).answer.refusal ≡ 0
  effect_unrefused = effect_answers (λ (t : Answer). t.refusal ≡ 0) (λ s m r. refl) e found pick st

  -- a change that is refused is the refusal and nothing else
  pub refused-judged : (judged e found pick st).answer.accepted ≡ false
      → judged e found pick st ≡ refused (judged e found pick st).answer.refusal st
  unfolding judged
  refused-judged =
      both (is 0 e) (λ z. rw z (λ _. refl)) (λ z.
      both (eqb (barred e found pick st) 0)
      (λ b. rw (z, b) (λ a. clash effect_accepted a))
      (λ b. rw (z, b) (λ _. refl)))

-- what a refusal leaves, written out: server 0, mark 0, reads 0, and the world as it was
pub record NothingChanged (w : World) (d : Done) : Type 0 where
  pub server : d.answer.server ≡ 0
  pub mark : d.answer.mark ≡ 0
  pub reads : d.answer.reads ≡ 0
  pub world : d.world ≡ w

refused-leaves : (c : Change) (n : ℕ) (w : World) → c ≡ refused n w.state → NothingChanged w (settled c w.ring)
refused-leaves c n w e = rw e (record { server = refl; mark = refl; reads = refl; world = refl })

pub refused_changes_nothing : (bytes : List ℕ) (w : World) → (event_of bytes w).answer.accepted ≡ false → NothingChanged w (event_of bytes w)
unfolding event_of
refused_changes_nothing bytes w a =
    let st = w.state in
    let e = admitted (lent_bar (sized_for (length w.ring) st) (sound st.roster)) (event_in bytes) in
    let pick = pick_by (F e.key) (entry_read st.roster.held (F e.key) w.ring) st in
    refused-leaves _ _ w (refused-judged e (find e.key st.table) pick st a)

-- a start that is refused is refused by 9, and leaves all as it was
pub refused_start_changes_nothing : (w : World) → (start_of w).answer.accepted ≡ false
    → ((start_of w).answer.refusal ≡ 9) × NothingChanged w (start_of w)
unfolding start_of
refused_start_changes_nothing w =
    both (sized_for (length w.ring) w.state)
    (λ t. rw t (λ a. clash refl a))
    (λ t. rw t (λ _. (refl, record { server = refl; mark = refl; reads = refl; world = refl })))
