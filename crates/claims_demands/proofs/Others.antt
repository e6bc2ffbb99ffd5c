-- What an event comes to that is no packet, or a packet while no server works: answer, table and roster depend on no row, flag or pick.
use Prim.Native.Nat.{ℕ}
use mathlib.Core.Bool.{Bool, true, false, ◌&&◌}
use mathlib.Core.List.{List}
use mathlib.Core.Path.{◌≡◌, refl}
use native.Mathlib.Omega.{arith}
use lib.Dec.{eqb}
use borrow.Author.Tests.{eqb-true}
use Rattle.sets.proofs.Cases.{both, clash}
use Rattle.ranking.specs.declared.Pick.{Pick}
use Rattle.roster.specs.declared.Roster.{Roster}
use Rattle.roster.specs.Roster.{working_set}
use Rattle.event.specs.Event.{Request, asks_key, event_in}
use Rattle.event.proofs.Reading.{Outcome, refused, keyed, naming, configured, outcome}
use Rattle.table.specs.Table.{Finding, tag_at}
use Rattle.ringplan.specs.Plan.{some}
use Rattle.rules.specs.Answer.{Answer}
use Rattle.rules.specs.Rules.{State, Change, is, barred, end, effect, judged}
use Rattle.claims_histories.proofs.Barring.{passed}

-- a record that reads as a packet is one of its key
keyed-packet : {l : List ℕ} {e : Request} → Outcome l e → is 1 e ≡ true → e ≡ asks_key 1 e.key
keyed-packet (refused n low high) k = clash k refl
keyed-packet (keyed n low high long) k = rw (eqb-true n 1 k)
keyed-packet (naming n low high some) k = absurd (omega (arith, eqb-true n 1 k))
keyed-packet (configured s ok) k = clash k refl

pub asked-packet : (bytes : List ℕ) → is 1 (event_in bytes) ≡ true → event_in bytes ≡ asks_key 1 (event_in bytes).key
asked-packet bytes = keyed-packet (outcome bytes)

-- an answer with the table and roster after it are those of a change
pub record Shows (c : Change) (a : Answer) (t' : List ℕ) (r' : Roster) : Type 0 where
  pub answer : a ≡ c.answer
  pub table : t' ≡ c.state.table
  pub roster : r' ≡ c.state.roster

seen_itself : (c : Change) → Shows c c.answer c.state.table c.state.roster
seen_itself c = record { answer = refl; table = refl; roster = refl }

-- two changes of which the same is seen
abbrev pub Alike : Change → Change → Type 0
Alike c d = Shows d c.answer c.state.table c.state.roster

module _ (e : Request) (found : Finding) (p q : Pick) (st : State) (rows flags : List ℕ) where
  abbrev instead : State
  instead = record { table = st.table; rows = rows; flags = flags; roster = st.roster }

  -- the event is a packet that some server could take
  abbrev served : Bool
  served = is 1 e && some (working_set st.roster)

  barred-same : served ≡ false → barred e found p st ≡ barred e found q instead
  unfolding barred
  barred-same n =
      both (is 1 e) (λ k. let z : some (working_set st.roster) ≡ false = rw k at n in rw (k, z)) (λ k. rw k)

  end_same : Alike (end found st) (end found instead)
  unfolding end
  end_same =
      both found.found
      (λ f.
      both (eqb (tag_at found.reads st.table) 1) (λ t. rw (f, t) (seen_itself _)) (λ t. rw (f, t) (seen_itself _)))
      (λ f. rw f (seen_itself _))

  effect-same : is 1 e ≡ false → Alike (effect e found p st) (effect e found q instead)
  unfolding effect
  effect-same k₁ =
      both (is 2 e) (λ k. rw (k₁, k) end_same) (λ k₂.
      both (is 3 e) (λ k. rw (k₁, k₂, k) (seen_itself _)) (λ k₃.
      both (is 4 e) (λ k. rw (k₁, k₂, k₃, k) (seen_itself _)) (λ k₄.
      both (is 5 e) (λ k. rw (k₁, k₂, k₃, k₄, k) (seen_itself _)) (λ k₅.
      both (is 6 e)
      (λ k. rw (k₁, k₂, k₃, k₄, k₅, k) (seen_itself _))
      (λ k. rw (k₁, k₂, k₃, k₄, k₅, k) (seen_itself _))))))

  pub judged-same : served ≡ false → Alike (judged e found p st) (judged e found q instead)
  unfolding judged
  judged-same n =
      both (is 0 e) (λ z. rw z (seen_itself _)) (λ z.
      both (eqb (barred e found p st) 0)
      (λ b.
      both (is 1 e)
      (λ k. clash ((passed e found p st (eqb-true (barred e found p st) 0 b)).served k) (rw k at n))
      (λ k. rw (z, ← (barred-same n), b) (effect-same k)))
      (λ b. rw (z, ← (barred-same n), b) (seen_itself _)))
