-- No second reaction satisfies a promise that gives it, with the buffers it leaves, as one change: reply, roster, redraw, table, rows and
-- flags are determined one by one.
use Prim.Native.Nat.{ℕ}
use mathlib.Core.List.{List, []}
use mathlib.Core.Bool.{cond}
use mathlib.Core.Path.{◌≡◌, refl, sym, ap, ◌∙◌}
use Rattle.std.specs.Prelude.{false, Result, Ok, Err}
use Rattle.roster.specs.declared.Roster.{Roster}
use Rattle.roster.specs.Roster.{empty_roster}
use Rattle.rows.specs.Rows.{Rows}
use Rattle.rules.specs.declared.Refusal.{Refusal}
use Rattle.rules.specs.declared.Reply.{Reply}
use Rattle.rules.specs.Answer.{Answer, answer_of}
use Rattle.rules.specs.Rules.{refused, rows_of, Change}
use Rattle.rules.proofs.Apart.{answer_apart, numbered, numbered_as}
use Rattle.answers.specs.declared.Done.{Done}
use Rattle.answers.specs.declared.Facts.{Facts}
use Rattle.answers.specs.declared.Reaction.{Reaction}
use Rattle.answers.specs.declared.ReplyNumbers.{ReplyNumbers}
use Rattle.answers.proofs.taken.Reads.{Learnt as taken-promise}
use Rattle.answers.proofs.ReplyNumbersFromReply.from.Reads.{Learnt as numbers-promise}
use Rattle.answers.proofs.ReplyFromFacts.from.Reads.{Learnt as of-facts-promise}
use Rattle.answers.specs.Reacting.{state_over, reacted, done_as, settled, served, replied, NumbersOf}

-- no rows
abbrev pub none : Rows
none = record { servers = []; flags = [] }

pub record SameReaction (v v' : Reaction) (t t' : List ℕ) (ns ns' : Rows) : Type 0 where
  pub reaction : v ≡ v'
  pub table : t ≡ t'
  pub rows : ns ≡ ns'

same : (v v' : Reaction) → v.reply ≡ v'.reply → v.roster ≡ v'.roster → v.redraw ≡ v'.redraw → v ≡ v'
same v v' a b c = λ i. record { reply = a i; roster = b i; redraw = c i }

-- for `engine::react`
pub reaction_unique : (v v' : Reaction) (t t' : List ℕ) (rows rows' : Rows) (c : Change)
    → reacted v t rows ≡ c → reacted v' t' rows' ≡ c → SameReaction v v' t t' rows rows'
reaction_unique v v' t t' rows rows' c p q =
    let e : reacted v t rows ≡ reacted v' t' rows' = p ∙ sym q in
    record {
      reaction =
          same
          v
          v'
          (answer_apart v.reply v'.reply (ap (λ (x : Change). x.answer) e))
          (ap (λ (x : Change). x.state.roster) e)
          (ap (λ (x : Change). x.redraw) e);
      table = ap (λ (x : Change). x.state.table) e;
      rows = ap (λ (x : Change). rows_of x.state) e;
    }

-- the result of a function of `changes`, or of `packets::packet`, that an answer and what it leaves come from
abbrev facts_by : Change → Facts
facts_by c = record { server = c.answer.server; mark = c.answer.mark; reads = c.answer.reads }

abbrev done_by : Change → Result Done Refusal
done_by c = cond c.answer.accepted (Ok (record { facts = facts_by c; redraw = c.redraw })) (Err (numbered c.answer.refusal))

abbrev reply_by : Change → Result Facts Refusal
reply_by c = cond c.answer.accepted (Ok (facts_by c)) (Err (numbered c.answer.refusal))

module _ (t : List ℕ) (rows : Rows) (r : Roster) where
  done_back : (v : Result Done Refusal) → done_by (settled v t rows r) ≡ v
  done_back (Ok d) = refl
  done_back (Err e) = ap Err (numbered_as e)

  reply_back : (v : Result Facts Refusal) → reply_by (replied v t rows r) ≡ v
  reply_back (Ok v) = refl
  reply_back (Err e) = ap Err (numbered_as e)

  -- what is left of buffers and roster is in the change, refused or not
  settled_leaves : (v : Result Done Refusal) → (settled v t rows r).state ≡ state_over t rows r
  settled_leaves (Ok d) = refl
  settled_leaves (Err e) = refl

  replied_leaves : (v : Result Facts Refusal) → (replied v t rows r).state ≡ state_over t rows r
  replied_leaves (Ok v) = refl
  replied_leaves (Err e) = refl

-- for every function of `changes` that may refuse
pub record SameDone (v v' : Result Done Refusal) (t t' : List ℕ) (ns ns' : Rows) (r r' : Roster) : Type 0 where
  pub result : v ≡ v'
  pub table : t ≡ t'
  pub rows : ns ≡ ns'
  pub roster : r ≡ r'

pub done_unique : (v v' : Result Done Refusal) (t t' : List ℕ) (rows rows' : Rows) (r r' : Roster) (c : Change)
    → settled v t rows r ≡ c → settled v' t' rows' r' ≡ c → SameDone v v' t t' rows rows' r r'
done_unique v v' t t' rows rows' r r' c p q =
    let e : settled v t rows r ≡ settled v' t' rows' r' = p ∙ sym q in
    let st : state_over t rows r ≡ state_over t' rows' r' =
    sym (settled_leaves t rows r v) ∙ ap (λ (k : Change). k.state) e ∙ settled_leaves t' rows' r' v' in
    record {
      result = sym (done_back t rows r v) ∙ ap done_by e ∙ done_back t' rows' r' v';
      table = λ i. (st i).table;
      rows = λ i. rows_of (st i);
      roster = λ i. (st i).roster;
    }

-- for `packets::packet`, which is lent no more than the table to write
pub record SameReply (v v' : Result Facts Refusal) (t t' : List ℕ) : Type 0 where
  pub reply : v ≡ v'
  pub table : t ≡ t'

pub reply_unique : (v v' : Result Facts Refusal) (t t' : List ℕ) (rows : Rows) (r : Roster) (c : Change)
    → replied v t rows r ≡ c → replied v' t' rows r ≡ c → SameReply v v' t t'
reply_unique v v' t t' rows r c p q =
    let e : replied v t rows r ≡ replied v' t' rows r = p ∙ sym q in
    let st : state_over t rows r ≡ state_over t' rows r =
    sym (replied_leaves t rows r v) ∙ ap (λ (k : Change). k.state) e ∙ replied_leaves t' rows r v' in
    record {
      reply = sym (reply_back t rows r v) ∙ ap reply_by e ∙ reply_back t' rows r v';
      table = λ i. (st i).table;
    }

-- for `changes::end`, which never refuses
pub served_unique : (v v' : Facts) (t t' : List ℕ) (rows : Rows) (r : Roster) (c : Change)
    → served v t rows r ≡ c → served v' t' rows r ≡ c → (v ≡ v') × (t ≡ t')
served_unique v v' t t' rows r c p q =
    let e : served v t rows r ≡ served v' t' rows r = p ∙ sym q in (
      ap facts_by e,
      ap (λ (k : Change). k.state.table) e,
    )

-- for the function of this crate, which touches no buffer: of its contract
pub taken_unique : (κs : _) (a : _) (v v' : Done) (e e' : _) → taken-promise κs a v e → taken-promise κs a v' e' → v ≡ v'
taken_unique κs a v v' e e' p q =
    let h : done_as v [] none empty_roster ≡ done_as v' [] none empty_roster = p [] none empty_roster ∙ sym (q [] none empty_roster) in
    λ i. record { facts = facts_by (h i); redraw = (h i).redraw }

-- and the numbers of a reply
same_numbers : (a : Answer) (x y : ReplyNumbers) → NumbersOf a x → NumbersOf a y → x ≡ y
same_numbers a x y p q =
    λ i. record {
      refusal = (p.refusal ∙ sym q.refusal) i;
      server = (p.server ∙ sym q.server) i;
      mark = (p.mark ∙ sym q.mark) i;
      reads = (p.reads ∙ sym q.reads) i;
    }

pub numbers_unique : (κs : _) (a : _) (x y : ReplyNumbers) (e e' : _) → numbers-promise κs a x e → numbers-promise κs a y e' → x ≡ y
numbers_unique κs a x y e e' p q = same_numbers _ x y p q

-- and the reply of an accepted event's facts
pub reply_of_facts_unique : (κs : _) (a : _) (x y : Reply) (e e' : _) → of-facts-promise κs a x e → of-facts-promise κs a y e' → x ≡ y
reply_of_facts_unique κs a x y e e' p q = p ∙ sym q

-- a reaction that refuses by a number, or that gives a reply to a packet or an end, is fixed by that: the roster stays, the ring isn't drawn
pub refused_unique : (number : ℕ) (r : Roster) (v v' : Reaction)
    → ((t : List ℕ) (rows : Rows) → reacted v t rows ≡ refused number (state_over t rows r))
    → ((t : List ℕ) (rows : Rows) → reacted v' t rows ≡ refused number (state_over t rows r)) → v ≡ v'
refused_unique number r v v' p q = (reaction_unique v v' [] [] none none _ (p [] none) (q [] none)).reaction

pub stays_unique : (reply : Reply) (r : Roster) (v v' : Reaction)
    → ((t : List ℕ) (rows : Rows) → reacted v t rows ≡ record { answer = answer_of reply; state = state_over t rows r; redraw = false })
    → ((t : List ℕ) (rows : Rows) → reacted v' t rows ≡ record { answer = answer_of reply; state = state_over t rows r; redraw = false }) → v ≡ v'
stays_unique reply r v v' p q = (reaction_unique v v' [] [] none none _ (p [] none) (q [] none)).reaction
