-- What a part of the engine hands back, together with the buffers that it leaves, as a change of the state.
use Rattle.std.specs.Prelude.{ℕ, false, List, Result, Ok, Err, ◌≡◌}
use Rattle.roster.specs.declared.Roster.{Roster}
use Rattle.rows.specs.Rows.{Rows}
use Rattle.rules.specs.declared.Refusal.{Refusal}
use Rattle.rules.specs.Answer.{Answer, accepts, answer_of, number_of}
use Rattle.rules.specs.Rules.{State, Change, state_with, refused}
use Rattle.answers.specs.declared.Done.{Done}
use Rattle.answers.specs.declared.Facts.{Facts}
use Rattle.answers.specs.declared.Reaction.{Reaction}
use Rattle.answers.specs.declared.ReplyNumbers.{ReplyNumbers}

-- a state whose rows and flags are one table
abbrev pub state_over : List ℕ → Rows → Roster → State
state_over t rows r = state_with t rows.servers rows.flags r

-- a reaction with the buffers that it leaves
abbrev pub reacted : Reaction → List ℕ → Rows → Change
reacted v t rows = record { answer = answer_of v.reply; state = state_over t rows v.roster; redraw = v.redraw }

-- what an accepted event comes to, with the buffers and the roster that it leaves; or the refusal, which leaves them as they were
abbrev pub done_as : Done → List ℕ → Rows → Roster → Change
done_as d t rows r =
    record { answer = accepts d.facts.server d.facts.mark d.facts.reads; state = state_over t rows r; redraw = d.redraw }

abbrev pub settled : Result Done Refusal → List ℕ → Rows → Roster → Change
settled (Ok d) t rows r = done_as d t rows r
settled (Err e) t rows r = refused (number_of e) (state_over t rows r)

-- the facts of an accepted packet or end alone: the ring isn't drawn; or the refusal
abbrev pub served : Facts → List ℕ → Rows → Roster → Change
served v t rows r = done_as (record { facts = v; redraw = false }) t rows r

abbrev pub replied : Result Facts Refusal → List ℕ → Rows → Roster → Change
replied (Ok v) t rows r = served v t rows r
replied (Err e) t rows r = refused (number_of e) (state_over t rows r)

-- a reply in numbers: all that an answer says but whether it was accepted, which its refusal tells
pub record NumbersOf (a : Answer) (n : ReplyNumbers) : Type 0 where
  pub refusal : n.refusal ≡ a.refusal
  pub server : n.server ≡ a.server
  pub mark : n.mark ≡ a.mark
  pub reads : n.reads ≡ a.reads
