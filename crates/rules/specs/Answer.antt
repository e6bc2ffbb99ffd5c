-- Document 01: "A reply is either the accepted facts or a refusal number." The answer in the document's numbers, for each of its cases.
use Rattle.std.specs.Prelude.{ℕ, Bool, true, false}
use Rattle.rules.specs.declared.Reply.{Reply}
use Rattle.rules.specs.declared.Reply.TheVariants.{Accepted, Refused}
use Rattle.rules.specs.declared.Refusal.{Refusal}
use Rattle.rules.specs.declared.Refusal.TheVariants.{WrongLengths, UnsoundRoster, Malformed, ServerZero, NotEmpty, HeldAlready, RosterFull, NotInHorizon, NotWorking, NoneWorking, LedToIdle}

-- "A refusal returns its number, server 0, mark 0, reads 0"; an accepted event has refusal 0
pub record Answer : Type 0 where
  pub accepted : Bool
  pub refusal : ℕ
  pub server : ℕ
  pub mark : ℕ
  pub reads : ℕ

abbrev pub accepts : ℕ → ℕ → ℕ → Answer
accepts s mark reads = record { accepted = true; refusal = 0; server = s; mark = mark; reads = reads }

abbrev pub refuses : ℕ → Answer
refuses n = record { accepted = false; refusal = n; server = 0; mark = 0; reads = 0 }

abbrev pub answer_of : Reply → Answer
answer_of (Accepted s mark reads) = accepts s mark reads
answer_of (Refused n) = refuses n

-- "Refusal numbers": the table's first column, for each of its lines
abbrev pub number_of : Refusal → ℕ
number_of WrongLengths = 9
number_of UnsoundRoster = 11
number_of Malformed = 1
number_of ServerZero = 2
number_of NotEmpty = 10
number_of HeldAlready = 3
number_of RosterFull = 6
number_of NotInHorizon = 4
number_of NotWorking = 5
number_of NoneWorking = 7
number_of LedToIdle = 8

-- the marks of accepted packets and ends: "1 from the record, 2 chosen and safe, 3 chosen and recorded, 4 chosen, unsafe and no room; 5 record
-- removed, 6 nothing to remove"; and request [1]'s 8, at the "first end on a record"
abbrev pub from_record : ℕ
from_record = 1

abbrev pub chosen_safe : ℕ
chosen_safe = 2

abbrev pub chosen_recorded : ℕ
chosen_recorded = 3

abbrev pub no_room : ℕ
no_room = 4

abbrev pub record_removed : ℕ
record_removed = 5

abbrev pub nothing_to_remove : ℕ
nothing_to_remove = 6

abbrev pub record_half_closed : ℕ
record_half_closed = 8
