-- Answers that come to the same numbers are the same.
use Rattle.std.proofs.Common.{◌≡◌, ℕ, cond, eqb, Option, Some, None, refl, sym, ap, ◌∙◌}
use Rattle.pcap.specs.declared.Refusal.{Refusal}
use Rattle.pcap.specs.declared.Refusal.TheVariants.{BadMagic, TruncatedHeader, TruncatedRecord}
use Rattle.pcap.specs.Captures.{Said, Event, Skipped, Finished, Refused}
use Rattle.pcap.proofs.Answered.{refusal_by, number_back}
use Rattle.pieces.specs.declared.Stop.{Stop}
use Rattle.pieces.specs.declared.Stop.TheVariants.{Full as full-stop, Finished as end-stop, Refused as refusal-stop}
use Rattle.pieces.specs.declared.LastSaid.{LastSaid}
use Rattle.pieces.specs.declared.LastSaid.TheVariants.{Event as last-event, Skipped as last-skipped, Finished as last-finished, Refused as last-refused}
use Rattle.pieces.specs.declared.Filled.{Filled as Put}
use Rattle.pieces.specs.declared.Stream.{Stream as Coming}
use Rattle.pieces.specs.declared.Advanced.{Advanced as Onward}
use Rattle.pieces.specs.declared.Ending.{Ending as Refused-at}
use Rattle.pieces.specs.Pieces.{Filled, stop_said, last_of, filled_of}
use Rattle.pieces.specs.Streams.{Stream, Advanced, Ending, stream_of, advanced_of, ending_of}

abbrev stop_by : Said → Stop
stop_by Event = full-stop
stop_by (Skipped why) = full-stop
stop_by Finished = end-stop
stop_by (Refused n) = refusal-stop (refusal_by n)

stop_back : (x : Stop) → stop_by (stop_said x) ≡ x
stop_back full-stop = refl
stop_back end-stop = refl
stop_back (refusal-stop r) = ap refusal-stop (number_back r)

abbrev put_by : Filled → Put
put_by d = record { stop = stop_by d.said; at = d.at; tally = d.tally; filled = d.filled }

put_back : (x : Put) → put_by (filled_of x) ≡ x
put_back x = ap (λ (s : Stop). record { stop = s; at = x.at; tally = x.tally; filled = x.filled }) (stop_back x.stop)

pub filled_one : (x y : Put) → filled_of x ≡ filled_of y → x ≡ y
filled_one x y e = sym (put_back x) ∙ ap put_by e ∙ put_back y

abbrev last_by : Said → LastSaid
last_by Event = last-event
last_by (Skipped why) = last-skipped why
last_by Finished = last-finished
last_by (Refused n) = last-refused n

last_back : (x : LastSaid) → last_by (last_of x) ≡ x
last_back last-event = refl
last_back (last-skipped why) = refl
last_back last-finished = refl
last_back (last-refused n) = refl

pub last_one : (x y : LastSaid) → last_of x ≡ last_of y → x ≡ y
last_one x y e = sym (last_back x) ∙ ap last_by e ∙ last_back y

abbrev stream_by : Stream → Coming
stream_by s = record { have = s.have; pass = s.pass; longer = s.longer; before = s.before; tally = s.tally; said = last_by s.said }

stream_back : (x : Coming) → stream_by (stream_of x) ≡ x
stream_back x =
    ap (λ (s : LastSaid). record { have = x.have; pass = x.pass; longer = x.longer; before = x.before; tally = x.tally; said = s }) (last_back x.said)

pub stream_one : (x y : Coming) → stream_of x ≡ stream_of y → x ≡ y
stream_one x y e = sym (stream_back x) ∙ ap stream_by e ∙ stream_back y

abbrev onward_by : Advanced → Onward
onward_by a = record { stream = stream_by a.stream; filled = a.filled }

onward_back : (x : Onward) → onward_by (advanced_of x) ≡ x
onward_back x = ap (λ (s : Coming). record { stream = s; filled = x.filled }) (stream_back x.stream)

pub advanced_one : (x y : Onward) → advanced_of x ≡ advanced_of y → x ≡ y
advanced_one x y e = sym (onward_back x) ∙ ap onward_by e ∙ onward_back y

abbrev ending_by : Ending → Option Refused-at
ending_by e = cond (eqb e.refusal 0) None (Some (record { refusal = refusal_by e.refusal; at = e.at }))

ending_by_case : (r : Refusal) (at : ℕ) → ending_by (ending_of (Some (record { refusal = r; at = at }))) ≡ Some (record { refusal = r; at = at })
ending_by_case BadMagic at = refl
ending_by_case TruncatedHeader at = refl
ending_by_case TruncatedRecord at = refl

ending_back : (x : Option Refused-at) → ending_by (ending_of x) ≡ x
ending_back None = refl
ending_back (Some e) = ending_by_case e.refusal e.at

pub ending_one : (x y : Option Refused-at) → ending_of x ≡ ending_of y → x ≡ y
ending_one x y e = sym (ending_back x) ∙ ap ending_by e ∙ ending_back y
