-- Each event of a capture is an event record that the balancer reads as a packet or an end of its key.
use Prim.Native.Nat.{ℕ}
use mathlib.Core.Bool.{Bool}
use mathlib.Core.List.{List, [], ◌∷◌, ◌++◌, map}
use mathlib.Core.Logic.{inl, inr}
use mathlib.Core.Path.{◌≡◌, refl}
use lib.Dec.{eqb}
use lib.ListN.{length}
use Rattle.sets.proofs.Cases.{both}
use Rattle.event.specs.Event.{packet_kind, end_kind}
use Rattle.event.proofs.Reading.{packet_reads, end_reads}
use Rattle.frames.specs.Frames.{Outcome, outcome, emitted}
use Rattle.pcap.specs.Captures.{ethernet, event_record, events_of, all_events, packets_in}
use Rattle.claims_captures.specs.Captured.{IsEvent, Every, EventsRead}
use Rattle.claims_captures.proofs.Reasons.{key_sized}

packet_event : (key : List ℕ) → length key ≡ 13 → IsEvent (event_record packet_kind key)
packet_event key n =
    record { kind = packet_kind; key = key; of_kind = inl refl; key_sized = n; sized = rw n; reads = packet_reads key n }

end_event : (key : List ℕ) → length key ≡ 13 → IsEvent (event_record end_kind key)
end_event key n = record { kind = end_kind; key = key; of_kind = inr refl; key_sized = n; sized = rw n; reads = end_reads key n }

every_append : (P : List ℕ → Type 0) (es gs : List (List ℕ)) → Every P es → Every P gs → Every P (es ++ gs)
every_append P [] gs h k = k
every_append P (e ∷ es) gs h k = (h.0, every_append P es gs h.1 k)

of_outcome : (o : Outcome) → length o.key ≡ 13 → Every IsEvent (events_of o)
of_outcome o n =
    both (eqb o.reason emitted) (λ e. rw e
    (packet_event o.key n, both o.fin (λ fin. rw fin (end_event o.key n, tt)) (λ fin. rw fin tt))) (λ e. rw e tt)

of_packets : (e : Bool) (ps : List (List ℕ)) → Every IsEvent (all_events (map (outcome e) ps))
unfolding all_events
of_packets e [] = tt
of_packets e (p ∷ ps) = every_append IsEvent (events_of (outcome e p)) _ (of_outcome (outcome e p) (key_sized e p)) (of_packets e ps)

pub events_read : EventsRead
events_read f = of_packets (ethernet f) (packets_in f)
