-- How the engine is cut, so that it never sees the ring: what a look at the record finds before the ring is read, the reaction to it, and
-- the ring drawn for the roster that the reaction hands back. `event_of` is put together from these (proofs/Whole.antt); no statement cites them.
use Rattle.std.specs.Prelude.{ℕ, Bool, true, false, cond, not, List, Option, Some, None, Result, Ok, Err, eqb}
use Rattle.hash.specs.Hash.{F}
use Rattle.roster.specs.declared.Roster.{Roster}
use Rattle.roster.specs.Roster.{sound, held_servers, working_set}
use Rattle.event.specs.declared.Event.{Event}
use Rattle.event.specs.Event.{Request, refused_by, request_by, packet_kind, end_kind}
use Rattle.settings.specs.Settings.{by_ring}
use Rattle.table.specs.Table.{Finding, find, finding_of}
use Rattle.ring.specs.declared.Entry.{Entry}
use Rattle.ring.specs.Ring.{overlaid}
use Rattle.ringplan.specs.Plan.{planned}
use Rattle.engine.specs.declared.Lookup.{Lookup}
use Rattle.rules.specs.declared.RefusedBy.{RefusedBy}
use Rattle.rules.specs.Rules.{State, Change, is, lent_bar, admitted, judged, pick_by}

-- the event, the key's record, F of the key, how many ring entries are to be searched, and whether what is lent has its lengths (9)
pub record LookupFacts : Type 0 where
  pub request : Request
  pub found : Finding
  pub f : ℕ
  pub places : ℕ
  pub sized : Bool

-- what a look has of the event: it, or a number that refuses it, in the document's numbers
abbrev pub asked_in : Result Event RefusedBy → Request
asked_in (Ok e) = request_by e
asked_in (Err r) = refused_by r.number

abbrev pub lookup_facts : Lookup → LookupFacts
lookup_facts s = record { request = asked_in s.event; found = finding_of s.found; f = s.f; places = s.places; sized = s.sized }

abbrev pub nothing_found : Finding
nothing_found = record { found = false; reads = 0 }

-- only packets and ends look for a record
abbrev pub found_by : Request → List ℕ → Finding
found_by e t = cond (is packet_kind e) (find e.key t) (cond (is end_kind e) (find e.key t) nothing_found)

-- only a packet without a record needs F of its key, and of the ring's entries those in use under method 2
abbrev pub unrecorded : Request → List ℕ → Bool
unrecorded e t = cond (is packet_kind e) (not (find e.key t).found) false

unfoldable pub look_of : Bool → Request → List ℕ → Roster → LookupFacts
look_of sized e t r =
    record {
      request = e;
      found = found_by e t;
      f = cond (unrecorded e t) (F e.key) 0;
      places = cond (unrecorded e t) (cond (eqb r.settings.method by_ring) r.held 0) 0;
      sized = sized;
    }

-- the key of a packet or an end
abbrev pub key_asked : Request → Option (List ℕ)
key_asked e = cond (is packet_kind e) (Some e.key) (cond (is end_kind e) (Some e.key) None)

-- refusals 9 and 11 before anything is done; a packet's 11 is left to the packet
unfoldable pub admitted_so_far : Bool → Bool → Request → Request
admitted_so_far sized roster_sound e = admitted (lent_bar sized (cond (is packet_kind e) true roster_sound)) e

-- an event that was admitted so far: only a packet's 11 is still to be tested
abbrev pub settle_of : Request → Lookup → Entry → State → Change
settle_of e l spot st =
    judged
    (cond (is packet_kind e) (admitted (lent_bar true (sound st.roster)) e) e)
    (finding_of l.found)
    (pick_by l.f spot st)
    st

-- a reaction to what a look found and to the ring's entry read: the event admitted (refusals 9 and 11) and judged
abbrev pub react_of : Lookup → Entry → State → Change
react_of l spot st =
    judged (admitted (lent_bar l.sized (sound st.roster)) (asked_in l.event)) (finding_of l.found) (pick_by l.f spot st) st

-- the ring drawn anew for a roster, where that is wanted
unfoldable pub redrawn : Bool → Roster → List Entry → List Entry
redrawn wanted r es = cond wanted (overlaid (planned (held_servers r) (working_set r)) r.held es) es
