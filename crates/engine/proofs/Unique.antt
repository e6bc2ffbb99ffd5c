-- No second answer satisfies a promise of this crate: stated of the contracts.
use Prim.Native.Nat.{ℕ}
use mathlib.Core.Bool.{cond}
use mathlib.Core.List.{List}
use mathlib.Core.Path.{◌≡◌, refl, sym, ap, ◌∙◌}
use lib.Dec.{eqb}
use Rattle.std.specs.Prelude.{Result, Ok, Err}
use Rattle.event.specs.declared.Event.{Event}
use Rattle.event.specs.declared.Event.TheVariants.{Packet, End, AddWorking, RemoveWorking, AddHorizon, RemoveHorizon, Configure}
use Rattle.event.specs.Event.{Request}
use lib.ListN.{replicate, length-replicate}
use Rattle.table.proofs.Unique.{told_apart as found-apart}
use Rattle.ring.specs.declared.Entry.{Entry}
use Rattle.ring.specs.Ring.{blank}
use Rattle.rows.specs.Lent.{rows_in}
use Rattle.rules.specs.declared.Outcome.{Outcome}
use Rattle.rules.specs.declared.RefusedBy.{RefusedBy}
use Rattle.rules.specs.Rules.{World}
use Rattle.rules.proofs.Unique.{start_unique}
use Rattle.answers.specs.declared.Reaction.{Reaction}
use Rattle.answers.proofs.Unique.{SameReaction, reaction_unique}
use Rattle.engine.specs.declared.Lookup.{Lookup}
use Rattle.engine.specs.Looking.{LookupFacts, asked_in, lookup_facts}
use Rattle.engine.proofs.look.Reads.{Learnt as look-promise}
use Rattle.engine.proofs.react.Reads.{Learnt as react-promise}
use Rattle.engine.proofs.begin.Reads.{Learnt as begin-promise}
use Rattle.engine.proofs.plan_of.Reads.{Learnt as plan-of-promise}

-- the event, by the request's kind number; else the number that refuses it
abbrev asked_back : Request → Result Event RefusedBy
asked_back a =
    cond (eqb a.kind 1) (Ok (Packet a.key))
    (cond (eqb a.kind 2) (Ok (End a.key))
    (cond (eqb a.kind 3) (Ok (AddWorking a.server))
    (cond (eqb a.kind 4) (Ok (RemoveWorking a.server))
    (cond (eqb a.kind 5) (Ok (AddHorizon a.server))
    (cond (eqb a.kind 6) (Ok (RemoveHorizon a.server))
    (cond (eqb a.kind 7) (Ok (Configure a.settings)) (Err (record { number = a.refusal }))))))))

asked_back_as : (x : Result Event RefusedBy) → asked_back (asked_in x) ≡ x
asked_back_as (Ok (Packet k)) = refl
asked_back_as (Ok (End k)) = refl
asked_back_as (Ok (AddWorking s)) = refl
asked_back_as (Ok (RemoveWorking s)) = refl
asked_back_as (Ok (AddHorizon s)) = refl
asked_back_as (Ok (RemoveHorizon s)) = refl
asked_back_as (Ok (Configure c)) = refl
asked_back_as (Err r) = refl

event_apart : (x y : Result Event RefusedBy) → asked_in x ≡ asked_in y → x ≡ y
event_apart x y e = sym (asked_back_as x) ∙ ap asked_back e ∙ asked_back_as y

facts_apart : (s s' : Lookup) → lookup_facts s ≡ lookup_facts s' → s ≡ s'
facts_apart s s' e = λ i. record {
  event = event_apart s.event s'.event (ap (λ (x : LookupFacts). x.request) e) i;
  found = found-apart s.found s'.found (ap (λ (x : LookupFacts). x.found) e) i;
  f = (e i).f;
  places = (e i).places;
  sized = (e i).sized;
}

pub look_unique : (κs : _) (a : _) (s s' : Lookup) (e e' : _) → look-promise κs a s e → look-promise κs a s' e' → s ≡ s'
look_unique κs a s s' e e' p q = facts_apart s s' (p ∙ sym q)

pub plan_of_unique : (κs : _) (a : _) (x y : List Entry) (e e' : _) → plan-of-promise κs a x e → plan-of-promise κs a y e' → x ≡ y
plan_of_unique κs a x y e e' p q = p ∙ sym q

pub react_unique : (κs : _) (a : _) (v v' : Reaction) (e e' : _) → react-promise κs a v e → react-promise κs a v' e'
    → SameReaction v v' e.1.1.0.now e'.1.1.0.now (rows_in e.1.1.1.0.now) (rows_in e'.1.1.1.0.now)
react_unique κs a v v' e e' p q = reaction_unique v v' _ _ _ _ _ p.1 q.1

-- some lists of the lengths that are lent
pub begin_unique : (κs : _) (a : _) (o o' : Outcome) (e e' : _) → begin-promise κs a o e → begin-promise κs a o' e'
    → (o ≡ o') × (e.0.now ≡ e'.0.now)
begin_unique κs a o o' e e' p q =
    let ns : List ℕ = replicate a.1.0 0 in
    let fs : List ℕ = replicate a.1.1.0 0 in
    let es : List Entry = replicate a.1.1.1.0 blank in
    let (x, y) = start_unique _ _ o.reply o'.reply _
    (p ns fs es (length-replicate _ 0) (length-replicate _ 0) (length-replicate _ blank))
    (q ns fs es (length-replicate _ 0) (length-replicate _ 0) (length-replicate _ blank)) in
    (λ i. record { reply = x i; roster = (y i).state.roster }, ap (λ (w : World). w.state.table) y)
