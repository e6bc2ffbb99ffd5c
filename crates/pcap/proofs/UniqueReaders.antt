-- No second answer satisfies a promise about a reader: two readers of which the contract of `open` or of `moved` holds, for the same
-- arguments, are equal; so are two answers of which that of `next` holds.
use Rattle.std.proofs.Common.{◌≡◌, ℕ, List, sym, ◌∙◌, Bor}
use seplogic.Ra.Ura.{Ura}
use base.Logic.{SProp, ent}
use prog.Memory.{Memory}
use prog.Routine.{Routine}
use types.Logic.{Logic}
use contract.Monad.{Fun, conj, fact}
use denote.Triple.Clauses.{Clauses}
use Rattle.walks.proofs.Facts.{follows}
use Rattle.pcap.specs.declared.Reader.{Reader}
use Rattle.pcap.specs.declared.Step.{Step}
use Rattle.pcap.specs.declared.Tally.{Tally}
use Rattle.pcap.specs.contracts.open as opening
use Rattle.pcap.specs.contracts.moved as moved
use Rattle.pcap.specs.contracts.next as next
use Rattle.pcap.proofs.Answered.{step_one}

-- readers of the same bytes, place and tally are equal
same_reader : (r d : Reader) → (r.bytes ≡ d.bytes) × ((r.at ≡ d.at) × (r.tally ≡ d.tally)) → r ≡ d
same_reader r d e = λ i. record { bytes = e.0 i; at = e.1.0 i; tally = e.1.1 i }

one_reader : (x y : Reader) {b : Bor (List ℕ)} {n : ℕ} {t : Tally} → (x.bytes ≡ b) × ((x.at ≡ n) × (x.tally ≡ t))
    → (y.bytes ≡ b) × ((y.at ≡ n) × (y.tally ≡ t)) → x ≡ y
one_reader x y p q = same_reader x y (p.0 ∙ sym q.0, (p.1.0 ∙ sym q.1.0, p.1.1 ∙ sym q.1.1))

module _ {M : Type 1} {𝓤 : Ura M} (𝓛 : Logic 𝓤) (mem : Memory → SProp 𝓤) (run : Routine → Fun 𝓤) where
  abbrev opens : Clauses 𝓤 opening.ended
  opens = opening.clauses 𝓛 mem run

  abbrev moves : Clauses 𝓤 moved.ended
  moves = moved.clauses 𝓛 mem run

  abbrev nexts : Clauses 𝓤 next.ended
  nexts = next.clauses 𝓛 mem run

  pub open_unique : (κs : _) (a : _) (x y : Reader) (e e' : _) → ent 𝓤 (conj 𝓤 ((opens κs a).ensures tt x e) ((opens κs a).ensures tt y e'))
      (fact 𝓤 (x ≡ y))
  open_unique κs a x y e e' = follows 𝓤 _ _ _ (one_reader x y)

  pub moved_unique : (κs : _) (a : _) (x y : Reader) (e e' : _) → ent 𝓤 (conj 𝓤 ((moves κs a).ensures tt x e) ((moves κs a).ensures tt y e'))
      (fact 𝓤 (x ≡ y))
  moved_unique κs a x y e e' = follows 𝓤 _ _ _ (one_reader x y)

  pub next_unique : (κs : _) (a : _) (x y : Step) (e e' : _) → ent 𝓤 (conj 𝓤 ((nexts κs a).ensures tt x e) ((nexts κs a).ensures tt y e'))
      (fact 𝓤 (x ≡ y))
  next_unique κs a x y e e' = follows 𝓤 _ _ _ (λ p q. step_one x y (p ∙ sym q))
