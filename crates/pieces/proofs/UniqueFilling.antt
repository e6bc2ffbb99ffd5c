-- No second answer keeps the promise of `fill_events`: two answers, and two buffers, of which its contract holds are equal.
use Rattle.std.proofs.Common.{◌≡◌, sym, ◌∙◌}
use seplogic.Ra.Ura.{Ura}
use base.Logic.{SProp, ent}
use prog.Memory.{Memory}
use prog.Routine.{Routine}
use types.Logic.{Logic}
use contract.Monad.{Fun, conj, fact}
use denote.Triple.Clauses.{Clauses}
use Rattle.walks.proofs.Facts.{follow_two}
use Rattle.pieces.specs.declared.Filled.{Filled}
use Rattle.pieces.proofs.Stops.{filled_one}
use Rattle.pieces.specs.contracts.fill.fill_events as fill-events

module _ {M : Type 1} {𝓤 : Ura M} (𝓛 : Logic 𝓤) (mem : Memory → SProp 𝓤) (run : Routine → Fun 𝓤) where
  abbrev fills : Clauses 𝓤 fill-events.ended
  fills = fill-events.clauses 𝓛 mem run

  pub fill_events_unique : (κs : _) (a : _) (x y : Filled) (e e' : _) → ent 𝓤 (conj 𝓤 ((fills κs a).ensures tt x e) ((fills κs a).ensures tt y e'))
      (fact 𝓤 ((x ≡ y) × (e.1.1.1.0.now ≡ e'.1.1.1.0.now)))
  fill_events_unique κs a x y e e' = follow_two 𝓤 _ _ _ _ _ (λ p p' q q'. (filled_one x y (p ∙ sym q), p' ∙ sym q'))
