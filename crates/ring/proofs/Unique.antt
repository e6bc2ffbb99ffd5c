-- No second answer satisfies a promise of this crate: two results of which the contract of `read` holds, for the same arguments, are equal;
-- so are two rings at exit of which that of `draw` holds.
use mathlib.Core.Path.{◌≡◌, sym, ◌∙◌}
use seplogic.Ra.Ura.{Ura}
use base.Logic.{SProp, ent}
use prog.Memory.{Memory}
use prog.Routine.{Routine}
use types.Logic.{Logic}
use contract.Monad.{Fun, conj, fact}
use denote.Triple.Clauses.{Clauses}
use Rattle.walks.proofs.Facts.{follows}
use Rattle.ring.specs.declared.Entry.{Entry}
use Rattle.ring.specs.contracts.read as read
use Rattle.ring.specs.contracts.draw as draw

module _ {M : Type 1} {𝓤 : Ura M} (𝓛 : Logic 𝓤) (mem : Memory → SProp 𝓤) (run : Routine → Fun 𝓤) where
  abbrev reads : Clauses 𝓤 read.ended
  reads = read.clauses 𝓛 mem run

  abbrev draws : Clauses 𝓤 draw.ended
  draws = draw.clauses 𝓛 mem run

  pub read_unique : (κs : _) (a : _) (x y : Entry) (e e' : _) → ent 𝓤 (conj 𝓤 ((reads κs a).ensures tt x e) ((reads κs a).ensures tt y e')) (fact 𝓤 (x ≡ y))
  read_unique κs a x y e e' = follows 𝓤 _ _ _ (λ p q. p ∙ sym q)

  pub draw_unique : (κs : _) (a : _) (x y : _) (e e' : _) → ent 𝓤 (conj 𝓤 ((draws κs a).ensures tt x e) ((draws κs a).ensures tt y e')) (fact 𝓤 (e.0.now ≡ e'.0.now))
  draw_unique κs a x y e e' = follows 𝓤 _ _ _ (λ p q. p ∙ sym q)
