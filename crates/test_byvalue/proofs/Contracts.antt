-- What the contracts of this crate say is the balancer's own promises, with the ring by value; `event_unique` and `start_unique` of the crate
-- `rules` say that these leave no second answer.
use mathlib.Core.Path.{◌≡◌, refl}
use seplogic.Ra.Ura.{Ura}
use base.Logic.{SProp}
use prog.Memory.{Memory}
use prog.Routine.{Routine}
use types.Logic.{Logic}
use contract.Monad.{Fun, fact}
use lib.ListN.{replicate}
use denote.Triple.Entry.{Args}
use denote.Triple.Clauses.{AtExit}
use Rattle.ring.specs.Ring.{blank}
use Rattle.rules.specs.declared.Outcome.{Outcome}
use Rattle.rules.specs.Rules.{world_with, EventPromise, StartPromise}
use Rattle.test_byvalue.specs.declared.Tried.{Tried}
use Rattle.test_byvalue.specs.contracts.event as event
use Rattle.test_byvalue.specs.contracts.start as start
use Rattle.test_byvalue.specs.contracts.event_short as short

-- x is what the arguments are, y what was lent as it is afterwards
module _ {M : Type 1} {𝓤 : Ura M} (𝓛 : Logic 𝓤) (mem : Memory → SProp 𝓤) (run : Routine → Fun 𝓤) where
  pub event_says : (κs : _) (x : Args event.signature κs) (v : Tried) (y : AtExit event.ended κs)
      → (event.clauses 𝓛 mem run κs x).ensures tt v y
      ≡ fact 𝓤 (EventPromise x.0.now
      (world_with x.1.0.now x.1.1.0.now x.1.1.1.0.now x.1.1.1.1.0 x.1.1.1.1.1.0)
      (world_with y.1.0.now y.1.1.0.now y.1.1.1.0.now v.ring v.outcome.roster) v.outcome.reply)
  event_says κs x v y = refl

  pub start_says : (κs : _) (x : Args start.signature κs) (o : Outcome) (y : AtExit start.ended κs)
      → (start.clauses 𝓛 mem run κs x).ensures tt o y
      ≡ fact 𝓤 (StartPromise
      (world_with x.0.now x.1.0.now x.1.1.0.now x.1.1.1.0 x.1.1.1.1.0)
      (world_with y.0.now x.1.0.now x.1.1.0.now x.1.1.1.0 o.roster) o.reply)
  start_says κs x o y = refl

  pub short_says : (κs : _) (x : Args short.signature κs) (o : Outcome) (y : AtExit short.ended κs)
      → (short.clauses 𝓛 mem run κs x).ensures tt o y
      ≡ fact 𝓤 (EventPromise x.0.now
      (world_with x.1.0.now x.1.1.0.now x.1.1.1.0.now (replicate 63 blank) x.1.1.1.1.0)
      (world_with y.1.0.now y.1.1.0.now y.1.1.1.0.now (replicate 63 blank) o.roster) o.reply)
  short_says κs x o y = refl
