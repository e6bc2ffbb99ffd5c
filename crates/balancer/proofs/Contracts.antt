-- What the contracts of `event` and of `start` say is `EventPromise` and `StartPromise`, and nothing else: a contract that says less fails
-- here. That these leave no second answer is `event_unique` and `start_unique` of the crate `rules`; demands 1, 2 and 3 are stated of them too.
use mathlib.Core.Path.{◌≡◌, refl}
use seplogic.Ra.Ura.{Ura}
use base.Logic.{SProp}
use prog.Memory.{Memory}
use prog.Routine.{Routine}
use types.Logic.{Logic}
use contract.Monad.{Fun, fact}
use denote.Triple.Entry.{Args}
use denote.Triple.Clauses.{AtExit}
use Rattle.rules.specs.declared.Outcome.{Outcome}
use Rattle.rules.specs.Rules.{world_with, EventPromise, StartPromise}
use Rattle.balancer.specs.contracts.event as event
use Rattle.balancer.specs.contracts.start as start

-- x is what the arguments are, y what was lent as it is afterwards
module _ {M : Type 1} {𝓤 : Ura M} (𝓛 : Logic 𝓤) (mem : Memory → SProp 𝓤) (run : Routine → Fun 𝓤) where
  pub event_says : (κs : _) (x : Args event.signature κs) (o : Outcome) (y : AtExit event.ended κs)
      → (event.clauses 𝓛 mem run κs x).ensures tt o y
      ≡ fact 𝓤 (EventPromise x.0.now
      (world_with x.1.0.now x.1.1.0.now x.1.1.1.0.now x.1.1.1.1.0.now x.1.1.1.1.1.0)
      (world_with y.1.0.now y.1.1.0.now y.1.1.1.0.now y.1.1.1.1.0.now o.roster) o.reply)
  event_says κs x o y = refl

  pub start_says : (κs : _) (x : Args start.signature κs) (o : Outcome) (y : AtExit start.ended κs)
      → (start.clauses 𝓛 mem run κs x).ensures tt o y
      ≡ fact 𝓤 (StartPromise
      (world_with x.0.now x.1.0.now x.1.1.0.now x.1.1.1.0.now x.1.1.1.1.0)
      (world_with y.0.now x.1.0.now x.1.1.0.now x.1.1.1.0.now o.roster) o.reply)
  start_says κs x o y = refl
