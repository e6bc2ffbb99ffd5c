-- `engine::look` meets its contract.
use mathlib.Core.Bool.{Bool}
use mathlib.Core.Path.{◌∙◌, ap}
use Rattle.event.specs.Event.{Request, event_in}
use Rattle.engine.specs.Looking.{look_of}
use Rattle.engine.proofs.look.Goals as goal

pub returns : goal.returns
returns c =
    let p = c.args in
    c.seek.ensures
    ∙ ap (λ (e : Request). look_of c.sizes_right-sized.result e p.table.now p.roster) c.read.ensures
    ∙ ap (λ (b : Bool). look_of b (event_in p.bytes.now) p.table.now p.roster) c.sizes_right-sized.ensures
