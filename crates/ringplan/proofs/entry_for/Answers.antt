use mathlib.Core.Path.{◌∙◌}
use Rattle.ringplan.proofs.Keys.{contains_server, entry_own, entry_away, entry_alone}
use Rattle.ringplan.proofs.entry_for.Goals as goal

pub returns-then-contains : goal.returns-then-contains
returns-then-contains c w s f h q k =
    entry_own w s h c.args.key k c.position_of-position.result c.position_of-position.ensures c.server_of.result c.server_of.ensures
    (contains_server s w c.args.working.now c.args.key _ h f q k c.contains.ensures.value ∙ c.if-contains.true)

pub returns-in-Some : goal.returns-in-Some
returns-in-Some c w s f h q k =
    entry_away w s h c.args.key k c.position_of-position.result c.position_of-position.ensures c.in-Some.best (c.in-Some.ensures w f q)
    (contains_server s w c.args.working.now c.args.key _ h f q k c.contains.ensures.value ∙ c.if-contains.false)

pub returns-in-None : goal.returns-in-None
returns-in-None c w s f h q k =
    entry_alone w s h c.args.key k c.position_of-position.result c.position_of-position.ensures (c.in-None.ensures w f q)
    (contains_server s w c.args.working.now c.args.key _ h f q k c.contains.ensures.value ∙ c.if-contains.false)
