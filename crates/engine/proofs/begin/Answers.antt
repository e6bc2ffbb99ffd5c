-- `engine::begin` meets its contract.
use mathlib.Core.Path.{sym, ◌∙◌}
use Rattle.rules.specs.Rules.{start_of}
use Rattle.engine.proofs.begin.Goals as goal

pub returns-then-not-sizes_right : goal.returns-then-not-sizes_right
unfolding start_of
returns-then-not-sizes_right c ns fs es p q r = rw (p, q, r, sym c.sizes_right.ensures ∙ c.if-not-sizes_right.true, c.into.ensures)

pub returns : goal.returns
unfolding start_of
returns c ns fs es p q r =
    rw (
      p,
      q,
      r,
      sym c.sizes_right.ensures ∙ c.if-not-sizes_right.false,
      c.start.ensures,
      c.empty.ensures,
      c.into-2.ensures,
      c.default.ensures.0,
      c.default.ensures.1.0,
      c.default.ensures.1.1,
    )
