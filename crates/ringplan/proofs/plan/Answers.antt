use mathlib.Core.Path.{ap}
use native.Mathlib.Omega.{arith}
use lib.ListN.{replicate}
use Rattle.sets.specs.Sets.{in_state}
use Rattle.ring.specs.declared.Entry.{Entry}
use Rattle.ringplan.proofs.Planning.{as_many, laid_more, laid_done, entry_blank, planned-none}
use borrow.Author.Rules.{rules}
use Rattle.ringplan.proofs.plan.Goals as goal

pub bounds-plan-i : goal.bounds-plan-i
bounds-plan-i c = omega (arith, as_many c.args.movers.servers.now c.arrange-order.result.now c.arrange-order.ensures.keys)

pub loop-i-preserved : goal.loop-i-preserved
loop-i-preserved c =
    let p = c.args in (
      search rules,
      laid_more p.movers.servers.now p.movers.states.now c.arrange-order.result.now c.working-working.result.now c.loop-i.plan c.loop-i.i c.entry_for.result
          c.if-movers-le-MOST_SERVERS.true c.loop-i-test.true c.arrange-order.ensures.fit c.arrange-order.ensures.keys c.working-working.ensures
          c.entry_for.ensures c.loop-i.invariant.1,
    )

pub returns-after-loop-i : goal.returns-after-loop-i
returns-after-loop-i c =
    let p = c.args in
    laid_done p.movers.servers.now (in_state 1 p.movers.servers.now p.movers.states.now) c.loop-i.plan c.loop-i.i c.if-movers-le-MOST_SERVERS.true
    (omega (arith, as_many p.movers.servers.now c.arrange-order.result.now c.arrange-order.ensures.keys)) c.loop-i.invariant.1

pub returns-else-movers-le-MOST_SERVERS : goal.returns-else-movers-le-MOST_SERVERS
returns-else-movers-le-MOST_SERVERS c =
    let p = c.args in
    let e = c.default-plan.ensures in
    let zeros = entry_blank c.default-plan.result e.0 e.1.0 e.1.1 in
    planned-none p.movers.servers.now (in_state 1 p.movers.servers.now p.movers.states.now) _ (omega arith) (ap (λ (e : Entry). replicate 64 e) zeros)
