use Prim.Native.Nat.{ℕ, min}
use mathlib.Core.Bool.{true, false}
use mathlib.Core.Path.{◌≡◌, sym, ◌∙◌}
use native.Mathlib.Omega.{arith}
use lib.ListN.{length}
use Rattle.hash.specs.Hash.{weight}
use Rattle.sets.specs.Sets.{in_state}
use Rattle.ranking.specs.Methods.{heavier, row_server, row_flag}
use Rattle.ranking.proofs.Loop.{search_found, search_missed, search_other, search_end}
use Rattle.rows.specs.Rows.{filled}
use Rattle.rows.proofs.Written.{written_none, written_more}
use Rattle.rows.proofs.Filling.{server_none, flag_none, server_some, flag_some, both_are}
use Rattle.rows.proofs.RowTable.fill.Goals as goal
use Rattle.rows.proofs.RowTable.fill.Goals.{in-Some+in-None, in-Some+in-Some-2+then-state-eq-STANDBY+then-heavier, in_default, else-state-eq-STANDBY-via-then-state-eq-STANDBY+else-heavier, else-state-eq-STANDBY-via-else-state-eq-STANDBY}

pub loop-r-init : goal.loop-r-init
loop-r-init c = (written_none _ _, written_none _ _)

pub search-preserved : goal.search-preserved
search-preserved c =
    let m : ℕ → ℕ = λ s. weight s c.loop-r.r in
    let b = c.in-Some.best in (
      elim c.else-state-eq-STANDBY.branch [
        | else-state-eq-STANDBY-via-then-state-eq-STANDBY+else-heavier w ↦
            search_missed heavier m b 2 c.search.standby-iterator c.next.new.self c.next.result c.next.ensures.steps _ c.search.invariant.0 _ c.in-Some-2.is w.if-state-eq-STANDBY.true (sym (rw w.weight.ensures at w.heavier.ensures) ∙ w.if-heavier.false)
        | else-state-eq-STANDBY-via-else-state-eq-STANDBY w ↦
            search_other heavier m b 2 c.search.standby-iterator c.next.new.self c.next.result c.next.ensures.steps _ c.search.invariant.0 _ c.in-Some-2.is w.if-state-eq-STANDBY.false
      ],
      c.search.invariant.1,
    )

pub loop-r-preserved : goal.loop-r-preserved
loop-r-preserved c =
    let p = c.args in
    let r = c.loop-r.r in
    let working = in_state 1 p.movers.servers.now p.movers.states.now in
    let horizon = in_state 2 p.movers.servers.now p.movers.states.now in
    let m : ℕ → ℕ = λ s. weight s r in
    -- where the ways through the search meet
    let met : (c.match-choose.server ≡ row_server working r) × (c.match-choose.flag ≡ row_flag working horizon r) =
    elim c.match-choose.branch [
      | in-Some+in-None w ↦
          let b = w.in-Some.best in
          let e = w.in-Some.ensures in (
            w.server-is ∙ server_some working horizon r b e,
            w.flag-is ∙ w.search.invariant.1 ∙ flag_some working horizon r b false e (search_end heavier m b 2 w.search.standby-iterator w.next.new.self w.next.result w.next.ensures.steps _ w.search.invariant.0 w.in-None.is),
          )
      | in-Some+in-Some-2+then-state-eq-STANDBY+then-heavier w ↦
          let b = w.in-Some.best in
          let e = w.in-Some.ensures in (
            w.server-is ∙ server_some working horizon r b e,
            w.flag-is ∙ flag_some working horizon r b true e (search_found heavier m b 2 w.search.standby-iterator w.next.new.self w.next.result w.next.ensures.steps _ w.search.invariant.0 _ w.in-Some-2.is w.if-state-eq-STANDBY.true (sym (rw w.weight.ensures at w.heavier.ensures) ∙ w.if-heavier.true)),
          )
      | in_default w ↦
          let e = sym w.in_default.is ∙ c.choose.ensures in
          (w.server-is ∙ server_none working horizon r e, w.flag-is ∙ flag_none working horizon r e)
    ] in (
      rw (c.loop-r.invariant.0, met.0) (written_more (row_server working) r p.self.now.servers.now (omega arith)),
      rw (c.loop-r.invariant.1, met.1) (written_more (row_flag working horizon) r p.self.now.flags.now (omega arith)),
    )

pub returns-clause-filled : goal.returns-clause-filled
unfolding filled
returns-clause-filled c =
    let e : c.loop-r.r ≡ min c.args.count (min (length c.args.self.now.servers.now) (length c.args.self.now.flags.now)) = omega arith in
    both_are (rw e at c.loop-r.invariant.0) (rw e at c.loop-r.invariant.1)
