use mathlib.Core.Path.{◌∙◌}
use lib.Dec.{eqb}
use Prim.Native.Nat.{ℕ}
use mathlib.Core.Bool.{◌&&◌}
use Rattle.std.proofs.Common.{rules, tests}
use Rattle.std.proofs.lemmas.Iterator.{YieldsList-from_slice, YieldsList-from_zip}
use Rattle.std.proofs.lemmas.Iterator.Consumers.{YieldsList-at}
use Rattle.std.proofs.lemmas.Iterator.Search.{any_from_yields_List}
use Rattle.std.specs.Iterator.Adapters.{zip_second}
use Rattle.hash.specs.Hash.{weight}
use Rattle.ranking.specs.Methods.{heavier}
use Rattle.ranking.proofs.Loop.{beaten_any}
use Rattle.hrw.proofs.outranked.Goals as goal

pub returns : goal.returns
returns c =
    let p = c.args in
    any_from_yields_List (λ (q : ℕ × ℕ). eqb q.1 2 && heavier (weight q.0 p.digest) q.0 p.best.measure p.best.server) c.any.new.self _ c.any.result c.any.ensures.ran
    (YieldsList-from_zip (YieldsList-at c.zip.ensures.first (YieldsList-from_slice p.movers.servers.now c.iter.ensures.rest)) (YieldsList-from_slice {s = zip_second c.zip.result} p.movers.states.now c.zip.ensures.second.0))
    (λ x b q k. search (rules, tests))
    ∙ beaten_any heavier (λ s. weight s p.digest) p.best 2 p.movers.servers.now p.movers.states.now
