use mathlib.Core.List.{map}
use mathlib.Core.Path.{◌≡◌}
use native.Mathlib.Omega.{arith}
use lib.ListN.{length, take}
use lib.Seq.{take_all}
use Prim.Native.Nat.{ℕ}
use Rattle.std.proofs.lemmas.List.Sorted.{IsNonDecreasingBy-from_sort}
use Rattle.ringplan.specs.Keys.{key_of}
use Rattle.ringplan.proofs.Keys.{fit_all}
use Rattle.ringplan.proofs.Sorting.{sorted_keys}
use Rattle.ringplan.proofs.arrange.Goals as goal

pub returns-clause-keys : goal.returns-clause-keys
returns-clause-keys c =
    let ss = c.args.servers.now in
    let all : take c.loop-i.i ss ≡ ss = take_all c.loop-i.i ss (omega arith) in
    let e : c.loop-i.i ≡ length ss = omega arith in
    let q : take (length ss) c.loop-i.order ≡ map key_of ss = rw (all, e) at c.loop-i.invariant.0 in
    sorted_keys ss c.sort_unstable.new.self (fit_all ss (λ j. omega (arith, c.type_inv.servers j))) (rw q at c.sort_unstable.ensures.permutation)
    (IsNonDecreasingBy-from_sort (λ (x : ℕ). x) c.sort_unstable.new.self c.sort_unstable.ensures.sorted)

pub returns-clause-fit : goal.returns-clause-fit
returns-clause-fit c = fit_all c.args.servers.now (λ j. omega (arith, c.type_inv.servers j))
