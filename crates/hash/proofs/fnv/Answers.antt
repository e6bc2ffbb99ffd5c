-- `hash::fnv` meets its contract: after each byte the fold has what the definition gives for those so far.
use Rattle.std.proofs.Common.{◌≡◌, refl, rules}
use Rattle.std.proofs.lemmas.Fn.{fold_over, fronts, slice_gives}
use Rattle.hash.specs.Hash.{stir, stir_all, F}
use Rattle.hash.proofs.Folds.{stir_all_more}
use Rattle.hash.proofs.fnv.Goals as goal

pub returns : goal.returns
unfolding F stir_all
returns c =
    fold_over fronts (λ y. y.now) _ (λ bytes h. h ≡ stir_all 2166136261 bytes) _
    (λ bytes h y h' f e k. let step : h' ≡ stir h y.now = search rules in (rw (stir_all_more, ← e) step, refl))
    _ c.args.bytes.now _ _ (rw (← c.iter.ensures.rest) (slice_gives c.iter.result)) refl c.fold.ensures.ran
