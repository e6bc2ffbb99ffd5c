-- `lists::stated` meets its contract: after each state the fold has what the definition gives for those so far.
use Rattle.std.proofs.Common.{◌≡◌, ◌∷◌, [], arith, cond, false, refl}
use Rattle.std.proofs.lemmas.Grind.{common_steps}
use Rattle.std.proofs.lemmas.Fn.{fold_over, fronts, slice_gives}
use Rattle.lists.specs.Lists.{all_stated}
use Rattle.lists.proofs.Scans.{all_stated_more}
use Rattle.lists.proofs.stated.Goals as goal

pub returns : goal.returns
unfolding all_stated
returns c =
    fold_over fronts (λ y. y.now) _ (λ states good. good ≡ all_stated states) _
    (λ states good y good' f e k. let step : good' ≡ cond good (all_stated (y.now ∷ [])) false = grind (arith, common_steps) in (rw (all_stated_more, ← e) step, refl))
    _ c.args.s.now _ _ (rw (← c.iter.ensures.rest) (slice_gives c.iter.result)) refl c.fold.ensures.ran
