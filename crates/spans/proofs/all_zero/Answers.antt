-- `spans::all_zero` meets its contract.
use Rattle.std.proofs.Common.{◌∙◌}
use Rattle.spans.proofs.Scans.{all_are_zero}
use Rattle.spans.proofs.all_zero.Goals as goal

pub returns : goal.returns
returns c = c.all_are.ensures ∙ all_are_zero c.args.s.now
