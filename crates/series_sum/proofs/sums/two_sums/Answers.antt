-- `series_sum::sums::two_sums` meets its contract. Assumes nothing.
use mathlib.Core.Path.{ap, ◌∙◌}
use Rattle.machine.specs.Constants.{tolerance}
use Rattle.series_sum.specs.Sum.{sum_is_one, sum_of}
use Rattle.series_sum.specs.shapes.Sums.{one_or}
use Rattle.series_sum.proofs.SumRun.{one-or}
use Rattle.series_sum.proofs.sums.two_sums.Goals as goal

pub returns : goal.returns
unfolding tolerance sum_is_one sum_of
returns c =
    let d = c in
    (c.one_or.ensures ∙ ap (one_or _) d.both-s.ensures.0 ∙ one-or _ _ _ _, c.one_or-2.ensures ∙ ap (one_or _) d.both-s.ensures.1 ∙ one-or _ _ _ _)
