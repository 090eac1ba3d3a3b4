-- `series_sum::sums::ended` meets its contract: what is left of the sum, or nothing. Assumes nothing.
use mathlib.Core.Path.{sym, ap, ◌∙◌}
use Rattle.series_sum.specs.shapes.Sums.{outcome_of}
use Rattle.series_sum.proofs.SumRun.{rest-stop}
use Rattle.series_sum.proofs.sums.ended.Goals as goal

pub returns-then-e-tolerance : goal.returns-then-e-tolerance
returns-then-e-tolerance c = c.from.ensures ∙ ap outcome_of c.finish.ensures

pub returns : goal.returns
returns c = c.from-2.ensures ∙ ap outcome_of (sym (rest-stop _ _ _ _ c.if-e-tolerance.false))
