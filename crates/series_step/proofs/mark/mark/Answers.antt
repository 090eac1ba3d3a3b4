-- `series_step::mark::mark` meets its contract: the exponent at or below the limit, and above it. Assumes nothing.
use Rattle.machine.specs.Constants.{approximation_limit}
use Rattle.series_step.specs.Mark.{mark_of}
use Rattle.series_step.proofs.mark.mark.Goals as goal

pub returns-then-exponent : goal.returns-then-exponent
unfolding approximation_limit mark_of
returns-then-exponent c = simp c.if-exponent.true

pub returns-else-exponent : goal.returns-else-exponent
unfolding approximation_limit mark_of
returns-else-exponent c = simp c.if-exponent.false
