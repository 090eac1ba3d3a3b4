-- `series_step::mark::scale` meets its contract: the exponent at or below the limit, and above it. Assumes nothing.
use Rattle.machine.specs.Constants.{tolerance, approximation_limit}
use Rattle.series_step.specs.Mark.{scale_of}
use Rattle.series_step.proofs.mark.scale.Goals as goal

pub returns-then-exponent : goal.returns-then-exponent
unfolding tolerance approximation_limit scale_of
returns-then-exponent c = simp c.if-exponent.true

pub returns : goal.returns
unfolding approximation_limit scale_of
returns c = simp c.if-exponent.false
