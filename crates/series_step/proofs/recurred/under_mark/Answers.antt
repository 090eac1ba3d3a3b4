-- `series_step::recurred::under_mark` meets its contract: the mark is cleared, or stays. Assumes nothing.
use Rattle.machine.specs.Constants.{absolute_approximation_limit}
use Rattle.series_step.specs.Recurred.{cleared_if, under_mark}
use Rattle.series_step.proofs.recurred.under_mark.Goals as goal

pub returns-then-modulus : goal.returns-then-modulus
unfolding absolute_approximation_limit cleared_if under_mark
returns-then-modulus c =
    let d = c in
    rw (← d.mul-entry.ensures, ← d.modulus.ensures, c.if-modulus.true)

pub returns : goal.returns
unfolding absolute_approximation_limit cleared_if under_mark
returns c =
    let d = c in
    rw (← d.mul-entry.ensures, ← d.modulus.ensures, c.if-modulus.false)
