-- `series_step::seed::coefficient` meets its contract: under the mark, and without it. Assumes nothing.
use Rattle.machine.specs.Constants.{inverse_tolerance}
use Rattle.series_step.specs.Seed.{coefficient_if, coefficient_of}
use Rattle.series_step.proofs.seed.coefficient.Goals as goal

pub returns-then-near_underflow : goal.returns-then-near_underflow
unfolding inverse_tolerance coefficient_if coefficient_of
returns-then-near_underflow c = simp (c.mul.ensures, c.if-near_underflow.true, c.exp-whole.ensures)

pub returns : goal.returns
unfolding coefficient_if coefficient_of
returns c = simp (c.if-near_underflow.false, c.exp-whole.ensures)
