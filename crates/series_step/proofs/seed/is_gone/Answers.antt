-- `series_step::seed::is_gone` meets its contract: only a value under the mark can be lost. Assumes nothing.
use Rattle.series_step.specs.Seed.{is_gone}
use Rattle.series_step.proofs.seed.is_gone.Goals as goal

pub returns-then-near_underflow : goal.returns-then-near_underflow
unfolding is_gone
returns-then-near_underflow c = simp (c.lost.ensures, c.if-near_underflow.true)

pub returns-else-near_underflow : goal.returns-else-near_underflow
unfolding is_gone
returns-else-near_underflow c = simp c.if-near_underflow.false
