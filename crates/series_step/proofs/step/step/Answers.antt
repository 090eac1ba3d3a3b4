-- `series_step::step::step` meets its contract: fewer than two seeds, or two. Assumes nothing.
use borrow.Author.Tests.{lt-ltb, le-ltb}
use Rattle.series_step.specs.Setting.{order_at}
use Rattle.series_step.specs.Step.{step_if, step_of}
use Rattle.series_step.proofs.step.step.Goals as goal

pub returns-then-s-lt2 : goal.returns-then-s-lt2
unfolding order_at step_if step_of
returns-then-s-lt2 c = simp (c.seed.ensures, c.from.ensures, lt-ltb _ _ c.if-s-lt2.true)

pub returns : goal.returns
unfolding step_if step_of
returns c = simp (c.recurred.ensures, le-ltb _ _ c.if-s-lt2.false)
