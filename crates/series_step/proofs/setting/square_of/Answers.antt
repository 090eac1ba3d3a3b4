-- `series_step::setting::square_of` meets its contract: above the limit and not. Assumes nothing.
use Rattle.series_step.specs.Setting.{square_if, square_of}
use Rattle.series_step.proofs.SquareLimit.{limit}
use Rattle.series_step.proofs.setting.square_of.Goals as goal

pub returns-then-modulus : goal.returns-then-modulus
unfolding square_if square_of
returns-then-modulus c = simp (limit, c.square.ensures, c.if-modulus.true)

pub returns : goal.returns
unfolding square_if square_of
returns c = simp (limit, c.if-modulus.false)
