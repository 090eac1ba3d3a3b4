-- `series_sum::sums::one_or` meets its contract. Assumes nothing.
use Rattle.series_sum.specs.shapes.Sums.{one_or}
use Rattle.series_sum.proofs.sums.one_or.Goals as goal

pub returns-then-is_one : goal.returns-then-is_one
unfolding one_or
returns-then-is_one c = simp c.if-is_one.true

pub returns : goal.returns
unfolding one_or
returns c = simp c.if-is_one.false
