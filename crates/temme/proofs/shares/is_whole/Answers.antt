-- `temme::shares::is_whole` meets its contract. Assumes nothing.
use Rattle.temme.specs.shapes.Shares.{is_whole}
use Rattle.temme.proofs.shares.is_whole.Goals as goal

pub returns-then-fraction : goal.returns-then-fraction
unfolding is_whole
returns-then-fraction c = simp c.if-fraction.true

pub returns-else-fraction : goal.returns-else-fraction
unfolding is_whole
returns-else-fraction c = simp c.if-fraction.false
