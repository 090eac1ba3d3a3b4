-- `series_step::setting::turn` meets its contract: the two signs. Assumes nothing.
use Rattle.series_step.specs.Setting.{turned_of}
use Rattle.series_step.proofs.setting.turn.Goals as goal

pub returns-then-turned : goal.returns-then-turned
unfolding turned_of
returns-then-turned c = simp (c.neg.ensures, c.if-turned.true)

pub returns : goal.returns
unfolding turned_of
returns c = simp c.if-turned.false
