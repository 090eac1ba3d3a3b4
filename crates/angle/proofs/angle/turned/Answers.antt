-- `angle::angle::turned` meets its contract: by the two tests and what `away` ensures. Assumes nothing.
use Rattle.angle.specs.Angle.{turned_of, quarter_turn, half_turn, back_of}
use Rattle.angle.proofs.angle.turned.Goals as goal

pub returns-then-left : goal.returns-then-left
unfolding turned_of quarter_turn half_turn back_of
returns-then-left c = simp (c.if-steep.true, c.if-left.true, c.away.ensures)

pub returns-then-steep : goal.returns-then-steep
unfolding turned_of quarter_turn half_turn back_of
returns-then-steep c = simp (c.if-steep.true, c.if-left.false, c.away-then-steep.ensures)

pub returns-then-left-2 : goal.returns-then-left-2
unfolding turned_of quarter_turn half_turn back_of
returns-then-left-2 c = simp (c.if-steep.false, c.if-left-2.true, c.away-then-left-2.ensures)

pub returns : goal.returns
unfolding turned_of quarter_turn half_turn back_of
returns c = simp (c.if-steep.false, c.if-left-2.false)
