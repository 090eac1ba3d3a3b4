use Rattle.laws.proofs.Seam.{Seam}
use Rattle.frame.specs.Reading.{cells_read}
use Rattle.frame.proofs.reading.read_cells.Given as goal

abbrev pub invariant-loop-i : goal.invariant-loop-i
invariant-loop-i l = Seam l.initial.out (cells_read l.i l.line) l.i l.out
