use Prim.Native.Nat.{◌+◌, ◌*◌}
use Rattle.frame.specs.Layout.{float_width}
use Rattle.frame.proofs.WriteFacts.{Cells}
use Rattle.frame.proofs.writing.write_cells.Given as goal

abbrev pub invariant-loop-i : goal.invariant-loop-i
invariant-loop-i l = Cells l.cells l.at l.initial.out l.out (l.at + l.i * float_width) l.i
