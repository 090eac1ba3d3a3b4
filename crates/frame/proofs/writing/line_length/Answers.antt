-- `frame::writing::line_length` meets its contract: the record alone, or the cells behind it. Assumes nothing.
use mathlib.Core.Path.{sym, ap, ◌∙◌}
use lib.ListN.{length}
use Rattle.frame.proofs.WriteFacts.{numbers-length, written_refused, written-length}
use Rattle.frame.proofs.writing.line_length.Goals as goal

pub returns-then-numbers-eq0 : goal.returns-then-numbers-eq0
returns-then-numbers-eq0 c = let a = c.args in sym (written-length a.numbers a.cells.now c.if-numbers-eq0.true)

pub returns-else-numbers-eq0 : goal.returns-else-numbers-eq0
returns-else-numbers-eq0 c = let a = c.args in sym (ap length (written_refused a.numbers a.cells.now c.if-numbers-eq0.false) ∙ numbers-length a.numbers)
