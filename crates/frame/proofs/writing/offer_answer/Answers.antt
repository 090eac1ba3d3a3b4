-- `frame::writing::offer_answer` meets its contract: the line of what the answer says, offered. Assumes nothing.
use mathlib.Core.Path.{ap, ◌∙◌}
use mathlib.Core.List.{List}
use Prim.Native.Nat.{ℕ}
use lib.ListN.{length}
use Rattle.frame.specs.declared.reading.Record.{Record}
use Rattle.frame.specs.Over.{offered}
use Rattle.frame.specs.Writing.{written_of}
use Rattle.frame.proofs.WriteFacts.{line-written}
use Rattle.frame.proofs.writing.offer_answer.Goals as goal

pub returns : goal.returns
returns c =
    let a = c.args in
    let e = ap (λ (r : Record). written_of r a.cells.now) c.said.ensures ∙ line-written a.answer 0 a.cells.now in
    (c.offer_line.ensures.0 ∙ ap length e, c.offer_line.ensures.1 ∙ ap (λ (l : List ℕ). offered l a.out.now) e)
