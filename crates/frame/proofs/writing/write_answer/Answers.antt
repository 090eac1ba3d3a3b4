-- `frame::writing::write_answer` meets its contract: the line of what the answer says. Assumes nothing.
use mathlib.Core.Path.{◌≡◌, ap, ◌∙◌, subst, sym}
use mathlib.Core.List.{List}
use Prim.Native.Nat.{ℕ, ◌≤◌}
use lib.ListN.{length}
use Rattle.frame.specs.declared.reading.Record.{Record}
use Rattle.frame.specs.Over.{over}
use Rattle.frame.specs.Writing.{written_of, line_of}
use Rattle.frame.proofs.WriteFacts.{line-written}
use Rattle.frame.proofs.writing.write_answer.Goals as goal

pub write_line-requires : goal.write_line-requires
write_line-requires c =
    let a = c.args in
    let e = ap (λ (r : Record). written_of r a.cells.now) c.said.ensures ∙ line-written a.answer 0 a.cells.now in
    subst (λ (l : List ℕ). length l ≤ length a.out.now) (sym e) c.requires

pub returns : goal.returns
returns c =
    let a = c.args in
    let e = ap (λ (r : Record). written_of r a.cells.now) c.said.ensures ∙ line-written a.answer 0 a.cells.now in
    (c.write_line.ensures.0 ∙ ap length e, c.write_line.ensures.1 ∙ ap (λ (l : List ℕ). over 0 l a.out.now) e)
