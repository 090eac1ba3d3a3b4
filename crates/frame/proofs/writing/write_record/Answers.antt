-- `frame::writing::write_record` meets its contract: the numbers of what the answer says. Assumes nothing.
use mathlib.Core.Path.{ap, ◌∙◌}
use mathlib.Core.List.{List}
use Prim.Native.Nat.{ℕ}
use Rattle.frame.specs.declared.reading.Record.{Record}
use Rattle.frame.specs.Over.{over}
use Rattle.frame.specs.Writing.{spelled_numbers}
use Rattle.frame.proofs.WriteFacts.{record-said}
use Rattle.frame.proofs.writing.write_record.Goals as goal

pub returns : goal.returns
returns c =
    let a = c.args in
    c.write_numbers.ensures ∙ ap (λ (r : Record). over 0 (spelled_numbers r) a.out.now) c.said.ensures ∙ ap (λ (l : List ℕ). over 0 l a.out.now) (record-said a.answer 0)
