-- `frame::reading::read_digits` meets its contract: the record, and what may follow its number. Assumes nothing.
use mathlib.Core.Path.{sym, ap, ◌∙◌}
use mathlib.Core.Bool.{Bool}
use Prim.Native.Nat.{◌-◌}
use lib.ListN.{length}
use Rattle.std.specs.Bool.{then_some}
use Rattle.frame.specs.declared.reading.Record.{Record}
use Rattle.frame.specs.Layout.{record_length}
use Rattle.frame.specs.Reading.{rest_inside}
use Rattle.frame.proofs.ReadFacts.{reading-kept}
use Rattle.frame.proofs.reading.read_digits.Goals as goal

pub returns : goal.returns
returns c =
    let line = c.args.line.now in
    let rest = length line - record_length in
    c.then_some.ensures
    ∙ ap (λ (b : Bool). then_some b c.read_record-record.result) c.rest_inside.ensures
    ∙ ap (λ (r : Record). then_some (rest_inside r.number rest) r) c.read_record-record.ensures
    ∙ sym (reading-kept line c.requires.0 c.requires.1)
