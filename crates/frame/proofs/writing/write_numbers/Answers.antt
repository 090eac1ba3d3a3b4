-- `frame::writing::write_numbers` meets its contract: five fields, each behind the one before. Assumes nothing.
use mathlib.Core.Path.{ap, ◌∙◌}
use mir.Syntax.{w32}
use mir.Val.{SFits}
use mir.Facts.{to_z-of_z}
use Rattle.std.proofs.Common.{rules}
use Rattle.frame.specs.Writing.{twos_complement}
use Rattle.frame.proofs.WriteFacts.{numbers-written}
use Rattle.frame.proofs.writing.write_numbers.Goals as goal

pub returns : goal.returns
returns c =
    let a = c.args in
    let fits : SFits w32 a.numbers.zeros = search rules in
    let back = to_z-of_z {w = w32} {z = a.numbers.zeros} fits in
    numbers-written a.numbers a.out.now _ _ _ _ _ _ _ _ _ _
    c.from.ensures
    (c.twos_complement.ensures ∙ ap twos_complement back)
    c.from-2.ensures
    c.from-3.ensures
    c.from-4.ensures
    c.spell.ensures
    c.spell-2.ensures
    c.spell-3.ensures
    c.spell-4.ensures
    c.spell-5.ensures
