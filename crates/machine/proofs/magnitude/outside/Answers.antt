-- `machine::magnitude::outside` meets its contract: two comparisons for a magnitude. Assumes nothing.
use mathlib.Core.Path.{sym, ◌∙◌}
use Rattle.machine.proofs.MagnitudeFacts.{above-magnitude}
use Rattle.machine.proofs.magnitude.outside.Goals as goal

pub returns-then-x-b : goal.returns-then-x-b
returns-then-x-b c = let d = c in sym (above-magnitude d.args.b d.args.x d.requires ∙ rw c.if-x-b.true)

pub returns : goal.returns
returns c = let d = c in sym (above-magnitude d.args.b d.args.x d.requires ∙ rw c.if-x-b.false)
