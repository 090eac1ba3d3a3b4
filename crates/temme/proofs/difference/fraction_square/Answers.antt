-- `temme::difference::fraction_square` meets its contract. Assumes nothing.
use mathlib.Core.Path.{sym, ◌∙◌}
use lib.Ieee.{of_bits, lt}
use Rattle.machine.specs.Constants.{tolerance}
use Rattle.temme.specs.Difference.{fraction_square}
use Rattle.temme.proofs.difference.fraction_square.Goals as goal

pub outside-requires : goal.outside-requires
unfolding of_bits lt
outside-requires c = tt

pub returns-then-outside : goal.returns-then-outside
unfolding fraction_square tolerance
returns-then-outside c = simp (sym c.outside.ensures ∙ c.if-outside.true)

pub returns : goal.returns
unfolding fraction_square tolerance
returns c = simp (sym c.outside.ensures ∙ c.if-outside.false)
