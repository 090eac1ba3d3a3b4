-- `machine::bits::of_pattern` meets its contract: a magnitude above 7FF0000000000000 is a not-a-number's, and any other is read as it stands. Assumes nothing.
use mathlib.Core.Path.{sym, ◌∙◌}
use Rattle.machine.proofs.NotANumber.{pattern_number, pattern-nan}
use Rattle.machine.proofs.bits.of_pattern.Goals as goal

pub returns-then-b-gt9218868437227405312 : goal.returns-then-b-gt9218868437227405312
returns-then-b-gt9218868437227405312 c = c.not_a_number.ensures ∙ sym (pattern-nan _ c.if-b-gt9218868437227405312.true)

pub float_from_bits-result : goal.float_from_bits-result
float_from_bits-result c = pattern_number _ c.if-b-gt9218868437227405312.false
