-- `logarithm::ln::of_wide` meets its contract: the patterns that it reads are no not-a-number's, and the code is the definition's text. Assumes nothing.
use native.Mathlib.Nat.{le_trans}
use lib.Dec.{le→leb, lit≤}
use lib.Ieee.{in_float}
use Rattle.laws.proofs.Bits.{bits-no-nan}
use Rattle.logarithm_tables.specs.Tables.{row_of}
use Rattle.logarithm.specs.Ln.{tail_of, joined, ln_wide}
use Rattle.logarithm.proofs.Width.{mantissa-high, middle-high, field-high}
use Rattle.logarithm.proofs.ln.of_wide.Goals as goal

pub float_from_bits-mantissa : goal.float_from_bits-mantissa
float_from_bits-mantissa c = bits-no-nan _ (le_trans (mantissa-high c.args.bits) (lit≤ tt))

pub float_from_bits-middle : goal.float_from_bits-middle
float_from_bits-middle c = bits-no-nan _ (le_trans (middle-high c.args.bits) (lit≤ tt))

pub int_to_float-exponent : goal.int_to_float-exponent
unfolding in_float
int_to_float-exponent c = le→leb _ _ (le_trans (field-high c.args.bits c.requires) (lit≤ tt))

pub returns : goal.returns
unfolding ln_wide joined tail_of row_of
returns c = rw c.row_of-row.ensures
