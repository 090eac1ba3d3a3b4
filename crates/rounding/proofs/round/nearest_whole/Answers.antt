-- `rounding::round::nearest_whole` meets its contract: below the field of 1/2 the number is 0, and from there on the shift leaves the whole part of the double.
-- Assumes nothing.
use mathlib.Core.Path.{sym}
use borrow.Author.Rules.{rules}
use Prim.Native.Nat.{◌-◌}
use native.Mathlib.Omega.{arith}
use Rattle.rounding.proofs.Fields.{low_field, upper-field, upper-bound}
use Rattle.rounding.proofs.round.nearest_whole.Goals as goal

pub returns-then-field-lt1022 : goal.returns-then-field-lt1022
returns-then-field-lt1022 c = (sym (low_field c.args.field c.args.fraction c.if-field-lt1022.true c.requires.1), search rules)

pub overflow_add-result : goal.overflow_add-result
overflow_add-result c = omega (arith, upper-bound c.args.fraction (1074 - c.args.field) c.requires.1)

pub returns : goal.returns
returns c = (
  sym (upper-field c.args.field c.args.fraction c.if-field-lt1022.false c.requires.0),
  omega (arith, upper-bound c.args.fraction (1074 - c.args.field) c.requires.1),
)
