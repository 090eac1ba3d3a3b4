-- `rounding::round::round` meets its contract: a not-a-number, a value with no fraction, and a value of either sign by its fields. Assumes nothing.
use mathlib.Core.Path.{sym, ap, ◌∙◌, subst}
use mathlib.Core.Bool.{Bool}
use Prim.Native.Nat.{◌^◌}
use borrow.Author.Tests.{lt-leb, le-leb}
use lib.Dec.{T, le→leb}
use lib.Ieee.{binary64, of_int, in_float, round}
use lib.Ieee.Compare.{differs_from_itself}
use Rattle.laws.proofs.Order.{round-neg}
use Rattle.machine.proofs.NotANumber.{equals_itself}
use Rattle.rounding.specs.Round.{round_of}
use Rattle.rounding.proofs.RoundFacts.{no_fraction, with-fraction, of_nan}
use Rattle.rounding.proofs.round.round.Goals as goal

pub returns-then-x : goal.returns-then-x
returns-then-x c = c.not_a_number.ensures ∙ sym (ap round_of (differs_from_itself c.args.x (subst T (sym c.if-x.true) tt)) ∙ of_nan)

pub float_to_bits-bits : goal.float_to_bits-bits
float_to_bits-bits c = equals_itself c.args.x c.if-x.false

pub returns-then-field-gt1074 : goal.returns-then-field-gt1074
returns-then-field-gt1074 c = sym (no_fraction c.args.x (subst T (sym c.well_formed.0.1) tt) c.if-field-gt1074.true)

pub int_to_float-whole : goal.int_to_float-whole
unfolding in_float
int_to_float-whole c = le→leb c.nearest_whole-whole.result (2 ^ 53) c.nearest_whole-whole.ensures.1

pub returns-then-bits-lt9223372036854775808 : goal.returns-then-bits-lt9223372036854775808
unfolding of_int
returns-then-bits-lt9223372036854775808 c =
    let k = c.nearest_whole-whole.result in
    let start = c in
    sym (with-fraction start.args.x (subst T (sym start.well_formed.0.1) tt) k c.if-field-gt1074.false c.nearest_whole-whole.ensures.0
    ∙ ap (λ (b : Bool). round binary64 b k 1) (lt-leb _ _ c.if-bits-lt9223372036854775808.true))

pub returns-else-bits-lt9223372036854775808 : goal.returns-else-bits-lt9223372036854775808
unfolding of_int
returns-else-bits-lt9223372036854775808 c =
    let k = c.nearest_whole-whole.result in
    let start = c in
    sym (with-fraction start.args.x (subst T (sym start.well_formed.0.1) tt) k start.if-field-gt1074.false c.nearest_whole-whole.ensures.0
    ∙ ap (λ (b : Bool). round binary64 b k 1) (le-leb _ _ c.if-bits-lt9223372036854775808.false)
    ∙ round-neg binary64 k 1)
