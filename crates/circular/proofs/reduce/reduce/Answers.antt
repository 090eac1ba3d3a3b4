-- `circular::reduce::reduce` meets its contract: nothing is taken off below 0.78125, and quarter turns otherwise, from whole turns off first above 65536. Assumes nothing.
use mathlib.Core.Path.{sym, subst}
use lib.Dec.{T, lit≤}
use lib.Ieee.{of_bits, to_bits}
use Rattle.laws.proofs.Order.{lt→le}
use Rattle.circular.specs.Reduce.{within_turns, reduce_of}
use Rattle.circular.proofs.reduce.reduce.Goals as goal

-- 182.212373908208 has 1030 in its exponent's field
pub remainder-requires : goal.remainder-requires
unfolding of_bits to_bits
remainder-requires c = (lt→le _ c.args.a (subst T (sym c.if-a-2.true) tt), lit≤ tt, lit≤ tt)

pub returns-then-a : goal.returns-then-a
unfolding reduce_of
returns-then-a c = simp c.if-a.true

pub returns-then-a-2 : goal.returns-then-a-2
unfolding reduce_of within_turns
returns-then-a-2 c = simp (c.quarters.ensures, c.remainder.ensures, c.if-a-2.true, c.if-a.false)

pub returns : goal.returns
unfolding reduce_of within_turns
returns c = simp (c.quarters-2.ensures, c.if-a-2.false, c.if-a.false)
