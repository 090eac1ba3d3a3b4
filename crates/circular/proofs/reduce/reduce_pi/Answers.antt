-- `circular::reduce::reduce_pi` meets its contract: either zero is reduced to 0, and above 2^20 whole turns are taken off first. Assumes nothing.
use mathlib.Core.Path.{◌≡◌, refl, sym, ap, ◌∙◌, subst}
use mathlib.Core.Bool.{Bool, true, false}
use lib.Dec.{T, lit≤}
use lib.Ieee.{binary64, of_bits, to_bits, add, sub, mul, lt, le, neg}
use Rattle.laws.proofs.Order.{lt→le, le-trans-float}
use Rattle.laws.proofs.Zero.{zero_of, zero_is}
use Rattle.circular.specs.Reduce.{leading, within_two, halves_of, reduce_pi_of}
use Rattle.circular.proofs.reduce.reduce_pi.Goals as goal

at_zero : (s : Bool) → record { hi = of_bits binary64 0; lo = of_bits binary64 0; quarter = 0 } ≡ reduce_pi_of (zero_of s)
unfolding reduce_pi_of halves_of within_two leading of_bits to_bits add sub mul lt neg
at_zero true = refl
at_zero false = refl

-- 2 has 1024 in its exponent's field
pub remainder-requires : goal.remainder-requires
unfolding of_bits to_bits le
remainder-requires c = (le-trans-float (of_bits binary64 0x40F0000000000000) (of_bits binary64 0x4130000000000000) c.args.a tt (lt→le (of_bits binary64 0x4130000000000000) c.args.a (subst T (sym c.if-a-2.true) tt)), lit≤ tt, lit≤ tt)

pub returns-then-a : goal.returns-then-a
returns-then-a c =
    let z = zero_is c.args.a (subst T (sym c.well_formed.0.1) tt) c.if-a.true in
    at_zero z.0 ∙ ap reduce_pi_of (sym z.1)

pub returns-then-a-2 : goal.returns-then-a-2
unfolding reduce_pi_of within_two
returns-then-a-2 c = simp (c.halves.ensures, c.remainder.ensures, c.if-a-2.true)

pub returns : goal.returns
unfolding reduce_pi_of within_two
returns c = simp (c.halves-2.ensures, c.if-a-2.false)
