-- `exponential::exp::exp_far` meets its contract: where neither end is passed, half of x is in range. Assumes nothing.
use mathlib.Core.Path.{◌≡◌, ◌∙◌}
use mathlib.Core.Bool.{false}
use lib.Dec.{T, lit<, lit≤}
use lib.Ieee.{Float, binary64, of_bits, neg, mul, le, lt, ne}
use Rattle.laws.proofs.Order.{le-trans-float, neg-finite}
use Rattle.laws.proofs.Bits.{bits-finite, bits-le}
use Rattle.machine.proofs.NotANumber.{equals_itself}
use Rattle.machine.specs.Small.{half}
use Rattle.exponential.specs.Exp.{limit, lower_limit, exp_far}
use Rattle.exponential.proofs.Tests.{not-above, not-below}
use Rattle.exponential.proofs.Reduction.{one-over-nought, halved-within}
use Rattle.exponential.proofs.exp.exp_far.Goals as goal

-- from the three tests that failed

in-range : (x : Float) → ne x x ≡ false → lt (of_bits binary64 0x4086300000000000) x ≡ false → lt x (neg (of_bits binary64 0x4087500000000000)) ≡ false
    → T (le lower_limit (mul binary64 half x)) × T (le (mul binary64 half x) limit)
in-range x e u l =
    let n = equals_itself x e in
    halved-within x
    (not-below (neg (of_bits binary64 0x4087500000000000)) x (neg-finite (of_bits binary64 0x4087500000000000) (bits-finite 0x4087500000000000 (lit< tt))) n l)
    (le-trans-float x (of_bits binary64 0x4086300000000000) (of_bits binary64 0x4086380000000000)
    (not-above (of_bits binary64 0x4086300000000000) x (bits-finite 0x4086300000000000 (lit< tt)) n u)
    (bits-le 0x4086300000000000 0x4086380000000000 (lit≤ tt) (lit< tt)))

pub returns-then-x : goal.returns-then-x
unfolding exp_far
returns-then-x c = simp (c.not_a_number.ensures, c.if-x.true)

pub returns-then-x-2 : goal.returns-then-x-2
unfolding exp_far
returns-then-x-2 c = one-over-nought ∙ simp (c.if-x.false, c.if-x-2.true)

pub returns-then-x-3 : goal.returns-then-x-3
unfolding exp_far
returns-then-x-3 c = simp (c.if-x.false, c.if-x-2.false, c.if-x-3.true)

pub exp_pair-p-requires : goal.exp_pair-p-requires
exp_pair-p-requires c =
    let r = in-range c.args.x c.if-x.false c.if-x-2.false c.if-x-3.false in
    record { t = r.0; t_2 = r.1 }

pub returns-then-x-4 : goal.returns-then-x-4
unfolding exp_far
returns-then-x-4 c = simp (c.squared.ensures, c.exp_pair-p.ensures, c.if-x.false, c.if-x-2.false, c.if-x-3.false, c.if-x-4.true)

pub returns : goal.returns
unfolding exp_far
returns c = simp (c.squared-2.ensures, c.exp_pair-p.ensures, c.if-x.false, c.if-x-2.false, c.if-x-3.false, c.if-x-4.false)
