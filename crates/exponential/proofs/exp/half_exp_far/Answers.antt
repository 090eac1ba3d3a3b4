-- `exponential::exp::half_exp_far` meets its contract. Assumes nothing.
use mathlib.Core.Path.{◌∙◌}
use lib.Dec.{T, lit<}
use lib.Ieee.{binary64, of_bits, neg, le, lt}
use Rattle.laws.proofs.Order.{le-trans-float}
use Rattle.laws.proofs.Bits.{bits-finite}
use Rattle.machine.proofs.NotANumber.{equals_itself}
use Rattle.exponential.specs.Exp.{half_exp_far}
use Rattle.exponential.proofs.Tests.{not-above, not-below}
use Rattle.exponential.proofs.Reduction.{one-over-nought, halved-within}
use Rattle.exponential.proofs.exp.half_exp_far.Goals as goal

below_one : T (le (neg (of_bits binary64 0x4087500000000000)) (of_bits binary64 0x3FF0000000000000))
unfolding of_bits neg le lt
below_one = tt

pub returns-then-a : goal.returns-then-a
unfolding half_exp_far
returns-then-a c = simp (c.not_a_number.ensures, c.if-a.true)

pub returns-then-a-2 : goal.returns-then-a-2
unfolding half_exp_far
returns-then-a-2 c = one-over-nought ∙ simp (c.if-a.false, c.if-a-2.true)

pub exp_pair-requires : goal.exp_pair-requires
exp_pair-requires c =
    let a = c.args.a in
    let n = equals_itself a c.if-a.false in
    let r =
    halved-within a
    (le-trans-float (neg (of_bits binary64 0x4087500000000000)) (of_bits binary64 0x3FF0000000000000) a below_one
    (not-below (of_bits binary64 0x3FF0000000000000) a (bits-finite 0x3FF0000000000000 (lit< tt)) n c.requires))
    (not-above (of_bits binary64 0x4086380000000000) a (bits-finite 0x4086380000000000 (lit< tt)) n c.if-a-2.false) in
    record { t = r.0; t_2 = r.1 }

pub returns : goal.returns
unfolding half_exp_far
returns c = simp (c.squared.ensures, c.exp_pair.ensures, c.if-a.false, c.if-a-2.false)
