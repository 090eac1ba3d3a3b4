-- The hyperbolic cosine of every x, DLMF 4.28.2. Own formulas: the scope leaves them open. Definitions only.
use Rattle.std.specs.Prelude.{false, cond, Float}
use Rattle.std.specs.Float.{nan, inf, fin, binary64}
use Rattle.std.specs.Float.Ieee.{of_bits, lt, le}
use Rattle.laws.specs.Operators.{◌⊕◌, ◌⊖◌, ◌⊗◌, ◌⊘◌}
use Rattle.machine.specs.Small.{half, one}
use Rattle.exponential.specs.Exp.{limit, exp_pair, half_exp_far}
use Rattle.machine.specs.declared.pair.Pair.{Pair}

-- below 1: the even polynomial of degree 14, the rounding error of 1 + z/2 put back
unfoldable pub cosh_small : Float → Float
cosh_small a =
    let c4 = of_bits binary64 0x3FA5555555555552 in
    let c6 = of_bits binary64 0x3F56C16C16C18A85 in
    let c8 = of_bits binary64 0x3EFA01A019A8A9C0 in
    let c10 = of_bits binary64 0x3E927E5016692081 in
    let c12 = of_bits binary64 0x3E21EE7D6DFC5CCA in
    let c14 = of_bits binary64 0x3DA98AA830664B9D in
    let z = a ⊗ a in
    let w = z ⊗ z in
    let p = (c4 ⊕ z ⊗ c6) ⊕ w ⊗ ((c8 ⊕ z ⊗ c10) ⊕ w ⊗ (c12 ⊕ z ⊗ c14)) in
    let h = half ⊗ z in
    let s = one ⊕ h in
    s ⊕ (one ⊖ s ⊕ h ⊕ w ⊗ p)

-- (e^a + e^-a) / 2 of e^a in two parts
unfoldable pub half_sum : Pair → Float
half_sum p = half ⊗ (p.hi ⊕ (p.lo ⊕ one ⊘ (p.hi ⊕ p.lo)))

-- of an a with no minus sign: the polynomial below 1, by e^a to 705, half of e^a beyond
unfoldable pub cosh_magnitude : Float → Float
unfolding cosh_small half_sum exp_pair half_exp_far limit
cosh_magnitude a =
    cond (lt a one) (cosh_small a)
    (cond (le a limit) (half_sum (exp_pair a)) (half_exp_far a))

-- the sign is taken off
unfoldable pub cosh_of : Float → Float
unfolding cosh_magnitude
cosh_of nan = nan
cosh_of (inf s) = inf false
cosh_of (fin s m e) = cosh_magnitude (fin false m e)
