-- The hyperbolic sine of every x, DLMF 4.28.1. Own formulas: the scope leaves them open. Definitions only.
use Rattle.std.specs.Prelude.{false, cond, Float}
use Rattle.std.specs.Float.{nan, inf, fin, binary64}
use Rattle.std.specs.Float.Ieee.{of_bits, neg, lt, le}
use Rattle.laws.specs.Operators.{◌⊕◌, ◌⊖◌, ◌⊗◌, ◌⊘◌}
use Rattle.machine.specs.Small.{half, one}
use Rattle.exponential.specs.Exp.{limit, exp_pair, half_exp_far}
use Rattle.machine.specs.declared.pair.Pair.{Pair}

-- below 1: the odd polynomial of degree 15
unfoldable pub sinh_small : Float → Float
sinh_small a =
    let c3 = of_bits binary64 0x3FC5555555555555 in
    let c5 = of_bits binary64 0x3F81111111111198 in
    let c7 = of_bits binary64 0x3F2A01A01A00B9C2 in
    let c9 = of_bits binary64 0x3EC71DE3A5E9B752 in
    let c11 = of_bits binary64 0x3E5AE645336FFBC6 in
    let c13 = of_bits binary64 0x3DE612234504EC2F in
    let c15 = of_bits binary64 0x3D6B260B8B05750D in
    let z = a ⊗ a in
    let w = z ⊗ z in
    a ⊕ a ⊗ z ⊗ ((c3 ⊕ z ⊗ c5) ⊕ w ⊗ ((c7 ⊕ z ⊗ c9) ⊕ w ⊗ ((c11 ⊕ z ⊗ c13) ⊕ w ⊗ c15)))

-- (e^a - e^-a) / 2 of e^a in two parts
unfoldable pub half_difference : Pair → Float
half_difference p = half ⊗ (p.hi ⊕ (p.lo ⊖ one ⊘ (p.hi ⊕ p.lo)))

-- of an a with no minus sign: the polynomial below 1, by e^a to 705, half of e^a beyond
unfoldable pub sinh_magnitude : Float → Float
unfolding sinh_small half_difference exp_pair half_exp_far limit
sinh_magnitude a =
    cond (lt a one) (sinh_small a)
    (cond (le a limit) (half_difference (exp_pair a)) (half_exp_far a))

-- the sign is taken off and put back
unfoldable pub sinh_of : Float → Float
unfolding sinh_magnitude
sinh_of nan = nan
sinh_of (inf s) = inf s
sinh_of (fin s m e) = let r = sinh_magnitude (fin false m e) in cond s (neg r) r
