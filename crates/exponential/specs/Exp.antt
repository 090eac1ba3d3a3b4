-- e^x for every x, by two tables and a polynomial up to 705 in magnitude, by the square of e^(x/2) beyond. Own design, after the table
-- method: the scope leaves the formula open. DLMF 4.2.19 for the series. Definitions only.
use Rattle.std.specs.Prelude.{false, cond, ◌&&◌, ℕ, ◌-◌, ◌/◌, ◌%◌, Float}
use Rattle.std.specs.Float.{nan, inf, binary64}
use Rattle.std.specs.Float.Ieee.{of_bits, to_bits, neg, lt, le, ne}
use Rattle.machine.specs.Small.{half, nothing}
use Rattle.laws.specs.Operators.{◌⊕◌, ◌⊖◌, ◌⊗◌}
use Rattle.exponential_tables.specs.Tables.{coarse_power, fine_power}
use Rattle.machine.specs.declared.pair.Pair.{Pair}

-- 705 and -705
unfoldable pub limit : Float
limit = of_bits binary64 0x4086080000000000

unfoldable pub lower_limit : Float
unfolding limit
lower_limit = neg limit

-- e^g - 1 for g from 0 to 1/32
unfoldable pub growth : Float → Float
growth g =
    let c2 = of_bits binary64 0x3FE0000000000D62 in
    let c3 = of_bits binary64 0x3FC55555551163E3 in
    let c4 = of_bits binary64 0x3FA55555D21BA739 in
    let c5 = of_bits binary64 0x3F8110A6CC0B647D in
    let c6 = of_bits binary64 0x3F5716B86F603ABE in
    let z = g ⊗ g in
    g ⊕ z ⊗ ((c2 ⊕ g ⊗ c3) ⊕ z ⊗ ((c4 ⊕ g ⊗ c5) ⊕ z ⊗ c6))

-- the product of a coarse and a fine power and 1 + q: the leading product is exact
unfoldable pub product : Pair → Pair → Float → Pair
product e f q =
    let ph = e.hi ⊗ f.hi in
    let pl = e.hi ⊗ f.lo ⊕ e.lo ⊗ (f.hi ⊕ f.lo) in
    record { hi = ph; lo = pl ⊕ (ph ⊕ pl) ⊗ q }

-- x plus 1.5 * 2^47, whose last digit is worth 1/32
unfoldable pub shifted : Float → Float
shifted x = x ⊕ of_bits binary64 0x42E8000000000000

-- the nearest multiple of 1/32, counted from -708 on
unfoldable pub steps : Float → ℕ
unfolding shifted
steps x = to_bits binary64 (shifted x) - 0x42E7FFFFFFFFA780

-- how far x lies above that multiple, and 1/64 more, so that it is never below 0
unfoldable pub rest : Float → Float
unfolding shifted
rest x = x ⊖ (shifted x ⊖ of_bits binary64 0x42E8000000000000) ⊕ of_bits binary64 0x3F90000000000000

-- e^x in two parts, for x from -705 to 705
unfoldable pub exp_pair : Float → Pair
unfolding growth product steps rest coarse_power fine_power
exp_pair x = product (coarse_power (steps x / 256)) (fine_power (steps x % 256)) (growth (rest x))

-- the square of a pair's sum, times first and second, which undo the square of scale: the one rounding below the normal numbers is the last
unfoldable pub square : Pair → Float → Float → Float → Float
square p scale first second =
    let s = p.hi ⊕ p.lo in
    let c = s ⊗ scale in
    let d = (p.hi ⊖ s ⊕ p.lo) ⊗ scale in
    (c ⊗ c ⊕ (c ⊕ c) ⊗ d) ⊗ first ⊗ second

-- e^x beyond 705 in magnitude: infinity above 710, 0 below -746; the scales are 2^-500 and 2^500, 2^520 and 2^-520
unfoldable pub exp_far : Float → Float
unfolding exp_pair square
exp_far x =
    cond (ne x x) nan
    (cond (lt (of_bits binary64 0x4086300000000000) x) (inf false)
    (cond (lt x (neg (of_bits binary64 0x4087500000000000))) nothing
    (cond (lt nothing x)
    (square (exp_pair (half ⊗ x)) (of_bits binary64 0x20B0000000000000) (of_bits binary64 0x5F30000000000000) (of_bits binary64 0x5F30000000000000))
    (square (exp_pair (half ⊗ x)) (of_bits binary64 0x6070000000000000) (of_bits binary64 0x1F70000000000000) (of_bits binary64 0x1F70000000000000)))))

-- the sum of a pair's parts
unfoldable pub total : Pair → Float
total p = p.hi ⊕ p.lo

-- e^x
unfoldable pub exp_of : Float → Float
unfolding limit lower_limit exp_pair exp_far total
exp_of x = cond (le lower_limit x && le x limit) (total (exp_pair x)) (exp_far x)

-- half of e^a for a above 705: infinity above 711
unfoldable pub half_exp_far : Float → Float
unfolding exp_pair square
half_exp_far a =
    cond (ne a a) nan
    (cond (lt (of_bits binary64 0x4086380000000000) a) (inf false)
    (square (exp_pair (half ⊗ a)) (of_bits binary64 0x20B0000000000000) (of_bits binary64 0x5F30000000000000) (of_bits binary64 0x5F20000000000000)))
