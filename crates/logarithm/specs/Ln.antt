-- The natural logarithm, by its bits and the tables: x = 2^e m, ln x = e ln 2 - ln c + ln(1 + r) with c near 1/m. Own design, after the
-- table method: the scope leaves the formula open. DLMF 4.6.1 for the series. Definitions only.
use Rattle.std.specs.Prelude.{ℕ, zero, suc, ◌+◌, ◌-◌, ◌*◌, ◌/◌, ◌%◌, ◌^◌, true, false, cond, ltb, pos, get_or, Float}
use Rattle.std.specs.Int.Count.{count_leading_zeros}
use Rattle.std.specs.Float.{nan, inf, fin, binary64}
use Rattle.std.specs.Float.Ieee.{of_bits, to_bits, of_int, neg, add, sub, mul}
use Rattle.logarithm_tables.specs.Tables.{reciprocals, excesses, logarithms_high, logarithms_low}

-- ln 2 in two parts, 0.6931471805598903 and 5.497923018708371e-14
abbrev pub ln2_high : Float
ln2_high = of_bits binary64 0x3FE62E42FEFA3800

abbrev pub ln2_low : Float
ln2_low = of_bits binary64 0x3D2EF35793C76730

-- ln (1 + r) - r: r^2 times a polynomial with the coefficients -0.5000000000000001, 0.33333333333333415, -0.24999999992316846,
-- 0.19999999984739103, -0.16667294993901074, 0.14286470779586052
unfoldable pub tail_of : Float → Float
tail_of r =
    let s = mul binary64 r r in
    mul binary64 s
    (add binary64 (add binary64 (neg (of_bits binary64 0x3FE0000000000001)) (mul binary64 r (of_bits binary64 0x3FD5555555555564)))
    (mul binary64 s
    (add binary64 (add binary64 (neg (of_bits binary64 0x3FCFFFFFFFD5C2EC)) (mul binary64 r (of_bits binary64 0x3FC999999945B3CC)))
    (mul binary64 s (add binary64 (neg (of_bits binary64 0x3FC5558A0A8ED5B1)) (mul binary64 r (of_bits binary64 0x3FC2496407DE2F42)))))))

-- e ln 2 + (high + low) + ln (1 + r)
unfoldable pub joined : Float → Float → Float → Float → Float
unfolding tail_of
joined e r high low =
    let whole = add binary64 (mul binary64 e ln2_high) high in
    let sum = add binary64 whole r in
    let lost = add binary64 (sub binary64 whole sum) r in
    add binary64 sum (add binary64 (add binary64 lost (add binary64 (mul binary64 e ln2_low) low)) (tail_of r))

-- the number with the pattern `bits`, times 2 ^ (1023 - bias): row j of the tables is that of the piece nearest to its mantissa
unfoldable pub ln_wide : ℕ → Float → Float
unfolding joined reciprocals excesses logarithms_high logarithms_low
ln_wide bits bias =
    let moved = bits + 2 ^ 44 in
    let field = moved / 2 ^ 52 in
    let j = moved / 2 ^ 45 % 128 in
    let mantissa = of_bits binary64 (bits + 0x3FF0000000000000 - field * 2 ^ 52) in
    let middle = of_bits binary64 (0x3FF0000000000000 + j * 2 ^ 45) in
    joined (sub binary64 (of_int binary64 (pos field)) bias)
    (add binary64 (get_or excesses j nan) (mul binary64 (sub binary64 mantissa middle) (get_or reciprocals j nan)))
    (get_or logarithms_high j nan)
    (get_or logarithms_low j nan)

-- a subnormal, brought to full width by its count of leading zeros
unfoldable pub ln_narrow : ℕ → Float
unfolding ln_wide
ln_narrow bits =
    let shift = count_leading_zeros 64 bits - 11 in
    ln_wide (bits * 2 ^ shift) (add binary64 (of_bits binary64 0x408FF80000000000) (of_int binary64 (pos shift)))

-- 1023 is the bias of a number that has its leading digit
unfoldable pub ln_bits : ℕ → Float
unfolding ln_narrow ln_wide
ln_bits bits = cond (ltb bits (2 ^ 52)) (ln_narrow bits) (ln_wide bits (of_bits binary64 0x408FF80000000000))

-- ln of either zero is minus infinity, of infinity infinity, of a negative or a not-a-number nan
unfoldable pub ln_of : Float → Float
unfolding ln_bits
ln_of nan = nan
ln_of (inf true) = nan
ln_of (inf false) = inf false
ln_of (fin s zero e) = inf true
ln_of (fin true (suc m) e) = nan
ln_of (fin false (suc m) e) = ln_bits (to_bits binary64 (fin false (suc m) e))
