-- Complex arithmetic on pairs of f64 parts: each operation on a part rounds once. The scope's section Arithmetic, after num's
-- complex::Complex; in Algorithm 644 the product is ZMLT and the quotient ZDIV. Definitions only.
use Rattle.std.specs.Prelude.{Float}
use Rattle.std.specs.Float.Ieee.{neg}
use Rattle.laws.specs.Operators.{◌⊕◌, ◌⊖◌, ◌⊗◌, ◌⊘◌}
use Rattle.machine.specs.Small.{nothing}
use Rattle.complex.specs.declared.number.Complex.{Complex}

-- both parts +0
abbrev pub zero_pair : Complex
zero_pair = record { re = nothing; im = nothing }

unfoldable pub plus_of : Complex → Complex → Complex
plus_of z w = record { re = z.re ⊕ w.re; im = z.im ⊕ w.im }

unfoldable pub minus_of : Complex → Complex → Complex
minus_of z w = record { re = z.re ⊖ w.re; im = z.im ⊖ w.im }

unfoldable pub opposite_of : Complex → Complex
opposite_of z = record { re = neg z.re; im = neg z.im }

unfoldable pub conjugate_of : Complex → Complex
conjugate_of z = record { re = z.re; im = neg z.im }

-- (ac - bd, ad + bc)
unfoldable pub product_of : Complex → Complex → Complex
product_of z w = record { re = z.re ⊗ w.re ⊖ z.im ⊗ w.im; im = z.re ⊗ w.im ⊕ z.im ⊗ w.re }

unfoldable pub norm_square_of : Complex → Float
norm_square_of z = z.re ⊗ z.re ⊕ z.im ⊗ z.im

-- by the conjugate over c² + d²: ((ac + bd) / n, (bc - ad) / n)
unfoldable pub quotient_of : Complex → Complex → Complex
quotient_of z w =
    let n = norm_square_of w in
    record { re = (z.re ⊗ w.re ⊕ z.im ⊗ w.im) ⊘ n; im = (z.im ⊗ w.re ⊖ z.re ⊗ w.im) ⊘ n }

-- a real factor or divisor acts on each part
unfoldable pub times_real : Complex → Float → Complex
times_real z t = record { re = z.re ⊗ t; im = z.im ⊗ t }

unfoldable pub over_real : Complex → Float → Complex
over_real z t = record { re = z.re ⊘ t; im = z.im ⊘ t }

-- a real term acts on the real part alone
unfoldable pub plus_real : Complex → Float → Complex
plus_real z t = record { re = z.re ⊕ t; im = z.im }

unfoldable pub minus_real : Complex → Float → Complex
minus_real z t = record { re = z.re ⊖ t; im = z.im }

-- a real number over a complex one stands as (a, 0)
unfoldable pub real_over : Float → Complex → Complex
real_over a z = quotient_of (record { re = a; im = nothing }) z
