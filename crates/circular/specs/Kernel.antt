-- The sine and the cosine of hi + lo for an angle of at most about π/4, the classic polynomials of degree 13 and 14 (fdlibm's
-- k_sin.c and k_cos.c), and the sine a number of quarter turns further on. Definitions only.
use Rattle.std.specs.Prelude.{ℕ, ◌/◌, ◌%◌, cond, eqb, Float}
use Rattle.std.specs.Float.{binary64}
use Rattle.std.specs.Float.Ieee.{of_bits}
use Rattle.machine.specs.Small.{half, one}
use Rattle.laws.specs.Operators.{◌⊕◌, ◌⊖◌, ◌⊗◌}

-- r = s2 + s3 z + .. + s6 z⁴ with z = hi², and hi + s1 hi³ + r hi⁵ + lo (1 - z / 2)
unfoldable pub sine_kernel : Float → Float → Float
sine_kernel hi lo =
    let s1 = of_bits binary64 0xBFC5555555555549 in
    let s2 = of_bits binary64 0x3F8111111110F8A6 in
    let s3 = of_bits binary64 0xBF2A01A019C161D5 in
    let s4 = of_bits binary64 0x3EC71DE357B1FE7D in
    let s5 = of_bits binary64 0xBE5AE5E68A2B9CEB in
    let s6 = of_bits binary64 0x3DE5D93A5ACFD57C in
    let z = hi ⊗ hi in
    let v = z ⊗ hi in
    let r = (s2 ⊕ z ⊗ (s3 ⊕ z ⊗ s4)) ⊕ z ⊗ (z ⊗ z) ⊗ (s5 ⊕ z ⊗ s6) in
    hi ⊖ (z ⊗ (half ⊗ lo ⊖ v ⊗ r) ⊖ lo ⊖ v ⊗ s1)

-- r = c1 z + c2 z² + .. + c6 z⁶, and 1 - z / 2 + r z - hi lo, with the rounding of 1 - z / 2 put back
unfoldable pub cosine_kernel : Float → Float → Float
cosine_kernel hi lo =
    let c1 = of_bits binary64 0x3FA555555555554C in
    let c2 = of_bits binary64 0xBF56C16C16C15177 in
    let c3 = of_bits binary64 0x3EFA01A019CB1590 in
    let c4 = of_bits binary64 0xBE927E4F809C52AD in
    let c5 = of_bits binary64 0x3E21EE9EBDB4B1C4 in
    let c6 = of_bits binary64 0xBDA8FAE9BE8838D4 in
    let z = hi ⊗ hi in
    let w = z ⊗ z in
    let r = z ⊗ (c1 ⊕ z ⊗ (c2 ⊕ z ⊗ c3)) ⊕ w ⊗ w ⊗ (c4 ⊕ z ⊗ (c5 ⊕ z ⊗ c6)) in
    let h = half ⊗ z in
    let t = one ⊖ h in
    t ⊕ (one ⊖ t ⊖ h ⊕ (z ⊗ r ⊖ hi ⊗ lo))

-- The sine of an angle `quarter` quarter turns further on, from the angle's sine s and cosine c: s, c, -s, -c and so on.
-- `minus` says how -s and -c are made.
unfoldable pub turned : (Float → Float) → ℕ → Float → Float → Float
turned minus quarter s c =
    let y = cond (eqb (quarter % 2) 0) s c in
    cond (eqb (quarter / 2 % 2) 0) y (minus y)
