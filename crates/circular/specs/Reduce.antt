-- An angle a without a minus sign as hi + lo and a number of quarter turns, counted to 4. Own design: the scope leaves the formula open.
-- Definitions only.
use Rattle.std.specs.Prelude.{◌-◌, ◌%◌, cond, Float}
use Rattle.std.specs.Float.{binary64}
use Rattle.std.specs.Float.Ieee.{of_bits, to_bits, rem, lt}
use Rattle.laws.specs.Operators.{◌⊕◌, ◌⊖◌, ◌⊗◌}
use Rattle.machine.specs.Small.{nothing, half, two}
use Rattle.circular.specs.declared.reduce.Reduced.{Reduced}

-- above 65536 the rest by 182.212373908208, 29 turns rounded
unfoldable pub within_turns : Float → Float
within_turns a = cond (lt (of_bits binary64 0x40F0000000000000) a) (rem binary64 a (of_bits binary64 0x4066C6CBC45DC8DE)) a

-- The nearest whole number k of quarter turns is what a·(2/π) adds to 2^52, whose unit is 1. π/2 is p1 + p2 + p3, of 36, 36 and 53 digits:
-- k p1 and k p2 are exact.
unfoldable pub quarters_of : Float → Reduced
quarters_of a =
    let two_over_pi = of_bits binary64 0x3FE45F306DC9C883 in
    let p1 = of_bits binary64 0x3FF921FB54440000 in
    let p2 = of_bits binary64 0x3D868C234C4C0000 in
    let p3 = of_bits binary64 0x3B298A2E03707345 in
    let shift = of_bits binary64 0x4330000000000000 in
    let t = a ⊗ two_over_pi ⊕ shift in
    let k = t ⊖ shift in
    let high = a ⊖ k ⊗ p1 in
    let w = k ⊗ p2 in
    let r = high ⊖ w in
    let e = high ⊖ r ⊖ w ⊖ k ⊗ p3 in
    let hi = r ⊕ e in
    record { hi = hi; lo = r ⊖ hi ⊕ e; quarter = to_bits binary64 t % 4 }

-- below 0.78125 there is nothing to take off
unfoldable pub reduce_of : Float → Reduced
reduce_of a = cond (lt a (of_bits binary64 0x3FE9000000000000)) (record { hi = a; lo = nothing; quarter = 0 }) (quarters_of (within_turns a))

-- the leading 26 digits
unfoldable pub leading : Float → Float
leading r = let b = to_bits binary64 r in of_bits binary64 (b - b % 134217728)

-- above 2^20 the rest by 2
unfoldable pub within_two : Float → Float
within_two a = cond (lt (of_bits binary64 0x4130000000000000) a) (rem binary64 a two) a

-- π a: the nearest whole number of halves is what 2 a adds to 2^52, and what is left of a times π in two parts, 3.1415926814079285 of 26
-- digits and -2.7818135228334233e-8
unfoldable pub halves_of : Float → Reduced
halves_of a =
    let pi_high = of_bits binary64 0x400921FB58000000 in
    let pi_low = of_bits binary64 0xBE5DDE973DCB3B3A in
    let pi = of_bits binary64 0x400921FB54442D18 in
    let shift = of_bits binary64 0x4330000000000000 in
    let t = two ⊗ a ⊕ shift in
    let r = a ⊖ half ⊗ (t ⊖ shift) in
    let h = leading r in
    let p = h ⊗ pi_high in
    let q = h ⊗ pi_low ⊕ (r ⊖ h) ⊗ pi in
    let hi = p ⊕ q in
    record { hi = hi; lo = p ⊖ hi ⊕ q; quarter = to_bits binary64 t % 4 }

unfoldable pub reduce_pi_of : Float → Reduced
reduce_pi_of a = halves_of (within_two a)
