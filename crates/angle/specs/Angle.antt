-- The angle of the point (x, y), atan2(y, x), from -π to π. The longer of |x| and |y| is a side of a triangle with an angle of at most π/4,
-- whose tangent is shorter / longer; that angle is a tabled atan(j/64) and a rest by a series, as an unevaluated sum, and is then turned
-- into its quadrant. The sign of y is put back last. A not-a-number gives the fixed one. Own design, after the table method: the scope
-- leaves the formula open. DLMF 4.24.3 for the series, 4.24.15 for the step from a tabled arc. Definitions only.
use Rattle.std.specs.Prelude.{◌-◌, ◌%◌, Bool, ◌||◌, cond, leb, Float}
use Rattle.std.specs.Float.{nan, binary64}
use Rattle.std.specs.Float.Ieee.{of_bits, to_bits, neg, add, sub, mul, div, lt, le, eq, is_nan}
use Rattle.machine.specs.Magnitude.{magnitude_of}
use Rattle.machine.specs.Small.{nothing, one}
use Rattle.angle_tables.specs.Tables.{tabled_of}
use Rattle.angle.specs.declared.angle.Triangle.{Triangle}
use Rattle.machine.specs.declared.pair.Pair.{Pair}
use Rattle.angle.specs.declared.angle.Tangent.{Tangent}
use Rattle.angle.specs.declared.angle.Step.{Step}

-- ---- constants

unfoldable pub infinity : Float
infinity = of_bits binary64 0x7FF0000000000000

-- 2^46, whose unit in the last place is 1/64
unfoldable pub grid : Float
grid = of_bits binary64 0x42D0000000000000

-- ---- digits and signs

unfoldable pub negative : Float → Bool
negative x = leb 0x8000000000000000 (to_bits binary64 x)

-- the leading 26 digits
unfoldable pub leading : Float → Float
leading x = of_bits binary64 (to_bits binary64 x - to_bits binary64 x % 0x8000000)

-- ---- the sides, brought into a range where no step over- or underflows

unfoldable pub larger_of : Float → Float → Float
larger_of y x = cond (lt x y) y x

unfoldable pub smaller_of : Float → Float → Float
smaller_of y x = cond (lt y x) y x

unfoldable pub sides_of : Float → Float → Triangle
sides_of y x = record {
  long = larger_of y x;
  short = smaller_of y x;
}

unfoldable pub times : Float → Triangle → Triangle
times c s = record {
  long = mul binary64 s.long c;
  short = mul binary64 s.short c;
}

-- what stands for a point on an axis, and for one on a diagonal
unfoldable pub flat : Triangle
flat = record {
  long = one;
  short = nothing;
}

unfoldable pub even : Triangle
even = record {
  long = one;
  short = one;
}

-- 2^-100; an infinity beside a finite side is as (1, 0), two are as (1, 1)
unfoldable pub lowered_of : Triangle → Triangle
lowered_of s = cond (eq s.long infinity) (cond (eq s.short infinity) even flat) (times (of_bits binary64 0x39B0000000000000) s)

-- 2^200; two zeros are as (1, 0)
unfoldable pub raised_of : Triangle → Triangle
raised_of s = cond (eq s.long nothing) flat (times (of_bits binary64 0x4C70000000000000) s)

-- above 2^1000, below 2^-800
unfoldable pub scaled_of : Triangle → Triangle
scaled_of s = cond (lt (of_bits binary64 0x7E70000000000000) s.long) (lowered_of s) (cond (lt s.long (of_bits binary64 0x0DF0000000000000)) (raised_of s) s)

-- ---- the arc between the longer side and the radius

-- the 64th nearest to shorter / longer: its index and its value
unfoldable pub step_of : Triangle → Step
step_of s =
    let t = add binary64 (div binary64 s.short s.long) grid in
    record {
      index = to_bits binary64 t - 0x42D0000000000000;
      value = sub binary64 t grid;
    }

-- (b - t a) / (a + t b), with a = longer and b = shorter: its value, and its leading digits with what they leave
unfoldable pub tangent_of : Triangle → Float → Tangent
tangent_of s t =
    let a = s.long in
    let b = s.short in
    let a_high = leading a in
    let above = sub binary64 b (mul binary64 t a_high) in
    let below = mul binary64 t (sub binary64 a a_high) in
    let n = sub binary64 above below in
    let n_low = sub binary64 (sub binary64 above n) below in
    let product = mul binary64 t b in
    let d = add binary64 a product in
    let d_low = add binary64 (sub binary64 a d) product in
    let inverse = div binary64 one d in
    let v = mul binary64 n inverse in
    let high = leading v in
    let d_high = leading d in
    let left = sub binary64 (sub binary64 n (mul binary64 high d_high)) (mul binary64 high (sub binary64 d d_high)) in
    let rest = add binary64 left (sub binary64 n_low (mul binary64 high d_low)) in
    record {
      value = v;
      high = high;
      low = mul binary64 rest inverse;
    }

-- atan v - v: v^3 (A3 + A5 v^2 + A7 v^4), with A3, A5, A7 = -0.33333333333333254, 0.19999999976440494, -0.1428469035713278
unfoldable pub series_of : Float → Float
series_of v =
    let z = mul binary64 v v in
    let inner = add binary64 (of_bits binary64 0x3FC999999918148B) (mul binary64 z (of_bits binary64 0xBFC248CEAD963C68)) in
    mul binary64 (mul binary64 v z) (add binary64 (of_bits binary64 0xBFD5555555555547) (mul binary64 z inner))

-- the tabled angle at the step and the arc of the tangent that is left
unfoldable pub joined_of : Pair → Tangent → Pair
joined_of base rest =
    let high = add binary64 base.hi rest.high in
    let carried = add binary64 (sub binary64 base.hi high) rest.high in
    record {
      hi = high;
      lo = add binary64 carried (add binary64 (add binary64 base.lo rest.low) (series_of rest.value));
    }

unfoldable pub tabled_arc_of : Triangle → Pair
tabled_arc_of s = let step = step_of s in joined_of (tabled_of step.index) (tangent_of s step.value)

-- up to 2^-28 the arc is its tangent
unfoldable pub arc_of : Triangle → Pair
arc_of s =
    cond (le s.short (mul binary64 s.long (of_bits binary64 0x3E30000000000000)))
    (record {
      hi = div binary64 s.short s.long;
      lo = nothing;
    })
    (tabled_arc_of s)

-- ---- the quadrant

-- the sum of two unevaluated sums, of which the first is the larger
unfoldable pub away_of : Pair → Pair → Float
away_of from by =
    let s = add binary64 from.hi by.hi in
    let carried = add binary64 (sub binary64 from.hi s) by.hi in
    add binary64 s (add binary64 carried (add binary64 from.lo by.lo))

unfoldable pub back_of : Pair → Pair
back_of arc = record {
  hi = neg arc.hi;
  lo = neg arc.lo;
}

-- π/2 and π: 1.5707963267948966 + 6.123233995736766e-17, 3.141592653589793 + 1.2246467991473532e-16
unfoldable pub quarter_turn : Pair
quarter_turn = record {
  hi = of_bits binary64 0x3FF921FB54442D18;
  lo = of_bits binary64 0x3C91A62633145C07;
}

unfoldable pub half_turn : Pair
half_turn = record {
  hi = of_bits binary64 0x400921FB54442D18;
  lo = of_bits binary64 0x3CA1A62633145C07;
}

-- steep: y is the longer side; left: x has a minus sign
unfoldable pub turned_of : Pair → Bool → Bool → Float
turned_of arc steep left =
    cond steep (cond left (away_of quarter_turn arc) (away_of quarter_turn (back_of arc)))
    (cond left (away_of half_turn (back_of arc)) (add binary64 arc.hi arc.lo))

-- the angle of a point above the axis, by the magnitudes of y and x and the side of x
unfoldable pub upper_of : Float → Float → Bool → Float
upper_of y x left = turned_of (arc_of (scaled_of (sides_of y x))) (lt x y) left

unfoldable pub angle_of : Float → Float → Float
angle_of y x =
    cond (is_nan y || is_nan x) nan
    (let r = upper_of (magnitude_of y) (magnitude_of x) (negative x) in cond (negative y) (neg r) r)
