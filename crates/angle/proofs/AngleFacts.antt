-- The angle of a point is finite wherever neither part is a not-a-number, zeros and infinities included, and it is odd in y. The values on the
-- axes and at (1, 1) are the nearest f64, by computation. Assumes nothing.
use mathlib.Core.Path.{◌≡◌, refl, sym, ap, ◌∙◌, subst}
use mathlib.Core.List.{[], ◌∷◌}
use mathlib.Core.Bool.{Bool, true, false, not, cond}
use Prim.Native.Nat.{ℕ}
use lib.Dec.{T, lit<, lit≤}
use lib.Ieee.{Float, nan, binary64, of_bits, to_bits, neg, add, sub, mul, div, lt, le, eq, fits, is_nan}
use lib.Ieee.Bits.{is_false}
use lib.Ieee.Fits.{neg-fits}
use lib.Ieee.Scale.{finite}
use Rattle.laws.proofs.Value.{finite-no-nan}
use Rattle.laws.proofs.Order.{neg-finite}
use Rattle.laws.proofs.Sign.{neg-neg, neg-sign, neg-nan, bare-neg}
use Rattle.laws.proofs.Mag.{Mag, mag_test, mag-literal, mag-neg, mag-add, mag-sub}
use Rattle.machine.specs.Magnitude.{magnitude_of}
use Rattle.machine.proofs.MagnitudeFacts.{bare-is}
use Rattle.angle.proofs.Arc.{ArcSize, arc-size}
use Rattle.angle.proofs.Sides.{negative-is, magnitude-fits, magnitude-above, sides-ordered, scaled-ranged}
use Rattle.angle.specs.Angle.{infinity, grid, negative, leading, larger_of, smaller_of, sides_of, times, flat, even, lowered_of, raised_of, scaled_of, step_of, tangent_of, series_of, joined_of, tabled_arc_of, arc_of, away_of, back_of, quarter_turn, half_turn, turned_of, upper_of, angle_of}
use Rattle.angle_tables.specs.Tables.{atan_high, atan_low, tabled_of}
use Rattle.machine.specs.declared.pair.Pair.{Pair}

-- ---- finite
away-size : (c a : Pair) → Mag binary64 1076 c.hi → Mag binary64 1076 c.lo → ArcSize a → Mag binary64 1102 (away_of c a)
unfolding away_of
away-size c a h l m =
    let top : Mag binary64 1079 (add binary64 c.hi a.hi) = mag-add h m.high (lit< tt) (lit< tt) (lit≤ tt) in
    let less : Mag binary64 1080 (sub binary64 c.hi (add binary64 c.hi a.hi)) = mag-sub h top (lit< tt) (lit< tt) (lit≤ tt) in
    let carried : Mag binary64 1081 (add binary64 (sub binary64 c.hi (add binary64 c.hi a.hi)) a.hi) = mag-add less m.high (lit< tt) (lit< tt) (lit≤ tt) in
    let lows : Mag binary64 1100 (add binary64 c.lo a.lo) = mag-add l m.low (lit< tt) (lit< tt) (lit≤ tt) in
    mag-add {m = 1101} top (mag-add carried lows (lit< tt) (lit< tt) (lit≤ tt)) (lit< tt) (lit< tt) (lit≤ tt)

back-size : (a : Pair) → ArcSize a → ArcSize (back_of a)
unfolding back_of
back-size a m = record { high = mag-neg m.high; low = mag-neg m.low }

turned-size : (a : Pair) (steep left : Bool) → ArcSize a → Mag binary64 1102 (turned_of a steep left)
unfolding turned_of
turned-size a true true m = away-size quarter_turn a (unfold quarter_turn of_bits mag_test in mag-literal tt) (unfold quarter_turn of_bits mag_test in mag-literal tt) m
turned-size a true false m = away-size quarter_turn (back_of a) (unfold quarter_turn of_bits mag_test in mag-literal tt) (unfold quarter_turn of_bits mag_test in mag-literal tt) (back-size a m)
turned-size a false true m = away-size half_turn (back_of a) (unfold half_turn of_bits mag_test in mag-literal tt) (unfold half_turn of_bits mag_test in mag-literal tt) (back-size a m)
turned-size a false false m = mag-add m.high m.low (lit< tt) (lit< tt) (lit≤ tt)

signed : Bool → Float → Float
signed s r = cond s (neg r) r

signed-finite : (s : Bool) (r : Float) → T (finite r) → T (finite (signed s r))
unfolding signed
signed-finite true r f = neg-finite r f
signed-finite false r f = f

pub angle-number-finite : (y x : Float) → T (fits binary64 y) → T (fits binary64 x) → T (not (is_nan y)) → T (not (is_nan x)) → T (finite (angle_of y x))
unfolding angle_of upper_of signed
angle-number-finite y x F G n m =
    rw (is_false (is_nan y) n, is_false (is_nan x) m)
    (signed-finite (negative y) (turned_of (arc_of (scaled_of (sides_of (magnitude_of y) (magnitude_of x)))) (lt (magnitude_of x) (magnitude_of y)) (negative x))
    (turned-size (arc_of (scaled_of (sides_of (magnitude_of y) (magnitude_of x)))) (lt (magnitude_of x) (magnitude_of y)) (negative x)
    (arc-size (scaled_of (sides_of (magnitude_of y) (magnitude_of x)))
    (scaled-ranged (sides_of (magnitude_of y) (magnitude_of x)) (sides-ordered (magnitude_of y) (magnitude_of x) (magnitude-fits y F) (magnitude-fits x G) (magnitude-above y n) (magnitude-above x m))))
    ).fine)

pub angle-finite : (y x : Float) → T (fits binary64 y) → T (fits binary64 x) → T (finite y) → T (finite x) → T (finite (angle_of y x))
angle-finite y x F G f g = angle-number-finite y x F G (finite-no-nan y f) (finite-no-nan x g)

-- ---- odd in y
signed-not : (s : Bool) (r : Float) → signed (not s) r ≡ neg (signed s r)
unfolding signed
signed-not true r = sym (neg-neg r)
signed-not false r = refl

number : (y : Float) → is_nan y ≡ false → T (not (is_nan y))
number y p = subst (λ (b : Bool). T (not b)) (sym p) tt

same-magnitude : (y : Float) → magnitude_of (neg y) ≡ magnitude_of y
same-magnitude y = sym (bare-is (neg y)) ∙ bare-neg y ∙ bare-is y

other_sign : (y : Float) → T (fits binary64 y) → T (not (is_nan y)) → negative (neg y) ≡ not (negative y)
other_sign y F n =
    negative-is (neg y) (neg-fits binary64 y F) (subst (λ (b : Bool). T (not b)) (sym (neg-nan y)) n) ∙ neg-sign y n ∙ ap not (sym (negative-is y F n))

nan_is : nan ≡ neg nan
unfolding neg
nan_is = refl

pub angle-odd : (y x : Float) → T (fits binary64 y) → angle_of (neg y) x ≡ neg (angle_of y x)
unfolding angle_of signed
angle-odd y x F = go (is_nan y) (is_nan x) refl refl
  where
    go : (a b : Bool) → is_nan y ≡ a → is_nan x ≡ b → angle_of (neg y) x ≡ neg (angle_of y x)
    go true b p q = rw (neg-nan y, p) nan_is
    go false true p q = rw (neg-nan y, p, q) nan_is
    go false false p q =
        rw (neg-nan y, p, q, same-magnitude y, other_sign y F (number y p)) (signed-not (negative y) (upper_of (magnitude_of y) (magnitude_of x) (negative x)))

-- ---- values, by their patterns
unfoldable pub at : ℕ → ℕ → ℕ
at y x = to_bits binary64 (angle_of (of_bits binary64 y) (of_bits binary64 x))

-- 0, π/2, π, π/4, 3π/4 at (y, x) = (0, 1), (1, 0), (0, -1), (1, 1), (1, -1)
pub angle-values : (at 0 0x3FF0000000000000 ∷ at 0x3FF0000000000000 0 ∷ at 0 0xBFF0000000000000 ∷ at 0x3FF0000000000000 0x3FF0000000000000 ∷ at 0x3FF0000000000000 0xBFF0000000000000 ∷ [])
    ≡ (0 ∷ 0x3FF921FB54442D18 ∷ 0x400921FB54442D18 ∷ 0x3FE921FB54442D18 ∷ 0x4002D97C7F3321D2 ∷ [])
unfolding at angle_of upper_of turned_of away_of back_of quarter_turn half_turn arc_of tabled_arc_of joined_of series_of tangent_of step_of grid leading scaled_of lowered_of raised_of times flat even infinity sides_of larger_of smaller_of magnitude_of negative tabled_of atan_high atan_low neg of_bits to_bits is_nan lt le eq add sub mul div
angle-values = refl

-- ±0 beside +0 is itself, and beside -0 it is ±π
pub angle-zeros : (at 0 0 ∷ at 0x8000000000000000 0 ∷ at 0 0x8000000000000000 ∷ at 0x8000000000000000 0x8000000000000000 ∷ [])
    ≡ (0 ∷ 0x8000000000000000 ∷ 0x400921FB54442D18 ∷ 0xC00921FB54442D18 ∷ [])
unfolding at angle_of upper_of turned_of away_of back_of quarter_turn half_turn arc_of tabled_arc_of joined_of series_of tangent_of step_of grid leading scaled_of lowered_of raised_of times flat even infinity sides_of larger_of smaller_of magnitude_of negative tabled_of atan_high atan_low neg of_bits to_bits is_nan lt le eq add sub mul div
angle-zeros = refl

-- an infinity beside 1, and two infinities: 0, π, π/2, π/4, -3π/4; a not-a-number in either place
pub angle-infinities : (at 0x3FF0000000000000 0x7FF0000000000000 ∷ at 0x3FF0000000000000 0xFFF0000000000000 ∷ at 0x7FF0000000000000 0x3FF0000000000000 ∷ at 0x7FF0000000000000 0x7FF0000000000000 ∷ at 0xFFF0000000000000 0xFFF0000000000000 ∷ at 0x7FF8000000000000 0 ∷ at 0 0x7FF8000000000000 ∷ [])
    ≡ (0 ∷ 0x400921FB54442D18 ∷ 0x3FF921FB54442D18 ∷ 0x3FE921FB54442D18 ∷ 0xC002D97C7F3321D2 ∷ 0x7FF8000000000000 ∷ 0x7FF8000000000000 ∷ [])
unfolding at angle_of upper_of turned_of away_of back_of quarter_turn half_turn arc_of tabled_arc_of joined_of series_of tangent_of step_of grid leading scaled_of lowered_of raised_of times flat even infinity sides_of larger_of smaller_of magnitude_of negative tabled_of atan_high atan_low neg of_bits to_bits is_nan lt le eq add sub mul div
angle-infinities = refl
