-- The reduction of an x from -705 to 705: adding 1.5 * 2^47 rounds x to a multiple of 1/32, whose count from -708 on is from 96 to 45216. Assumes nothing.
use mathlib.Core.Path.{◌≡◌, refl, subst}
use Prim.Native.Nat.{◌≤◌}
use native.Mathlib.Omega.{arith}
use mathlib.Core.Bool.{false, not}
use lib.Dec.{T, lit<}
use lib.Ieee.{Float, binary64, of_bits, to_bits, inf, add, mul, div, neg, lt, le, is_nan, fits}
use lib.Ieee.Fits.{add-fits}
use lib.Ieee.Scale.{finite}
use Rattle.laws.proofs.Order.{le-refl-finite, le-trans-float, finite-between, add-mono}
use Rattle.laws.proofs.Interval.{Interval, iv, In, checked, mul_i, mul_by, mul_pos, mul_in}
use Rattle.laws.proofs.Value.{finite-no-nan}
use Rattle.laws.proofs.Bits.{bits-between, bits-finite}
use Rattle.machine.specs.Small.{half}
use Rattle.exponential.proofs.Tests.{not-below, ordered}
use Rattle.exponential.specs.Exp.{limit, lower_limit, shifted, steps}

-- where the extremes are rounded to

lowest : add binary64 lower_limit (of_bits binary64 0x42E8000000000000) ≡ of_bits binary64 0x42E7FFFFFFFFA7E0
unfolding add of_bits neg lower_limit limit
lowest = refl

highest : add binary64 limit (of_bits binary64 0x42E8000000000000) ≡ of_bits binary64 0x42E8000000005820
unfolding add of_bits limit
highest = refl

lower-finite : T (finite lower_limit)
unfolding of_bits neg lower_limit limit
lower-finite = tt

limit-finite : T (finite limit)
unfolding of_bits limit
limit-finite = tt

shift-finite : T (finite (of_bits binary64 0x42E8000000000000))
shift-finite = bits-finite 0x42E8000000000000 (lit< tt)

module _ (x : Float) (l : T (le lower_limit x)) (h : T (le x limit)) where
  pub within-finite : T (finite x)
  within-finite = finite-between lower_limit x limit lower-finite limit-finite l h

  shifted-low : T (le (of_bits binary64 0x42E7FFFFFFFFA7E0) (shifted x))
  unfolding shifted
  shifted-low =
      subst (λ (z : Float). T (le z (shifted x))) lowest
      (add-mono binary64 lower_limit x (of_bits binary64 0x42E8000000000000) (of_bits binary64 0x42E8000000000000) lower-finite within-finite shift-finite shift-finite l
      (le-refl-finite (of_bits binary64 0x42E8000000000000) shift-finite))

  shifted-high : T (le (shifted x) (of_bits binary64 0x42E8000000005820))
  unfolding shifted
  shifted-high =
      subst (λ (z : Float). T (le (shifted x) z)) highest
      (add-mono binary64 x limit (of_bits binary64 0x42E8000000000000) (of_bits binary64 0x42E8000000000000) within-finite limit-finite shift-finite shift-finite h
      (le-refl-finite (of_bits binary64 0x42E8000000000000) shift-finite))

  shifted_fits : T (fits binary64 (shifted x))
  unfolding shifted
  shifted_fits = add-fits binary64 x (of_bits binary64 0x42E8000000000000)

  pub shifted-bits : (0x42E7FFFFFFFFA7E0 ≤ to_bits binary64 (shifted x)) × (to_bits binary64 (shifted x) ≤ 0x42E8000000005820)
  shifted-bits = bits-between 0x42E7FFFFFFFFA7E0 0x42E8000000005820 (shifted x) (lit< tt) (lit< tt) (lit< tt) shifted_fits shifted-low shifted-high

  shifted-finite : T (finite (shifted x))
  shifted-finite =
      finite-between (of_bits binary64 0x42E7FFFFFFFFA7E0) (shifted x) (of_bits binary64 0x42E8000000005820) (bits-finite 0x42E7FFFFFFFFA7E0 (lit< tt)) (bits-finite 0x42E8000000005820 (lit< tt))
      shifted-low shifted-high

  pub shifted-no-nan : T (not (is_nan (shifted x)))
  shifted-no-nan = finite-no-nan (shifted x) shifted-finite

  pub steps-range : (96 ≤ steps x) × (steps x ≤ 45216)
  unfolding steps
  steps-range = let b = shifted-bits in (omega arith, omega arith)

-- what is not below 1 is not below -705
below_one : T (le lower_limit (of_bits binary64 0x3FF0000000000000))
unfolding of_bits neg lower_limit limit le lt
below_one = tt

pub from_one : (a : Float) → lt a (of_bits binary64 0x3FF0000000000000) ≡ false → T (le a limit) → T (le lower_limit a) × T (le a limit)
from_one a l h =
    (le-trans-float lower_limit (of_bits binary64 0x3FF0000000000000) a below_one (not-below (of_bits binary64 0x3FF0000000000000) a (bits-finite 0x3FF0000000000000 (lit< tt)) (ordered a limit h) l), h)

-- how the code writes an infinity
pub one-over-nought : div binary64 (of_bits binary64 0x3FF0000000000000) (of_bits binary64 0) ≡ inf false
unfolding div of_bits
one-over-nought = refl

-- half of an x from -746 to 711 is in range
outer : Interval
unfolding of_bits neg
outer = iv (neg (of_bits binary64 0x4087500000000000)) (of_bits binary64 0x4086380000000000)

one-half : Interval
unfolding of_bits
one-half = iv half half

module _ (x : Float) (l : T (le (neg (of_bits binary64 0x4087500000000000)) x)) (h : T (le x (of_bits binary64 0x4086380000000000))) where
  halved : In (mul_i binary64 one-half outer) (mul binary64 half x)
  unfolding outer one-half of_bits neg le mul_i mul_by mul_pos checked mul
  halved = mul_in binary64 one-half outer half x (tt, tt, tt, tt) (tt, tt, l, h) tt

  pub halved-within : T (le lower_limit (mul binary64 half x)) × T (le (mul binary64 half x) limit)
  unfolding outer one-half of_bits neg le mul_i mul_by mul_pos checked mul lower_limit limit
  halved-within = (
    le-trans-float lower_limit (neg (of_bits binary64 0x4077500000000000)) (mul binary64 half x) tt halved.2,
    le-trans-float (mul binary64 half x) (of_bits binary64 0x4076380000000000) limit halved.3 tt,
  )
