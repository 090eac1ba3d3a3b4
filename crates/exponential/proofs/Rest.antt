-- What is left of an x from -705 to 705 once the nearest multiple of 1/32 is taken off is at most 1/64 either way: with 1/64 added it is from 0 to 1/32. Assumes nothing.
use mathlib.Core.Path.{refl}
use mathlib.Core.Bool.{false}
use Prim.Native.Nat.{◌+◌, ◌*◌, ◌^◌, ◌≤◌, ◌<◌}
use native.Mathlib.Omega.{arith}
use lib.Dec.{T, lit<, lit≤}
use lib.Ieee.{Float, binary64, of_bits, neg, add, sub, le, round}
use lib.Ieee.Exact.{HasValue}
use lib.Ieee.Positive.{den, den_pos}
use Rattle.laws.proofs.Order.{pos_part, neg_part, Rounds, plus, less, rounds-mono}
use Rattle.laws.proofs.Interval.{Interval, iv, In, checked, add_i, add-in}
use Rattle.laws.proofs.Grid.{Is, is-own, le_is, is-plus, is-less, is-sub, Snapped, snap-right, snap-sub}
use Rattle.exponential.specs.Exp.{limit, lower_limit, shifted, rest}
use Rattle.exponential.proofs.Reduction.{within-finite}
use Rattle.exponential.proofs.Ranges.{reduced}

-- the literals' values
shift-value : HasValue (of_bits binary64 0x42E8000000000000) false 6755399441055744 (2 ^ 5)
unfolding of_bits
shift-value = (refl, refl)

limit_is : Is limit 705 0 1
unfolding limit of_bits
limit_is = is-plus limit 705 1 (refl, refl)

lower-is : Is lower_limit 0 705 1
unfolding lower_limit limit of_bits neg
lower-is = is-less lower_limit 705 1 (refl, refl)

step-rounds : Rounds binary64 1 0 64 (of_bits binary64 0x3F90000000000000)
unfolding of_bits round
step-rounds = plus 1 refl refl

minus-rounds : Rounds binary64 0 1 64 (neg (of_bits binary64 0x3F90000000000000))
unfolding of_bits round neg
minus-rounds = less 1 refl refl

halves : Interval
halves = iv (neg (of_bits binary64 0x3F90000000000000)) (of_bits binary64 0x3F90000000000000)

module _ (x : Float) (l : T (le lower_limit x)) (h : T (le x limit)) where
  own : Is x (pos_part x) (neg_part x) (den x)
  own = is-own x (within-finite x l h)

  upper : pos_part x * 1 + 0 * den x ≤ 705 * den x + neg_part x * 1
  upper = le_is x limit (den_pos x) (lit< tt) own limit_is h

  lower : 0 * den x + neg_part x * 1 ≤ pos_part x * 1 + 705 * den x
  lower = le_is lower_limit x (lit< tt) (den_pos x) lower-is own l

  snapped : Snapped (pos_part x) (neg_part x) (den x) 6755399441055744 5 (shifted x)
  unfolding shifted
  snapped =
      snap-right (pos_part x) (neg_part x) (den x) 6755399441055744 5 (of_bits binary64 0x42E8000000000000) x (den_pos x) (lit≤ tt) shift-value own
      (let u = upper in let v = lower in let d = den_pos x in omega arith) (let u = upper in let v = lower in let d = den_pos x in omega arith)

  whole : Is (sub binary64 (shifted x) (of_bits binary64 0x42E8000000000000)) snapped.q 6755399441055744 (2 ^ 5)
  whole = snap-sub (shifted x) (of_bits binary64 0x42E8000000000000) snapped (lit≤ tt) (lit≤ tt) shift-value

  left : Float
  left = sub binary64 x (sub binary64 (shifted x) (of_bits binary64 0x42E8000000000000))

  left-rounds : Rounds binary64 (pos_part x * 2 ^ 5 + 6755399441055744 * den x) (neg_part x * 2 ^ 5 + snapped.q * den x) (den x * 2 ^ 5) left
  unfolding left
  left-rounds = is-sub binary64 x (sub binary64 (shifted x) (of_bits binary64 0x42E8000000000000)) (den_pos x) (lit< tt) own whole

  den-step : 0 < den x * 2 ^ 5
  den-step = let d = den_pos x in omega arith

  left-low : T (le (neg (of_bits binary64 0x3F90000000000000)) left)
  left-low =
      rounds-mono binary64 0 1 64 (pos_part x * 2 ^ 5 + 6755399441055744 * den x) (neg_part x * 2 ^ 5 + snapped.q * den x) (den x * 2 ^ 5) (neg (of_bits binary64 0x3F90000000000000)) left
      (lit< tt) den-step minus-rounds left-rounds (let a = snapped.above in omega arith)

  left-high : T (le left (of_bits binary64 0x3F90000000000000))
  left-high =
      rounds-mono binary64 (pos_part x * 2 ^ 5 + 6755399441055744 * den x) (neg_part x * 2 ^ 5 + snapped.q * den x) (den x * 2 ^ 5) 1 0 64 left (of_bits binary64 0x3F90000000000000)
      den-step (lit< tt) left-rounds step-rounds (let a = snapped.below in omega arith)

  pub rest_in : In reduced (rest x)
  unfolding rest left halves add_i checked of_bits neg add le
  rest_in =
      add-in binary64 halves (iv (of_bits binary64 0x3F90000000000000) (of_bits binary64 0x3F90000000000000)) left (of_bits binary64 0x3F90000000000000)
      (tt, tt, left-low, left-high) (tt, tt, tt, tt) tt
