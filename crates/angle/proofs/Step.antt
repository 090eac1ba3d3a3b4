-- The quotient of the sides lies between 0 and 1, so that its nearest 64th does, and the step's index is at most 64. Assumes nothing.
use mathlib.Core.Path.{◌≡◌, sym, subst}
use mathlib.Core.List.{[], ◌∷◌}
use mathlib.Core.Bool.{◌&&◌}
use Prim.Native.Nat.{◌≤◌, ◌<◌}
use native.Mathlib.Omega.{arith}
use lib.Dec.{T, lit<}
use lib.Ieee.{binary64, of_bits, to_bits, add, div, le}
use lib.Ieee.Fits.{and_i, add-fits}
use lib.Ieee.Scale.{finite}
use lib.Ieee.Positive.{positive}
use Rattle.laws.proofs.Order.{nought, finite-between}
use Rattle.laws.proofs.Bits.{bits-between}
use Rattle.laws.proofs.Interval.{Interval, iv, Inside, Expr, var, lit, sum, difference, eval, passes, Between, bounded, in-literals}
use Rattle.machine.specs.Small.{nothing, one}
use Rattle.angle.proofs.Ends.{positive-above, quotient-at-most-one, quotient-at-least-zero}
use Rattle.angle.proofs.Sides.{from_zero, to-zero}
use Rattle.angle.specs.Angle.{grid, step_of}
use Rattle.angle.specs.shapes.Range.{lowest, highest, Ranged}
use Rattle.angle.specs.declared.angle.Triangle.{Triangle}
use Rattle.angle.specs.declared.angle.Step.{Step}

unit : Interval
unit = iv (of_bits binary64 0) (of_bits binary64 0x3FF0000000000000)

moved : Expr
moved = sum (var 0) (lit (of_bits binary64 0x42D0000000000000))

back : Expr
back = difference moved (lit (of_bits binary64 0x42D0000000000000))

moved-test : T (passes binary64 (unit ∷ []) moved (of_bits binary64 0x42D0000000000000) (of_bits binary64 0x42D0000000000040))
unfolding passes unit moved
moved-test = tt

back-test : T (passes binary64 (unit ∷ []) back (of_bits binary64 0) (of_bits binary64 0x3FF0000000000000))
unfolding passes unit back moved
back-test = tt

module _ (s : Triangle) (r : Ranged s) where
  pub long-finite : T (finite s.long)
  unfolding lowest highest
  long-finite = finite-between lowest s.long highest (unfold of_bits in tt) (unfold of_bits in tt) r.low r.high

  pub long-positive : T (positive s.long)
  unfolding lowest
  long-positive = positive-above lowest s.long (unfold of_bits in tt) long-finite r.low

  pub short-above : T (le nought s.short)
  short-above = from_zero s.short r.start

  short-finite : T (finite s.short)
  short-finite = finite-between nought s.short s.long tt long-finite short-above r.order

  pub quotient-between : Between nothing one (div binary64 s.short s.long)
  quotient-between =
      let l = quotient-at-least-zero s.short s.long short-finite long-positive short-above in
      let u = quotient-at-most-one s.short s.long short-finite long-positive r.order in
      (finite-between nought (div binary64 s.short s.long) one tt (unfold of_bits in tt) l u, to-zero (div binary64 s.short s.long) l, u)

  inside : Inside (unit ∷ []) (div binary64 s.short s.long ∷ [])
  unfolding unit
  inside = (in-literals (of_bits binary64 0) (of_bits binary64 0x3FF0000000000000) (div binary64 s.short s.long) (unfold of_bits in tt) quotient-between.1 quotient-between.2, tt)

  sum-between : Between (of_bits binary64 0x42D0000000000000) (of_bits binary64 0x42D0000000000040) (add binary64 (div binary64 s.short s.long) grid)
  unfolding eval moved grid
  sum-between = bounded binary64 (unit ∷ []) (div binary64 s.short s.long ∷ []) moved (of_bits binary64 0x42D0000000000000) (of_bits binary64 0x42D0000000000040) inside moved-test

  pub sum-finite : T (finite (add binary64 (div binary64 s.short s.long) grid))
  sum-finite = sum-between.0

  pub index-bounds : (0x42D0000000000000 ≤ to_bits binary64 (add binary64 (div binary64 s.short s.long) grid)) × (to_bits binary64 (add binary64 (div binary64 s.short s.long) grid) ≤ 0x42D0000000000040)
  index-bounds =
      bits-between 0x42D0000000000000 0x42D0000000000040 (add binary64 (div binary64 s.short s.long) grid) (lit< tt) (lit< tt) (lit< tt)
      (add-fits binary64 (div binary64 s.short s.long) grid) sum-between.1 sum-between.2

  pub index_below : (step_of s).index < 65
  unfolding step_of
  index_below = let h = index-bounds in omega arith

  pub value-between : Between nothing one (step_of s).value
  unfolding step_of eval back moved grid
  value-between = bounded binary64 (unit ∷ []) (div binary64 s.short s.long ∷ []) back (of_bits binary64 0) (of_bits binary64 0x3FF0000000000000) inside back-test

  -- as a callee's result has them
  pub index_at : (u : Step) → u ≡ step_of s → u.index < 65
  index_at u e = subst (λ (v : Step). v.index < 65) (sym e) index_below

  pub value-at : (u : Step) → u ≡ step_of s → T (le nothing u.value && le u.value one)
  value-at u e =
      subst (λ (v : Step). T (le nothing v.value && le v.value one)) (sym e) (and_i (le nothing (step_of s).value) (le (step_of s).value one) value-between.1 value-between.2)
