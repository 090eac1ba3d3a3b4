-- Off ±1/2 the distance of Miller's steps, |1/4 - fraction²|, is not zero: a fraction is then at most the f64 below 1/2 in magnitude. Assumes nothing.
use mathlib.Core.Path.{◌≡◌, refl, sym, subst}
use mathlib.Core.Bool.{Bool, true, false, ◌||◌, cond}
use mathlib.Core.List.{[], ◌∷◌}
use Prim.Native.Nat.{ℕ, ◌≤◌, ◌<◌}
use native.Mathlib.Omega.{arith}
use lib.Dec.{T, lit<, lit≤}
use lib.Ieee.{Float, nan, inf, fin, binary64, fits, of_bits, to_bits, neg, sub, lt, le, eq}
use lib.Ieee.Bits.{of_bits-to_bits}
use lib.Ieee.Positive.{positive, between}
use lib.Ieee.Scale.{finite}
use Rattle.laws.specs.Operators.{◌⊖◌, ◌⊗◌}
use Rattle.laws.proofs.Value.{sign}
use Rattle.laws.proofs.Order.{nought, le-trans-float, finite-between, neg-anti, neg-finite, Le, le→Le}
use Rattle.laws.proofs.Sign.{le-neg-l}
use Rattle.laws.proofs.Bits.{bare-fits, bits-le, lt→to_bits, to_bits-back}
use Rattle.laws.proofs.Relative.{nonnegative, positive-num}
use Rattle.laws.proofs.Bound.{nonnegative-le}
use Rattle.laws.proofs.Interval.{iv, In, Expr, var, lit, difference, product, eval, passes, bounded}
use Rattle.machine.specs.Constants.{tolerance}
use Rattle.machine.specs.Small.{nothing, quarter, half}
use Rattle.machine.specs.Magnitude.{magnitude_of}
use Rattle.temme.specs.Difference.{fraction_square}
use Rattle.right_half_plane.specs.ByMiller.{is_half, order_of}

-- the f64 below 1/2
abbrev pub below_half : Float
below_half = of_bits binary64 0x3FDFFFFFFFFFFFFF

-- ---- of a magnitude that fits
strictly : (a b : Bool) → T (a || b) → b ≡ false → T a
strictly true b t e = tt
strictly false b t e = absurd (subst T e t)

half-fits : T (fits binary64 half)
unfolding fits of_bits
half-fits = tt

half-bits : to_bits binary64 half ≡ 0x3FE0000000000000
half-bits = to_bits-back 0x3FE0000000000000 (lit≤ tt)

half-finite : T (finite half) × (sign half ≡ false)
unfolding of_bits
half-finite = (tt, refl)

less-bits : (m : Float) → T (fits binary64 m) → T (finite m) → sign m ≡ false → T (le m half) → eq m half ≡ false → to_bits binary64 m ≤ 0x3FDFFFFFFFFFFFFF
unfolding le
less-bits m F f s h e =
    let l : T (lt m half) = strictly (lt m half) (eq m half) h e in
    under (to_bits binary64 m) (to_bits binary64 half) half-bits (lt→to_bits m half F half-fits f half-finite.0 s half-finite.1 l)
  where
    under : (b c : ℕ) → c ≡ 0x3FE0000000000000 → b < c → b ≤ 0x3FDFFFFFFFFFFFFF
    under b c e h = omega arith

-- ---- of either sign
magnitude-known :
    (v : Float) → T (fits binary64 v) → T (le (neg half) v) → T (le v half) → is_half v ≡ false →
    let m = magnitude_of v in T (fits binary64 m) × T (nonnegative m) × (to_bits binary64 m ≤ 0x3FDFFFFFFFFFFFFF)
unfolding is_half magnitude_of neg
magnitude-known nan F a b e = absurd (none b)
  where
    none : T (le nan half) → ⊥
    none h = unfold le lt eq in h
magnitude-known (inf s) F a b e = absurd (finite-between (neg half) (inf s) half (neg-finite half half-finite.0) half-finite.0 a b)
magnitude-known (fin false m x) F a b e = (F, tt, less-bits (fin false m x) F tt refl b e)
magnitude-known (fin true m x) F a b e =
    let G = bare-fits (fin true m x) F in
    (G, tt, less-bits (fin false m x) G tt refl (subst T (le-neg-l half (fin true m x)) a) e)

pub magnitude-bits : (v : Float) → T (fits binary64 v) → T (le (neg half) v) → T (le v half) → is_half v ≡ false → T (fits binary64 (magnitude_of v)) × (to_bits binary64 (magnitude_of v) ≤ 0x3FDFFFFFFFFFFFFF)
magnitude-bits v F a b e = let k = magnitude-known v F a b e in (k.0, k.2)

magnitude-below : (v : Float) → T (fits binary64 v) → T (le (neg half) v) → T (le v half) → is_half v ≡ false → T (le (magnitude_of v) below_half) × T (nonnegative (magnitude_of v))
magnitude-below v F a b e =
    let k = magnitude-known v F a b e in
    let m = magnitude_of v in
    (subst (λ (x : Float). T (le x below_half)) (of_bits-to_bits binary64 m k.0) (bits-le (to_bits binary64 m) 0x3FDFFFFFFFFFFFFF k.2 (lit< tt)), k.1)

pub inside-half : (v : Float) → T (fits binary64 v) → T (le (neg half) v) → T (le v half) → is_half v ≡ false → In (iv (neg below_half) below_half) v
unfolding magnitude_of neg
inside-half v F a b e = by v (magnitude-below v F a b e)
  where
    low : T (le (neg below_half) nought)
    low = unfold of_bits neg le in tt

    high : T (le (neg nought) below_half)
    high = unfold of_bits neg le in tt

    ends : T (finite (neg below_half)) × T (finite below_half)
    ends = (unfold of_bits neg in tt, unfold of_bits in tt)

    by : (v : Float) → T (le (magnitude_of v) below_half) × T (nonnegative (magnitude_of v)) → In (iv (neg below_half) below_half) v
    by nan h = absurd h.1
    by (inf s) h = absurd h.1
    by (fin false m x) h = (ends.0, ends.1, le-trans-float (neg below_half) nought (fin false m x) low (nonnegative-le nought (fin false m x) tt tt (omega arith)), h.0)
    by (fin true m x) h =
        let n : T (le (neg (fin false m x)) (neg nought)) = neg-anti nought (fin false m x) (nonnegative-le nought (fin false m x) tt tt (omega arith)) in
        (ends.0, ends.1, neg-anti (fin false m x) below_half h.0, le-trans-float (neg (fin false m x)) (neg nought) below_half n high)

-- ---- the distance
distance-expr : Expr
distance-expr = difference (lit quarter) (product (var 0) (var 0))

distance-test : T (passes binary64 (iv (neg below_half) below_half ∷ []) distance-expr (of_bits binary64 0x3C90000000000000) half)
unfolding passes distance-expr
distance-test = tt

square-away : (v : Float) → In (iv (neg below_half) below_half) v → T (positive (quarter ⊖ v ⊗ v))
unfolding eval distance-expr
square-away v p =
    let b = bounded binary64 (iv (neg below_half) below_half ∷ []) (v ∷ []) distance-expr (of_bits binary64 0x3C90000000000000) half (p, tt) distance-test in
    between (of_bits binary64 0x3C90000000000000) (quarter ⊖ v ⊗ v) half (unfold of_bits in tt) (unfold of_bits in tt) b.1 b.2

fraction-away : (v : Float) → In (iv (neg below_half) below_half) v → T (positive (quarter ⊖ fraction_square v))
unfolding fraction_square
fraction-away v p = go (lt tolerance (magnitude_of v))
  where
    go : (b : Bool) → T (positive (quarter ⊖ cond b (v ⊗ v) nothing))
    go true = square-away v p
    go false = unfold of_bits sub in tt

-- what is above zero is not zero
pub not-zero : (y : Float) → T (positive y) → eq (magnitude_of y) nothing ≡ false
unfolding magnitude_of le
not-zero nan p = absurd p
not-zero (inf s) p = absurd p
not-zero (fin true m x) p = absurd p
not-zero (fin false m x) p = by (eq (fin false m x) nothing) refl
  where
    by : (b : Bool) → eq (fin false m x) nothing ≡ b → eq (fin false m x) nothing ≡ false
    by true e = absurd (none (le→Le (fin false m x) nothing tt (unfold of_bits in tt) (least (lt (fin false m x) nothing) (eq (fin false m x) nothing) e)))
      where
        least : (a b : Bool) → b ≡ true → T (a || b)
        least true b e = tt
        least false b e = subst T (sym e) tt

        none : Le (fin false m x) nothing → ⊥
        none h = let n = positive-num (fin false m x) p in unfold of_bits in omega arith
    by false e = e

pub distance-not-zero : (v : Float) → T (fits binary64 v) → T (le (neg half) v) → T (le v half) → is_half v ≡ false → eq (order_of v (fraction_square v)).distance nothing ≡ false
unfolding order_of
distance-not-zero v F a b e = not-zero (quarter ⊖ fraction_square v) (fraction-away v (inside-half v F a b e))
