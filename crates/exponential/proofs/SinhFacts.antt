-- For every x from -705 to 705 sinh is finite: the magnitude is below 1, where the polynomial stays small, or exp's pair is in range. Its value at 0, by computation. Assumes nothing.
use mathlib.Core.Path.{◌≡◌, refl, sym, subst}
use mathlib.Core.Bool.{Bool, true, false, cond}
use mathlib.Core.List.{[], ◌∷◌}
use lib.Dec.{T}
use lib.Ieee.{Float, binary64, of_bits, neg, add, sub, mul, lt, le}
use lib.Ieee.Scale.{finite}
use Rattle.laws.proofs.Order.{neg-finite}
use Rattle.laws.proofs.Interval.{Interval, iv, Expr, var, lit, sum, product, share, eval, passes, bounded, in-literals}
use Rattle.laws.proofs.Value.{sign, bare}
use Rattle.exponential.specs.Exp.{limit, lower_limit}
use Rattle.exponential.specs.Sinh.{sinh_small, half_difference, sinh_magnitude, sinh_of}
use Rattle.exponential.proofs.Ranges.{difference-finite}
use Rattle.exponential.proofs.Magnitudes.{split-finite, bare-not-below-zero, bare-within}
use Rattle.exponential.proofs.Signs.{sinh-by-sign}

-- ---- below 1
abbrev unit : Interval
unit = iv (of_bits binary64 0) (of_bits binary64 0x3FF0000000000000)

small-expr : Expr
small-expr =
    let c3 = lit (of_bits binary64 0x3FC5555555555555) in
    let c5 = lit (of_bits binary64 0x3F81111111111198) in
    let c7 = lit (of_bits binary64 0x3F2A01A01A00B9C2) in
    let c9 = lit (of_bits binary64 0x3EC71DE3A5E9B752) in
    let c11 = lit (of_bits binary64 0x3E5AE645336FFBC6) in
    let c13 = lit (of_bits binary64 0x3DE612234504EC2F) in
    let c15 = lit (of_bits binary64 0x3D6B260B8B05750D) in
    let w = var 0 in
    let z = var 1 in
    let a = var 2 in
    share (product (var 0) (var 0))
    (share (product (var 0) (var 0))
    (sum a (product (product a z) (sum (sum c3 (product z c5)) (product w (sum (sum c7 (product z c9)) (product w (sum (sum c11 (product z c13)) (product w c15)))))))))

small-test : T (passes binary64 (unit ∷ []) small-expr (of_bits binary64 0) (of_bits binary64 0x4000000000000000))
unfolding passes small-expr
small-test = tt

small-finite : (a : Float) → T (le (of_bits binary64 0) a) → T (le a (of_bits binary64 0x3FF0000000000000)) → T (finite (sinh_small a))
unfolding eval small-expr sinh_small of_bits
small-finite a l h =
    (bounded binary64 (unit ∷ []) (a ∷ []) small-expr (of_bits binary64 0) (of_bits binary64 0x4000000000000000) (in-literals (of_bits binary64 0) (of_bits binary64 0x3FF0000000000000) a tt l h, tt) small-test).0

-- ---- every magnitude up to 705
magnitude-finite : (a : Float) → T (le (of_bits binary64 0) a) → T (le lower_limit a) → T (le a limit) → T (finite (sinh_magnitude a))
unfolding sinh_magnitude
magnitude-finite a z l h = split-finite sinh_small half_difference small-finite difference-finite a z l h

pub sinh-finite : (x : Float) → T (le lower_limit x) → T (le x limit) → T (finite (sinh_of x))
sinh-finite x l h =
    let b = bare-within x l h in
    let m = magnitude-finite (bare x) (bare-not-below-zero x l) b.0 b.1 in
    subst (λ (z : Float). T (finite z)) (sym (sinh-by-sign x)) (go (sign x) (sinh_magnitude (bare x)) m)
  where
    go : (s : Bool) (r : Float) → T (finite r) → T (finite (cond s (neg r) r))
    go true r f = neg-finite r f
    go false r f = f

pub sinh-at-zero : sinh_of (of_bits binary64 0) ≡ of_bits binary64 0
unfolding sinh_of sinh_magnitude sinh_small of_bits add sub mul lt
sinh-at-zero = refl
