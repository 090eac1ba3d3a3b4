-- For every x from -705 to 705 cosh is finite: the magnitude is below 1, where the polynomial stays small, or exp's pair is in range. Its value at 0, by computation. Assumes nothing.
use mathlib.Core.Path.{◌≡◌, refl, sym, subst}
use mathlib.Core.List.{[], ◌∷◌}
use lib.Dec.{T}
use lib.Ieee.{Float, binary64, of_bits, add, sub, mul, lt, le}
use lib.Ieee.Scale.{finite}
use Rattle.laws.proofs.Interval.{Interval, iv, Expr, var, lit, sum, difference, product, share, eval, passes, bounded, in-literals}
use Rattle.laws.proofs.Value.{bare}
use Rattle.exponential.specs.Exp.{limit, lower_limit}
use Rattle.exponential.specs.Cosh.{cosh_small, half_sum, cosh_magnitude, cosh_of}
use Rattle.exponential.proofs.Ranges.{sum-finite}
use Rattle.exponential.proofs.Magnitudes.{split-finite, bare-not-below-zero, bare-within}
use Rattle.exponential.proofs.Signs.{cosh-by-magnitude}

-- ---- below 1
abbrev unit : Interval
unit = iv (of_bits binary64 0) (of_bits binary64 0x3FF0000000000000)

small-expr : Expr
small-expr =
    let c4 = lit (of_bits binary64 0x3FA5555555555552) in
    let c6 = lit (of_bits binary64 0x3F56C16C16C18A85) in
    let c8 = lit (of_bits binary64 0x3EFA01A019A8A9C0) in
    let c10 = lit (of_bits binary64 0x3E927E5016692081) in
    let c12 = lit (of_bits binary64 0x3E21EE7D6DFC5CCA) in
    let c14 = lit (of_bits binary64 0x3DA98AA830664B9D) in
    let one = lit (of_bits binary64 0x3FF0000000000000) in
    let s = var 0 in
    let h = var 1 in
    let w = var 2 in
    let z = var 3 in
    let p = sum (sum c4 (product z c6)) (product w (sum (sum c8 (product z c10)) (product w (sum c12 (product z c14))))) in
    share (product (var 0) (var 0))
    (share (product (var 0) (var 0))
    (share (product (lit (of_bits binary64 0x3FE0000000000000)) (var 1))
    (share (sum one (var 0))
    (sum s (sum (sum (difference one s) h) (product w p))))))

small-test : T (passes binary64 (unit ∷ []) small-expr (of_bits binary64 0) (of_bits binary64 0x4010000000000000))
unfolding passes small-expr
small-test = tt

small-finite : (a : Float) → T (le (of_bits binary64 0) a) → T (le a (of_bits binary64 0x3FF0000000000000)) → T (finite (cosh_small a))
unfolding eval small-expr cosh_small of_bits
small-finite a l h =
    (bounded binary64 (unit ∷ []) (a ∷ []) small-expr (of_bits binary64 0) (of_bits binary64 0x4010000000000000) (in-literals (of_bits binary64 0) (of_bits binary64 0x3FF0000000000000) a tt l h, tt) small-test).0

-- ---- every magnitude up to 705
magnitude-finite : (a : Float) → T (le (of_bits binary64 0) a) → T (le lower_limit a) → T (le a limit) → T (finite (cosh_magnitude a))
unfolding cosh_magnitude
magnitude-finite a z l h = split-finite cosh_small half_sum small-finite sum-finite a z l h

pub cosh-finite : (x : Float) → T (le lower_limit x) → T (le x limit) → T (finite (cosh_of x))
cosh-finite x l h =
    let b = bare-within x l h in
    subst (λ (z : Float). T (finite z)) (sym (cosh-by-magnitude x)) (magnitude-finite (bare x) (bare-not-below-zero x l) b.0 b.1)

pub cosh-at-zero : cosh_of (of_bits binary64 0) ≡ of_bits binary64 0x3FF0000000000000
unfolding cosh_of cosh_magnitude cosh_small of_bits add sub mul lt
cosh-at-zero = refl
