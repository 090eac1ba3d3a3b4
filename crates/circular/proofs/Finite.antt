-- sin, cos, sin(πx) and cos(πx) of a finite argument are finite. Each formula is bounded on an interval, by the same operations on the interval's ends:
-- a magnitude of at most 2^20 gives |hi| ≤ 2^24 and |lo| ≤ 2^25, and on that box the kernels stay below 2^400. Assumes nothing.
use mathlib.Core.Path.{◌≡◌, refl, sym, ap, ◌∙◌, subst}
use mathlib.Core.Bool.{Bool, true, false, ◌&&◌, cond}
use mathlib.Core.List.{[], ◌∷◌}
use Prim.Native.Nat.{ℕ, ◌+◌, ◌*◌, ◌/◌, ◌%◌, ◌^◌, ◌≤◌, ◌<◌, zero-le}
use native.Mathlib.Omega.{arith}
use lib.Dec.{T, eqb, lit<, lit≤}
use lib.Ieee.{Float, binary64, round, rem, le, lt, neg, fits, to_bits, of_bits}
use lib.Ieee.Fits.{sub-fits}
use lib.Ieee.Exact.{HasValue}
use lib.Ieee.Order.{le_of_values}
use lib.Ieee.Scale.{finite}
use lib.Ieee.Bits.{of_bits-to_bits}
use lib.Ieee.Positive.{positive, num, den, den_pos}
use Rattle.laws.proofs.Value.{sign, bare, own-fraction, finite-no-nan}
use Rattle.laws.proofs.Order.{nought, le-trans-float, lt→le, not-lt→le, neg-anti, neg-finite}
use Rattle.laws.proofs.Interval.{Interval, iv, In, in-finite, Expr, var, lit, sum, difference, product, share, eval, passes, Between, bounded, in-literals}
use Rattle.laws.proofs.Bits.{inf_bits, cut, cut-le, cut-neg, bits-le, to_bits-finite, to_bits-neg, of_bits-neg, bare-fits, bare-finite, bare-sign, neg-bare}
use Rattle.circular.specs.declared.reduce.Reduced.{Reduced}
use Rattle.laws.specs.Operators.{◌⊕◌, ◌⊖◌, ◌⊗◌}
use Rattle.circular.specs.Kernel.{sine_kernel, cosine_kernel, turned}
use Rattle.circular.specs.Reduce.{within_turns, quarters_of, reduce_of, leading, within_two, halves_of, reduce_pi_of}
use Rattle.circular.specs.Sin.{sin_of}
use Rattle.circular.specs.Cos.{cos_of}
use Rattle.circular.specs.SinPi.{from_zero, sin_pi_of}
use Rattle.circular.specs.CosPi.{cos_pi_of}
use Rattle.circular.proofs.Parts.{at, sin-is, cos-is, sin_pi-is, cos_pi-is}
use Rattle.circular.proofs.Rest.{rem-range}

-- ---- the intervals: by the bits of their ends
abbrev flat : ℕ → ℕ → Interval
flat l h = iv (of_bits binary64 l) (of_bits binary64 h)

-- |hi| ≤ 2^24, |lo| ≤ 2^25, and the kernels' |y| ≤ 2^400
abbrev HI : Interval
HI = flat 0xC170000000000000 0x4170000000000000

abbrev LO : Interval
LO = flat 0xC180000000000000 0x4180000000000000

abbrev Small : Float → Type 0
Small y = Between (of_bits binary64 0xD8F0000000000000) (of_bits binary64 0x58F0000000000000) y

abbrev Boxed : Reduced → Type 0
Boxed r = In HI r.hi × In LO r.lo

inside : (l h : ℕ) (z : Float) → T (finite (of_bits binary64 l) && finite (of_bits binary64 h)) → Between (of_bits binary64 l) (of_bits binary64 h) z → In (flat l h) z
inside l h z t b = in-literals (of_bits binary64 l) (of_bits binary64 h) z t b.1 b.2

-- ---- the kernels on the box
sine-expr : Expr
sine-expr =
    share (product (var 0) (var 0))
    (share (product (var 0) (var 1))
    (share
    (sum
    (sum (lit (of_bits binary64 0x3F8111111110F8A6)) (product (var 1) (sum (lit (of_bits binary64 0xBF2A01A019C161D5)) (product (var 1) (lit (of_bits binary64 0x3EC71DE357B1FE7D))))))
    (product (product (var 1) (product (var 1) (var 1))) (sum (lit (of_bits binary64 0xBE5AE5E68A2B9CEB)) (product (var 1) (lit (of_bits binary64 0x3DE5D93A5ACFD57C))))))
    (difference (var 3)
    (difference
    (difference (product (var 2) (difference (product (lit (of_bits binary64 0x3FE0000000000000)) (var 4)) (product (var 1) (var 0)))) (var 4))
    (product (var 1) (lit (of_bits binary64 0xBFC5555555555549)))))))

sine-test : T (passes binary64 (HI ∷ LO ∷ []) sine-expr (of_bits binary64 0xD8F0000000000000) (of_bits binary64 0x58F0000000000000))
unfolding passes sine-expr
sine-test = tt

sine-small : (hi lo : Float) → In HI hi → In LO lo → Small (sine_kernel hi lo)
unfolding eval sine-expr sine_kernel
sine-small hi lo p q = bounded binary64 (HI ∷ LO ∷ []) (hi ∷ lo ∷ []) sine-expr (of_bits binary64 0xD8F0000000000000) (of_bits binary64 0x58F0000000000000) (p, (q, tt)) sine-test

cosine-expr : Expr
cosine-expr =
    share (product (var 0) (var 0))
    (share (product (var 0) (var 0))
    (share
    (sum
    (product (var 1) (sum (lit (of_bits binary64 0x3FA555555555554C)) (product (var 1) (sum (lit (of_bits binary64 0xBF56C16C16C15177)) (product (var 1) (lit (of_bits binary64 0x3EFA01A019CB1590)))))))
    (product (product (var 0) (var 0)) (sum (lit (of_bits binary64 0xBE927E4F809C52AD)) (product (var 1) (sum (lit (of_bits binary64 0x3E21EE9EBDB4B1C4)) (product (var 1) (lit (of_bits binary64 0xBDA8FAE9BE8838D4))))))))
    (share (product (lit (of_bits binary64 0x3FE0000000000000)) (var 2))
    (share (difference (lit (of_bits binary64 0x3FF0000000000000)) (var 0))
    (sum (var 0)
    (sum
    (difference (difference (lit (of_bits binary64 0x3FF0000000000000)) (var 0)) (var 1))
    (difference (product (var 4) (var 2)) (product (var 5) (var 6)))))))))

cosine-test : T (passes binary64 (HI ∷ LO ∷ []) cosine-expr (of_bits binary64 0xD8F0000000000000) (of_bits binary64 0x58F0000000000000))
unfolding passes cosine-expr
cosine-test = tt

cosine-small : (hi lo : Float) → In HI hi → In LO lo → Small (cosine_kernel hi lo)
unfolding eval cosine-expr cosine_kernel
cosine-small hi lo p q = bounded binary64 (HI ∷ LO ∷ []) (hi ∷ lo ∷ []) cosine-expr (of_bits binary64 0xD8F0000000000000) (of_bits binary64 0x58F0000000000000) (p, (q, tt)) cosine-test

-- ---- radians: a from 0 to 65536
abbrev A : Interval
A = iv nought (of_bits binary64 0x40F0000000000000)

quarters-expr : Expr → Expr
quarters-expr last =
    share (sum (product (var 0) (lit (of_bits binary64 0x3FE45F306DC9C883))) (lit (of_bits binary64 0x4330000000000000)))
    (share (difference (var 0) (lit (of_bits binary64 0x4330000000000000)))
    (share (difference (var 2) (product (var 0) (lit (of_bits binary64 0x3FF921FB54440000))))
    (share (product (var 1) (lit (of_bits binary64 0x3D868C234C4C0000)))
    (share (difference (var 1) (var 0))
    (share (difference (difference (difference (var 2) (var 0)) (var 1)) (product (var 3) (lit (of_bits binary64 0x3B298A2E03707345))))
    (share (sum (var 1) (var 0))
    last))))))

quarters-hi : Expr
unfolding quarters-expr
quarters-hi = quarters-expr (var 0)

quarters-lo : Expr
unfolding quarters-expr
quarters-lo = quarters-expr (sum (difference (var 2) (var 0)) (var 1))

quarters-hi-test : T (passes binary64 (A ∷ []) quarters-hi (of_bits binary64 0xC170000000000000) (of_bits binary64 0x4170000000000000))
unfolding passes quarters-hi
quarters-hi-test = tt

quarters-lo-test : T (passes binary64 (A ∷ []) quarters-lo (of_bits binary64 0xC180000000000000) (of_bits binary64 0x4180000000000000))
unfolding passes quarters-lo
quarters-lo-test = tt

quarters-boxed : (a : Float) → In A a → Boxed (quarters_of a)
unfolding eval quarters-hi quarters-lo quarters_of
quarters-boxed a p = (
  inside 0xC170000000000000 0x4170000000000000 (quarters_of a).hi (unfold of_bits in tt) (bounded binary64 (A ∷ []) (a ∷ []) quarters-hi (of_bits binary64 0xC170000000000000) (of_bits binary64 0x4170000000000000) (p, tt) quarters-hi-test),
  inside 0xC180000000000000 0x4180000000000000 (quarters_of a).lo (unfold of_bits in tt) (bounded binary64 (A ∷ []) (a ∷ []) quarters-lo (of_bits binary64 0xC180000000000000) (of_bits binary64 0x4180000000000000) (p, tt) quarters-lo-test),
)

-- what has no minus sign is at least 0
not-below-nought : (x : Float) → T (finite x) → sign x ≡ false → T (le nought x)
not-below-nought x f s = le_of_values nought x 0 1 (num x) (den x) (lit< tt) (den_pos x) (refl, refl) (subst (λ (t : Bool). HasValue x t (num x) (den x)) s (own-fraction x f)) (none (num x) (den x))
  where
    none : (a c : ℕ) → 0 * c ≤ a * 1
    none a c = omega arith

-- up to a limit nothing is taken off, and above it the rest by y is at most b
module _ (limit y : Float) (b : ℕ) (L : T (finite limit)) (P : T (positive y)) (B : num y ≤ b * den y) (top : T (le (round binary64 false b 1) limit)) where
  within : (a : Float) → T (finite a) → sign a ≡ false → In (iv nought limit) (cond (lt limit a) (rem binary64 a y) a)
  within a f s = go (lt limit a) refl
    where
      go : (t : Bool) → lt limit a ≡ t → In (iv nought limit) (cond t (rem binary64 a y) a)
      go true e =
          let r = rem-range binary64 a y b f s P B in
          (tt, L, r.0, le-trans-float (rem binary64 a y) (round binary64 false b 1) limit r.1 top)
      go false e = (tt, L, not-below-nought a f s, not-lt→le limit a L f e)

within-turns-in : (a : Float) → T (finite a) → sign a ≡ false → In A (within_turns a)
unfolding within_turns
within-turns-in a f s =
    within (of_bits binary64 0x40F0000000000000) (of_bits binary64 0x4066C6CBC45DC8DE) 183 (unfold of_bits in tt) (unfold of_bits in tt) (unfold of_bits in lit≤ tt) (unfold of_bits le round in tt) a f s

reduce-boxed : (a : Float) → T (finite a) → sign a ≡ false → Boxed (reduce_of a)
unfolding reduce_of
reduce-boxed a f s = go (lt a (of_bits binary64 0x3FE9000000000000)) refl
  where
    go : (t : Bool) → lt a (of_bits binary64 0x3FE9000000000000) ≡ t → Boxed (cond t (record { hi = a; lo = of_bits binary64 0; quarter = 0 }) (quarters_of (within_turns a)))
    go true e = (
      (
        unfold of_bits in tt,
        unfold of_bits in tt,
        le-trans-float (of_bits binary64 0xC170000000000000) nought a (unfold of_bits le in tt) (not-below-nought a f s),
        le-trans-float a (of_bits binary64 0x3FE9000000000000) (of_bits binary64 0x4170000000000000) (lt→le a (of_bits binary64 0x3FE9000000000000) (subst T (sym e) tt)) (unfold of_bits le in tt),
      ),
      (unfold of_bits in tt, unfold of_bits in tt, unfold of_bits le in tt, unfold of_bits le in tt),
    )
    go false e = quarters-boxed (within_turns a) (within-turns-in a f s)

-- ---- half turns: a from 0 to 2^20, the rest r and its leading digits h from -2^20 to 2^20
abbrev A2 : Interval
A2 = iv nought (of_bits binary64 0x4130000000000000)

abbrev R : Interval
R = flat 0xC130000000000000 0x4130000000000000

within-two-in : (a : Float) → T (finite a) → sign a ≡ false → In A2 (within_two a)
unfolding within_two
within-two-in a f s =
    within (of_bits binary64 0x4130000000000000) (of_bits binary64 0x4000000000000000) 2 (unfold of_bits in tt) (unfold of_bits in tt) (unfold of_bits in lit≤ tt) (unfold of_bits le round in tt) a f s

-- the rest by a half
abbrev rest_of : Float → Float
rest_of a = a ⊖ of_bits binary64 0x3FE0000000000000 ⊗ (of_bits binary64 0x4000000000000000 ⊗ a ⊕ of_bits binary64 0x4330000000000000 ⊖ of_bits binary64 0x4330000000000000)

rest-expr : Expr
rest-expr =
    difference (var 0)
    (product (lit (of_bits binary64 0x3FE0000000000000)) (difference (sum (product (lit (of_bits binary64 0x4000000000000000)) (var 0)) (lit (of_bits binary64 0x4330000000000000))) (lit (of_bits binary64 0x4330000000000000))))

rest-test : T (passes binary64 (A2 ∷ []) rest-expr (of_bits binary64 0xC130000000000000) (of_bits binary64 0x4130000000000000))
unfolding passes rest-expr
rest-test = tt

rest_in : (a : Float) → In A2 a → In R (rest_of a)
unfolding eval rest-expr
rest_in a p =
    inside 0xC130000000000000 0x4130000000000000 (rest_of a) (unfold of_bits in tt) (bounded binary64 (A2 ∷ []) (a ∷ []) rest-expr (of_bits binary64 0xC130000000000000) (of_bits binary64 0x4130000000000000) (p, tt) rest-test)

-- the leading digits lie between 0 and the value
leading-pos : (r : Float) → T (fits binary64 r) → T (finite r) → sign r ≡ false → T (le nought (leading r)) × T (le (leading r) r)
unfolding leading
leading-pos r F f s =
    let b = to_bits binary64 r in
    let B : b < inf_bits = to_bits-finite r F f s in (
      subst (λ (z : Float). T (le z (of_bits binary64 (cut b)))) zero_is (bits-le 0 (cut b) zero-le (below b B)),
      subst (λ (z : Float). T (le (of_bits binary64 (cut b)) z)) (of_bits-to_bits binary64 r F) (bits-le (cut b) b (cut-le b) B),
    )
  where
    below : (b : ℕ) → b < inf_bits → cut b < inf_bits
    below b h = omega arith

    zero_is : of_bits binary64 0 ≡ nought
    zero_is = unfold of_bits in refl

leading-neg : (r : Float) → T (finite r) → sign r ≡ false → T (fits binary64 r) → leading (neg r) ≡ neg (leading r)
unfolding leading
leading-neg r f s F =
    let b = to_bits binary64 r in
    ap (λ (n : ℕ). of_bits binary64 (cut n)) (to_bits-neg r (finite-no-nan r f) s) ∙ ap (of_bits binary64) (cut-neg b) ∙ of_bits-neg (cut b) (wide b (to_bits-finite r F f s))
  where
    wide : (b : ℕ) → b < inf_bits → cut b < 2 ^ 63
    wide b h = omega arith

leading-in : (r : Float) → T (fits binary64 r) → In R r → In R (leading r)
leading-in r F p = go (sign r) refl
  where
    f : T (finite r)
    f = in-finite R r p

    go : (t : Bool) → sign r ≡ t → In R (leading r)
    go false s =
        let l = leading-pos r F f s in
        (p.0, p.1, le-trans-float (of_bits binary64 0xC130000000000000) nought (leading r) (unfold of_bits le in tt) l.0, le-trans-float (leading r) r (of_bits binary64 0x4130000000000000) l.1 p.3)
    go true s =
        let b = bare r in
        let l = leading-pos b (bare-fits r F) (bare-finite r f) (bare-sign r) in
        let e : leading r ≡ neg (leading b) = ap leading (neg-bare r s) ∙ leading-neg b (bare-finite r f) (bare-sign r) (bare-fits r F) in
        subst (λ (z : Float). In R z) (sym e) (
          p.0,
          p.1,
          le-trans-float (of_bits binary64 0xC130000000000000) r (neg (leading b)) p.2 (subst (λ (z : Float). T (le z (neg (leading b)))) (sym (neg-bare r s)) (neg-anti (leading b) b l.1)),
          le-trans-float (neg (leading b)) (neg nought) (of_bits binary64 0x4130000000000000) (neg-anti nought (leading b) l.0) (unfold of_bits le neg in tt),
        )

halves-expr : Expr → Expr
halves-expr last =
    share (product (var 1) (lit (of_bits binary64 0x400921FB58000000)))
    (share (sum (product (var 2) (lit (of_bits binary64 0xBE5DDE973DCB3B3A))) (product (difference (var 1) (var 2)) (lit (of_bits binary64 0x400921FB54442D18))))
    (share (sum (var 1) (var 0)) last))

halves-hi : Expr
unfolding halves-expr
halves-hi = halves-expr (var 0)

halves-lo : Expr
unfolding halves-expr
halves-lo = halves-expr (sum (difference (var 2) (var 0)) (var 1))

halves-hi-test : T (passes binary64 (R ∷ R ∷ []) halves-hi (of_bits binary64 0xC170000000000000) (of_bits binary64 0x4170000000000000))
unfolding passes halves-hi
halves-hi-test = tt

halves-lo-test : T (passes binary64 (R ∷ R ∷ []) halves-lo (of_bits binary64 0xC180000000000000) (of_bits binary64 0x4180000000000000))
unfolding passes halves-lo
halves-lo-test = tt

halves-boxed : (a : Float) → In A2 a → Boxed (halves_of a)
unfolding eval halves-hi halves-lo halves_of
halves-boxed a p =
    let r = rest_of a in
    let P = rest_in a p in
    let Q = leading-in r (sub-fits binary64 _ _) P in (
      inside 0xC170000000000000 0x4170000000000000 (halves_of a).hi (unfold of_bits in tt)
          (bounded binary64 (R ∷ R ∷ []) (r ∷ leading r ∷ []) halves-hi (of_bits binary64 0xC170000000000000) (of_bits binary64 0x4170000000000000) (P, (Q, tt)) halves-hi-test),
      inside 0xC180000000000000 0x4180000000000000 (halves_of a).lo (unfold of_bits in tt)
          (bounded binary64 (R ∷ R ∷ []) (r ∷ leading r ∷ []) halves-lo (of_bits binary64 0xC180000000000000) (of_bits binary64 0x4180000000000000) (P, (Q, tt)) halves-lo-test),
    )

reduce_pi-boxed : (a : Float) → T (finite a) → sign a ≡ false → Boxed (reduce_pi_of a)
unfolding reduce_pi_of
reduce_pi-boxed a f s = halves-boxed (within_two a) (within-two-in a f s)

-- ---- by the quarter turns: as it is, or with the other sign
turned-finite : (minus : Float → Float) (q : ℕ) (s c : Float) → ((y : Float) → Small y → T (finite (minus y))) → Small s → Small c → T (finite (turned minus q s c))
unfolding turned
turned-finite minus q s c m S C = half (eqb (q / 2 % 2) 0) (cond (eqb (q % 2) 0) s c) (parity (eqb (q % 2) 0))
  where
    parity : (t : Bool) → Small (cond t s c)
    parity true = S
    parity false = C

    half : (t : Bool) (y : Float) → Small y → T (finite (cond t y (minus y)))
    half true y Y = Y.0
    half false y Y = m y Y

at-finite : (minus : Float → Float) (r : Reduced) (n : ℕ) → ((y : Float) → Small y → T (finite (minus y))) → Boxed r → T (finite (at minus r n))
at-finite minus r n m b = turned-finite minus (r.quarter + n) (sine_kernel r.hi r.lo) (cosine_kernel r.hi r.lo) m (sine-small r.hi r.lo b.0 b.1) (cosine-small r.hi r.lo b.0 b.1)

minus-finite : (y : Float) → Small y → T (finite (neg y))
minus-finite y h = neg-finite y h.0

from_zero-expr : Expr
from_zero-expr = difference (lit (of_bits binary64 0)) (var 0)

from_zero-test : T (passes binary64 (flat 0xD8F0000000000000 0x58F0000000000000 ∷ []) from_zero-expr (of_bits binary64 0xD8F0000000000000) (of_bits binary64 0x58F0000000000000))
unfolding passes from_zero-expr
from_zero-test = tt

from_zero-finite : (y : Float) → Small y → T (finite (from_zero y))
unfolding eval from_zero-expr from_zero
from_zero-finite y h =
    (bounded binary64 (flat 0xD8F0000000000000 0x58F0000000000000 ∷ []) (y ∷ []) from_zero-expr (of_bits binary64 0xD8F0000000000000) (of_bits binary64 0x58F0000000000000)
    (inside 0xD8F0000000000000 0x58F0000000000000 y (unfold of_bits in tt) h, tt) from_zero-test).0

pub sin-finite : (x : Float) → T (finite x) → T (finite (sin_of x))
sin-finite x f = subst (λ (y : Float). T (finite y)) (sym (sin-is x f)) (at-finite neg (reduce_of (bare x)) (cond (sign x) 2 0) minus-finite (reduce-boxed (bare x) (bare-finite x f) (bare-sign x)))

pub cos-finite : (x : Float) → T (finite x) → T (finite (cos_of x))
cos-finite x f = subst (λ (y : Float). T (finite y)) (sym (cos-is x f)) (at-finite neg (reduce_of (bare x)) 1 minus-finite (reduce-boxed (bare x) (bare-finite x f) (bare-sign x)))

pub sin_pi-finite : (x : Float) → T (finite x) → T (finite (sin_pi_of x))
sin_pi-finite x f = subst (λ (y : Float). T (finite y)) (sym (sin_pi-is x f)) (at-finite from_zero (reduce_pi_of (bare x)) (cond (sign x) 2 0) from_zero-finite (reduce_pi-boxed (bare x) (bare-finite x f) (bare-sign x)))

pub cos_pi-finite : (x : Float) → T (finite x) → T (finite (cos_pi_of x))
cos_pi-finite x f = subst (λ (y : Float). T (finite y)) (sym (cos_pi-is x f)) (at-finite from_zero (reduce_pi_of (bare x)) 1 from_zero-finite (reduce_pi-boxed (bare x) (bare-finite x f) (bare-sign x)))
