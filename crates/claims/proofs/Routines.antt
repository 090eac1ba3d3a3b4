-- The twelve elementary routines: one result each, the values that are exact, what is finite, the nearest root, hypot's square, rounding, oddness and
-- evenness. Every statement is of the routine's definition, which its contract says that it returns. Assumes nothing.
use mathlib.Core.Path.{◌≡◌, refl}
use mathlib.Core.Bool.{Bool, true, false}
use Prim.Native.Nat.{ℕ, zero, suc, ◌+◌, ◌*◌, ◌%◌}
use lib.Dec.{T}
use lib.IntN.{ℤ, pos}
use lib.Ieee.{Float, nan, inf, fin, binary64, of_bits, of_int, le, lt, neg, fits}
use lib.Ieee.Positive.{positive, num, den}
use lib.Ieee.Scale.{finite}
use lib.Ieee.Exact.{HasValue}
use Rattle.laws.proofs.Value.{sign}
use Rattle.machine.specs.Magnitude.{magnitude_of}
use Rattle.roots.specs.Sqrt.{NearestRoot, sqrt_of}
use Rattle.roots.specs.Hypot.{hypot_of}
use Rattle.roots.specs.Close.{NormalValue, SquareClose}
use Rattle.roots.proofs.RootPattern.{sqrt-nearest, sqrt-unique}
use Rattle.roots.proofs.SqrtValues.{sqrt-of-nan, sqrt-of-infinity, sqrt-of-minus-infinity}
use Rattle.roots.proofs.HypotFacts.{hypot-close}
use Rattle.roots.proofs.HypotValues.{hypot-zero-left, hypot-zero-right, hypot-even, hypot-symmetric, hypot-infinite}
use Rattle.exponential.specs.Exp.{limit, lower_limit, exp_of}
use Rattle.exponential.specs.Sinh.{sinh_of}
use Rattle.exponential.specs.Cosh.{cosh_of}
use Rattle.exponential.proofs.ExpFacts.{exp-finite, exp-above-zero}
use Rattle.exponential.proofs.SinhFacts.{sinh-finite}
use Rattle.exponential.proofs.CoshFacts.{cosh-finite}
use Rattle.exponential.proofs.Signs.{sinh-odd, cosh-even}
use Rattle.logarithm.specs.Ln.{ln_of}
use Rattle.logarithm.proofs.Cases as ln
use Rattle.logarithm.proofs.LnFacts.{ln-finite}
use Rattle.circular.specs.Sin.{sin_of}
use Rattle.circular.specs.Cos.{cos_of}
use Rattle.circular.specs.SinPi.{sin_pi_of}
use Rattle.circular.specs.CosPi.{cos_pi_of}
use Rattle.circular.proofs.Finite.{sin-finite, cos-finite, sin_pi-finite, cos_pi-finite}
use Rattle.circular.proofs.Zeros.{cos_pi-half, cos_pi-minus-half, sin_pi-whole}
use Rattle.circular.proofs.Symmetry.{sin-odd, cos-even, cos_pi-even}
use Rattle.angle.specs.Angle.{angle_of}
use Rattle.angle.proofs.AngleFacts.{angle-finite, angle-odd}
use Rattle.rounding.specs.Round.{round_of, Nearest}
use Rattle.rounding.proofs.RoundFacts.{round-nearest, round-is-nearest, nearest-unique, tie-away}
use Rattle.rounding.proofs.RoundFacts as rounding
use Rattle.claims.proofs.Determined.{Determined, one-result}

-- ---- one result
pub record OneResult : Type 0 where
  pub sqrt : (x : Float) → Determined (λ (r : Float). r ≡ sqrt_of x)
  pub hypot : (x y : Float) → Determined (λ (r : Float). r ≡ hypot_of x y)
  pub exp : (x : Float) → Determined (λ (r : Float). r ≡ exp_of x)
  pub ln : (x : Float) → Determined (λ (r : Float). r ≡ ln_of x)
  pub sin : (x : Float) → Determined (λ (r : Float). r ≡ sin_of x)
  pub cos : (x : Float) → Determined (λ (r : Float). r ≡ cos_of x)
  pub angle : (y x : Float) → Determined (λ (r : Float). r ≡ angle_of y x)
  pub sinh : (x : Float) → Determined (λ (r : Float). r ≡ sinh_of x)
  pub cosh : (x : Float) → Determined (λ (r : Float). r ≡ cosh_of x)
  pub sin-pi : (x : Float) → Determined (λ (r : Float). r ≡ sin_pi_of x)
  pub cos-pi : (x : Float) → Determined (λ (r : Float). r ≡ cos_pi_of x)
  pub round : (x : Float) → Determined (λ (r : Float). r ≡ round_of x)

one-results : OneResult
one-results = record {
  sqrt = λ x. one-result (sqrt_of x);
  hypot = λ x y. one-result (hypot_of x y);
  exp = λ x. one-result (exp_of x);
  ln = λ x. one-result (ln_of x);
  sin = λ x. one-result (sin_of x);
  cos = λ x. one-result (cos_of x);
  angle = λ y x. one-result (angle_of y x);
  sinh = λ x. one-result (sinh_of x);
  cosh = λ x. one-result (cosh_of x);
  sin-pi = λ x. one-result (sin_pi_of x);
  cos-pi = λ x. one-result (cos_pi_of x);
  round = λ x. one-result (round_of x);
}

-- ---- sqrt: the nearest f64, strictly nearer than any other, so that there is no tie; the values that are named
pub record OfSqrt : Type 0 where
  pub nearest : (x : Float) → T (fits binary64 x) → T (positive x) → NearestRoot x (sqrt_of x)
  pub only-nearest : (x r : Float) → T (fits binary64 x) → T (positive x) → NearestRoot x r → r ≡ sqrt_of x
  pub of_zero : (s : Bool) (e : ℤ) → sqrt_of (fin s zero e) ≡ fin s zero e
  pub of-infinity : sqrt_of (inf false) ≡ inf false
  pub of_negative : (m : ℕ) (e : ℤ) → sqrt_of (fin true (suc m) e) ≡ nan
  pub of-minus-infinity : sqrt_of (inf true) ≡ nan
  pub of_nan : sqrt_of nan ≡ nan

of-sqrt : OfSqrt
unfolding sqrt_of
of-sqrt = record {
  nearest = sqrt-nearest;
  only-nearest = sqrt-unique;
  of_zero = λ s e. refl;
  of-infinity = sqrt-of-infinity;
  of_negative = λ m e. refl;
  of-minus-infinity = sqrt-of-minus-infinity;
  of_nan = sqrt-of-nan;
}

-- ---- ln: the values that are named; finite above zero
pub record OfLn : Type 0 where
  pub of_zero : (s : Bool) → ln_of (fin s zero (pos 0)) ≡ inf true
  pub of-infinity : ln_of (inf false) ≡ inf false
  pub of_negative : (m : ℕ) (e : ℤ) → ln_of (fin true (suc m) e) ≡ nan
  pub of-minus-infinity : ln_of (inf true) ≡ nan
  pub of_nan : ln_of nan ≡ nan
  pub finite-above-zero : (x : Float) → T (fits binary64 x) → T (positive x) → T (finite (ln_of x))

of-ln : OfLn
of-ln = record {
  of_zero = ln.of_zero;
  of-infinity = ln.of-infinity;
  of_negative = ln.of_negative;
  of-minus-infinity = ln.of-minus-infinity;
  of_nan = ln.of_nan;
  finite-above-zero = ln-finite;
}

-- ---- hypot: exact with a zero part, its square within one part in 2^40, even in its first part and, being symmetric, in its second
pub record OfHypot : Type 0 where
  pub zero_left : (s : Bool) (y : Float) (e : ℤ) → hypot_of (fin s 0 e) y ≡ magnitude_of y
  pub zero_right : (x : Float) (t : Bool) (d : ℤ) → T (fits binary64 x) → T (fits binary64 (fin t 0 d)) → hypot_of x (fin t 0 d) ≡ magnitude_of x
  pub close : (x y : Float) → T (fits binary64 x) → T (fits binary64 y) → T (finite x) → T (finite y) → NormalValue (hypot_of x y) → SquareClose (hypot_of x y) x y
  pub even : (x y : Float) → hypot_of (neg x) y ≡ hypot_of x y
  pub symmetric : (x y : Float) → T (fits binary64 x) → T (fits binary64 y) → hypot_of x y ≡ hypot_of y x
  pub of-infinity : (s : Bool) (y : Float) → hypot_of (inf s) y ≡ inf false

of-hypot : OfHypot
of-hypot = record {
  zero_left = hypot-zero-left;
  zero_right = hypot-zero-right;
  close = hypot-close;
  even = hypot-even;
  symmetric = hypot-symmetric;
  of-infinity = hypot-infinite;
}

-- ---- exp, sinh and cosh to 705 in magnitude
pub record OfExp : Type 0 where
  pub upper : limit ≡ of_int binary64 (pos 705)
  pub lower : lower_limit ≡ neg limit
  pub exp : (x : Float) → T (le lower_limit x) → T (le x limit) → T (finite (exp_of x))
  pub exp-above-zero : (x : Float) → T (le lower_limit x) → T (le x limit) → T (lt (of_bits binary64 0) (exp_of x))
  pub sinh : (x : Float) → T (le lower_limit x) → T (le x limit) → T (finite (sinh_of x))
  pub cosh : (x : Float) → T (le lower_limit x) → T (le x limit) → T (finite (cosh_of x))
  pub sinh-odd : (x : Float) → sinh_of (neg x) ≡ neg (sinh_of x)
  pub cosh-even : (x : Float) → cosh_of (neg x) ≡ cosh_of x

of-exp : OfExp
unfolding limit lower_limit of_bits of_int
of-exp = record {
  upper = refl;
  lower = refl;
  exp = exp-finite;
  exp-above-zero = exp-above-zero;
  sinh = sinh-finite;
  cosh = cosh-finite;
  sinh-odd = sinh-odd;
  cosh-even = cosh-even;
}

-- ---- sin, cos, angle, sin(πx) and cos(πx): finite, odd or even, exactly zero where they are to be
pub record OfAngles : Type 0 where
  pub sin : (x : Float) → T (finite x) → T (finite (sin_of x))
  pub cos : (x : Float) → T (finite x) → T (finite (cos_of x))
  pub angle : (y x : Float) → T (fits binary64 y) → T (fits binary64 x) → T (finite y) → T (finite x) → T (finite (angle_of y x))
  pub sin-pi : (x : Float) → T (finite x) → T (finite (sin_pi_of x))
  pub cos-pi : (x : Float) → T (finite x) → T (finite (cos_pi_of x))
  pub cos-pi-half : cos_pi_of (of_bits binary64 0x3FE0000000000000) ≡ of_bits binary64 0
  pub cos-pi-minus-half : cos_pi_of (of_bits binary64 0xBFE0000000000000) ≡ of_bits binary64 0
  pub sin-pi-whole : (x : Float) → T (fits binary64 x) → T (finite x) → num x % den x ≡ 0 → sin_pi_of x ≡ of_bits binary64 0
  pub sin-odd : (x : Float) → sin_of (neg x) ≡ neg (sin_of x)
  pub cos-even : (x : Float) → cos_of (neg x) ≡ cos_of x
  pub angle-odd : (y x : Float) → T (fits binary64 y) → angle_of (neg y) x ≡ neg (angle_of y x)
  pub cos-pi-even : (x : Float) → cos_pi_of (neg x) ≡ cos_pi_of x

of-angles : OfAngles
of-angles = record {
  sin = sin-finite;
  cos = cos-finite;
  angle = angle-finite;
  sin-pi = sin_pi-finite;
  cos-pi = cos_pi-finite;
  cos-pi-half = cos_pi-half;
  cos-pi-minus-half = cos_pi-minus-half;
  sin-pi-whole = sin_pi-whole;
  sin-odd = sin-odd;
  cos-even = cos-even;
  angle-odd = angle-odd;
  cos-pi-even = cos_pi-even;
}

-- ---- rounding: the nearest whole number, half away from zero; what is no number or infinite stays
pub record OfRound : Type 0 where
  pub rounds : (x : Float) → T (fits binary64 x) → T (finite x) → (k : ℕ) × HasValue (round_of x) (sign x) k 1 × Nearest x k
  pub nearest : (x : Float) (k : ℕ) → T (fits binary64 x) → T (finite x) → Nearest x k → HasValue (round_of x) (sign x) k 1
  pub only-nearest : (x : Float) (k l : ℕ) → Nearest x k → Nearest x l → k ≡ l
  pub tie : (x : Float) (k : ℕ) → T (fits binary64 x) → T (finite x) → 2 * num x ≡ (2 * k + 1) * den x → HasValue (round_of x) (sign x) (k + 1) 1
  pub of-infinity : (s : Bool) → round_of (inf s) ≡ inf s
  pub of_nan : round_of nan ≡ nan

of-round : OfRound
of-round = record { rounds = round-nearest; nearest = round-is-nearest; only-nearest = nearest-unique; tie = tie-away; of-infinity = rounding.of-infinity; of_nan = rounding.of_nan }

pub record OfRoutines : Type 0 where
  pub one-result : OneResult
  pub sqrt : OfSqrt
  pub ln : OfLn
  pub hypot : OfHypot
  pub exp : OfExp
  pub angles : OfAngles
  pub round : OfRound

pub of-routines : OfRoutines
of-routines = record { one-result = one-results; sqrt = of-sqrt; ln = of-ln; hypot = of-hypot; exp = of-exp; angles = of-angles; round = of-round }
