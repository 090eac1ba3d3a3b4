-- How many backward steps Miller's seeds begin with. ZBKNU, from 'COMPUTE R2=F(E)' to label 180; `determine_miller_starting_k` of
-- src/amos/right_half_plane.rs, whose angle keeps its sign where ZBKNU takes the magnitude. Definitions only.
use Rattle.std.specs.Prelude.{ℕ, Bool, cond, ◌&&◌, leb, Option, Some, None, Float}
use Rattle.std.specs.Float.{binary64}
use Rattle.std.specs.Float.Ieee.{of_bits, neg, lt, le}
use Rattle.std.specs.Float.Ieee.Scale.{finite}
use Rattle.machine.specs.Constants.{tolerance}
use Rattle.machine.specs.Small.{one}
use Rattle.laws.specs.Operators.{◌⊕◌, ◌⊗◌, ◌⊘◌}
use Rattle.roots.specs.Sqrt.{sqrt_of}
use Rattle.logarithm.specs.Ln.{ln_of}
use Rattle.circular.specs.Cos.{cos_of}
use Rattle.miller.specs.declared.point.Point.{Point}
use Rattle.miller.specs.declared.point.Order.{Order}
use Rattle.miller.specs.Whole.{truncated}
use Rattle.miller.specs.Point.{is_real}
use Rattle.miller.specs.Trials.{whole, trial_index}

-- FK at label 180, which ZBKNU truncates as it is: a start here is finite, above -1, and at most 256 when its fraction is dropped
unfoldable pub is_start : Float → Bool
is_start raw = finite raw && lt (neg one) raw && leb (truncated raw) 256

unfoldable pub start_from : Float → Option ℕ
start_from raw = cond (is_start raw) (Some (truncated raw)) None

-- T2 before label 130: (2/3)·52 - 6 = 28.666666666666664
unfoldable pub threshold : Float
threshold = of_bits binary64 0x403CAAAAAAAAAAAA

-- label 160, SPI: 1.909859317102744 times the angle, with its sign, times the root of threshold / |z|
unfoldable pub angle_correction : Float → Float → Float
angle_correction modulus angle = of_bits binary64 0x3FFE8EC8A4AEACC4 ⊗ angle ⊗ sqrt_of (threshold ⊘ modulus)

-- nothing is added on the real path
unfoldable pub raw_start : Point → ℕ → Float
raw_start point index = cond (is_real point.z) (whole index) (whole index ⊕ angle_correction point.modulus point.angle)

unfoldable pub corrected : Point → Option ℕ → Option ℕ
corrected point (Some index) = start_from (raw_start point index)
corrected point None = None

-- ETEST behind label 140: |cos(π fraction)| / (π |z| 2^-52), with π as 3.141592653589793
unfoldable pub convergence_test : Point → Order → Float
convergence_test point order = order.rotation ⊘ (of_bits binary64 0x400921FB54442D18 ⊗ point.modulus ⊗ tolerance)

-- a test of at most 1 is met with no trial, and takes no correction: IF (ETEST.LT.CONER) GO TO 180, where ZBKNU has 1 itself tried
unfoldable pub by_recurrence : Point → Order → Option ℕ
by_recurrence point order =
    let test = convergence_test point order in
    cond (le test one) (Some 1) (corrected point (trial_index point.modulus order.square test))

-- |z| / (1 + 0.008 |z|), for a factor of |z| put in
unfoldable pub flattened : Float → Float → Float
flattened modulus height = height ⊘ (one ⊕ of_bits binary64 0x3F80624DD2F1A9FC ⊗ modulus)

-- AK behind label 170, with the angle's cosines: of AA = 3 angle / (1 + |z|), and of BB = 14.7 angle / (28 + |z|)
unfoldable pub curve_of : Point → Float → Float
curve_of point precision =
    let modulus = point.modulus in
    let angle = point.angle in
    cond (is_real point.z) (precision ⊕ flattened modulus modulus)
    ((precision ⊕ flattened modulus (modulus ⊗ cos_of (of_bits binary64 0x4008000000000000 ⊗ angle ⊘ (one ⊕ modulus))))
    ⊘ cos_of (of_bits binary64 0x402D666666666666 ⊗ angle ⊘ (of_bits binary64 0x403C000000000000 ⊕ modulus)))

-- label 170, FPI: ln of 1.8976999933151775 |cos(π fraction)| / (2^-52 |z|^(1/4))
unfoldable pub precision_of : Point → Float → Float
precision_of point rotation = ln_of (rotation ⊗ of_bits binary64 0x3FFE5CFAAB0E879A ⊘ (tolerance ⊗ sqrt_of point.root))

-- FK before label 180: 0.12125 times the curve's square over |z|, plus 1.5
unfoldable pub formula_of : Point → Float → Float
formula_of point rotation =
    let height = curve_of point (precision_of point rotation) in
    of_bits binary64 0x3FBF0A3D70A3D70A ⊗ (height ⊗ height) ⊘ point.modulus ⊕ of_bits binary64 0x3FF8000000000000

-- the trials above the threshold, the formula up to it (IF (T2.GT.CAZ) GO TO 170)
unfoldable pub start_of : Point → Order → Option ℕ
start_of point order = cond (lt threshold point.modulus) (by_recurrence point order) (start_from (formula_of point order.rotation))
