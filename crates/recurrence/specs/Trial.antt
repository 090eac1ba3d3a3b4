-- Whether a value that was kept without e^-z comes on scale: the trial of one order in ZKSCL (zkscl.f, DO 10 and DO 30) and in ZBKNU's climb out
-- of underflow (zbknu.f, DO 262); `scale_k_recurrence` of src/amos/recurrence.rs. Definitions only.
use Rattle.std.specs.Prelude.{Bool, cond, Float, Option, Some, None, is_some, unwrap_or}
use Rattle.std.specs.Float.Ieee.{neg, lt, le}
use Rattle.laws.specs.Operators.{◌⊕◌, ◌⊗◌}
use Rattle.machine.specs.Constants.{tolerance, exponent_limit}
use Rattle.machine.specs.Small.{half}
use Rattle.logarithm.specs.Ln.{ln_of}
use Rattle.complex.specs.declared.number.Complex.{Complex}
use Rattle.complex.specs.Arithmetic.{minus_of, over_real, norm_square_of, zero_pair}
use Rattle.complex.specs.Functions.{complex_ln_of, complex_exp_of}
use Rattle.complex.specs.Lost.{lost_of}

-- what a trial of a value gives: the value raised, where it is kept
abbrev pub Trial : Type 0
Trial = Option Complex

abbrev pub kept : Trial → Bool
kept t = is_some t

-- zero where it is not kept
abbrev pub value_of : Trial → Complex
value_of t = unwrap_or t zero_pair

abbrev pub failed_trial : Trial
failed_trial = None

-- ½ ln |w|² (ALAS, which the Fortran takes of the modulus)
unfoldable pub ln_magnitude : Complex → Float
ln_magnitude w = half ⊗ ln_of (norm_square_of w)

-- e^(ln w - z) over 2^-52: the value with e^-z, raised
unfoldable pub raised_of : Complex → Complex → Complex
raised_of z w = over_real (complex_exp_of (minus_of (complex_ln_of w) z)) tolerance

-- kept unless it is lost (ZUCHK)
unfoldable pub kept_trial : Complex → Complex → Trial
kept_trial z w = let t = raised_of z w in cond (lost_of t) failed_trial (Some t)

-- the exponent that e^-z leaves (ACS): the first two values fail below the limit, later ones have to reach it
unfoldable pub first_trial : Complex → Complex → Trial
first_trial z w = cond (lt (neg z.re ⊕ ln_magnitude w) (neg exponent_limit)) failed_trial (kept_trial z w)

unfoldable pub reaches_limit : Complex → Float → Bool
reaches_limit z l = le (neg exponent_limit) (neg z.re ⊕ l)

unfoldable pub later_trial : Complex → Complex → Float → Trial
later_trial z w l = cond (reaches_limit z l) (kept_trial z w) failed_trial
