-- Calls whose outcome is computed from the definitions. Assumes nothing.
use mathlib.Core.Path.{◌≡◌, refl}
use mathlib.Core.Bool.{Bool, true}
use mathlib.Core.List.{[], ◌∷◌}
use Prim.Native.Nat.{ℕ}
use lib.IntN.{pos}
use lib.Ieee.{Float, nan, binary64, of_bits, of_int, round, size, neg, add, mul, eq, le, lt}
use Rattle.machine.specs.Constants.{underflow_limit}
use Rattle.machine.specs.Small.{nothing, one}
use Rattle.cells.specs.AllFinite.{all_finite}
use Rattle.refusal.specs.declared.refusal.Refusal.{Refusal}
use Rattle.refusal.specs.declared.refusal.Refusal.TheVariants.{Length, NotFinite, Sign, Series}
use Rattle.call.specs.Checks.{Refused, refused_if, verdict_from, verdict_of, length_checks, finite_checks, limit_checks}
use Rattle.call.specs.Answer.{answered_of}
use Rattle.call.specs.Limits.{normalised_of, length_inside, are_finite, order_inside, sign_inside, part_inside, size_inside}
use Rattle.call.proofs.FirstFacts.{verdict-append, stays}
use Rattle.roots.specs.Hypot.{hypot_of}
use Rattle.machine.specs.Magnitude.{magnitude_of}
use Rattle.complex.specs.Functions.{modulus_of}
use Rattle.series_step.specs.Setting.{order_at, order_plus_one}
use Rattle.power_series.specs.Series.{beyond_series}
use Rattle.power_series.specs.Tiny.{lowest_of, zeros_of, tiny_of}
use Rattle.power_series.specs.Series.{power_series_if, power_series_of}
use Rattle.bessel.specs.Arguments.{arguments_of}
use Rattle.bessel.specs.Checks.{argument_checks, k_checks, series_own_checks, series_checks}
use Rattle.bessel.specs.Outcome.{refused_outcome, judged_if, judged_of, concluded_of, outcome_by, call_outcome}
use Rattle.bessel.specs.Series.{visited_by, visit_answer, visit_steps, series_outcome}
use Rattle.bessel.specs.I.{i_outcome}
use Rattle.bessel.specs.K.{k_outcome}

-- ---- I at z = 0, v = 1, n = 2: zeros, and none is counted
pub at_zero : (scaled : Bool) → i_outcome scaled one nothing nothing 4 ≡ record { answer = answered_of (pos 0) 0 0 0; cells = nothing ∷ nothing ∷ nothing ∷ nothing ∷ [] }
unfolding i_outcome series_outcome visited_by visit_steps visit_answer judged_of judged_if all_finite call_outcome outcome_by concluded_of verdict_of verdict_from refused_if series_checks series_own_checks argument_checks length_checks finite_checks limit_checks arguments_of normalised_of length_inside are_finite order_inside sign_inside part_inside size_inside beyond_series order_plus_one order_at power_series_of power_series_if tiny_of lowest_of zeros_of modulus_of hypot_of magnitude_of underflow_limit of_bits of_int round size neg add mul eq le lt
at_zero scaled = refl

-- ---- I at z = 2^-1040, v = 0, n = 3: 1, 0, 0, and two are counted
pub near-zero : (scaled : Bool) → i_outcome scaled nothing (of_bits binary64 0x0000000400000000) nothing 6 ≡ record { answer = answered_of (pos 2) 0 0 0; cells = one ∷ nothing ∷ nothing ∷ nothing ∷ nothing ∷ nothing ∷ [] }
unfolding i_outcome series_outcome visited_by visit_steps visit_answer judged_of judged_if all_finite call_outcome outcome_by concluded_of verdict_of verdict_from refused_if series_checks series_own_checks argument_checks length_checks finite_checks limit_checks arguments_of normalised_of length_inside are_finite order_inside sign_inside part_inside size_inside beyond_series order_plus_one order_at power_series_of power_series_if tiny_of lowest_of zeros_of modulus_of hypot_of magnitude_of underflow_limit of_bits of_int round size neg add mul eq le lt
near-zero scaled = refl

-- ---- I at z = 4, v = 0, n = 1: refusal 5
pub beyond : (scaled : Bool) → i_outcome scaled nothing (of_bits binary64 0x4010000000000000) nothing 2 ≡ refused_outcome Series 2
unfolding i_outcome series_outcome call_outcome outcome_by concluded_of verdict_of verdict_from refused_if series_checks series_own_checks argument_checks length_checks finite_checks limit_checks arguments_of normalised_of length_inside are_finite order_inside sign_inside part_inside size_inside beyond_series order_plus_one order_at modulus_of hypot_of magnitude_of of_bits of_int round size neg add mul eq le lt
beyond scaled = refl

-- ---- a refusal by the checks that K shares is the outcome of K
refused-by : (scaled : Bool) (v re im : Float) (length : ℕ) (r : Refusal) → verdict_of (argument_checks (arguments_of v re im) length) ≡ Refused r → k_outcome scaled v re im length ≡ refused_outcome r length
unfolding k_outcome call_outcome outcome_by k_checks verdict_of
refused-by scaled v re im length r e = rw (verdict-append, e, stays)

-- ---- refusal 1, at any arguments: an empty buffer, and one of 1,026 cells
pub k_empty : (scaled : Bool) (v re im : Float) → k_outcome scaled v re im 0 ≡ refused_outcome Length 0
unfolding verdict_of verdict_from refused_if argument_checks length_checks finite_checks limit_checks length_inside
k_empty scaled v re im = refused-by scaled v re im 0 Length refl

pub k-too-long : (scaled : Bool) (v re im : Float) → k_outcome scaled v re im 1026 ≡ refused_outcome Length 1026
unfolding verdict_of verdict_from refused_if argument_checks length_checks finite_checks limit_checks length_inside
k-too-long scaled v re im = refused-by scaled v re im 1026 Length refl

-- ---- refusal 2 before 4: K of 0 at an order that is not a number
pub k-not-a-number : (scaled : Bool) (length : ℕ) → length_inside length ≡ true → k_outcome scaled nan nothing nothing length ≡ refused_outcome NotFinite length
unfolding verdict_of verdict_from refused_if argument_checks length_checks finite_checks limit_checks are_finite arguments_of normalised_of eq
k-not-a-number scaled length e = refused-by scaled nan nothing nothing length NotFinite (rw e)

-- ---- refusal 11: a real part of -2^-1074, at any order within its limits and any finite imaginary part
below_by : (v im : Float) (length : ℕ) → let a = arguments_of v (of_bits binary64 0x8000000000000001) im in length_inside length ≡ true → are_finite a.order a.z.re a.z.im ≡ true → order_inside a.order ≡ true → verdict_of (argument_checks a length) ≡ Refused Sign
unfolding verdict_of verdict_from refused_if argument_checks length_checks finite_checks limit_checks sign_inside arguments_of normalised_of of_bits eq le lt
below_by v im length l f o = simp (l, f, o)

pub k-below-zero : (scaled : Bool) (v im : Float) (length : ℕ) → let a = arguments_of v (of_bits binary64 0x8000000000000001) im in length_inside length ≡ true → are_finite a.order a.z.re a.z.im ≡ true → order_inside a.order ≡ true → k_outcome scaled v (of_bits binary64 0x8000000000000001) im length ≡ refused_outcome Sign length
k-below-zero scaled v im length l f o = refused-by scaled v (of_bits binary64 0x8000000000000001) im length Sign (below_by v im length l f o)
