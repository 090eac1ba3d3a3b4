-- The sum at one order, DLMF 10.25.2 without its leading factor: the sum over k of w^k / (k! u (u + 1) .. (u + k - 1)).
-- As the loop 60 of ZSERI takes it (`single_n_iteration` of src/amos/power_series.rs): w is (z/2)² (CZ), or its opposite for J, x the
-- square of |z/2| (ACZ), u the order plus one (FNUP). Definitions only.
use Rattle.std.specs.Prelude.{Bool, true, false, not, ℕ, ◌+◌, Float}
use Rattle.std.specs.Float.Ieee.{lt}
use Rattle.laws.specs.Iterate.{iterate}
use Rattle.laws.specs.Operators.{◌⊕◌, ◌⊗◌, ◌⊘◌}
use Rattle.laws.specs.Run.{run}
use Rattle.machine.specs.Constants.{tolerance}
use Rattle.machine.specs.Small.{nothing, one, two}
use Rattle.complex.specs.declared.number.Complex.{Complex}
use Rattle.complex.specs.Arithmetic.{plus_of, product_of, times_real}
use Rattle.series_sum.specs.declared.sum.Estimate.{Estimate}
use Rattle.series_sum.specs.declared.sum.Partial.{Partial}
use Rattle.series_sum.specs.declared.sum.Sum.{Sum}

-- ---- the error estimate (AA), the denominator k (u + k - 1) of the next term (S), and by how much that grows (AK)
unfoldable pub start_estimate : Float → Estimate
start_estimate u = record { error = two; denominator = u; step = u ⊕ two }

unfoldable pub next_estimate : Float → Estimate → Estimate
next_estimate x s = record {
  error = s.error ⊗ (x ⊗ (one ⊘ s.denominator));
  denominator = s.denominator ⊕ s.step;
  step = s.step ⊕ two;
}

-- at what error the sum ends (ATOL)
unfoldable pub sum_tolerance : Float → Float → Float
sum_tolerance x u = (tolerance ⊗ x) ⊘ u

-- the sum is 1 at once (the test before 70)
unfoldable pub sum_is_one : Float → Float → Bool
sum_is_one x u = lt x (tolerance ⊗ u)

-- ---- the sum (S1), its last term (AK1), and how many terms are in it after the leading 1
abbrev pub complex_one : Complex
complex_one = record { re = one; im = nothing }

unfoldable pub start_sum : Float → Partial
start_sum u = record { value = complex_one; term = complex_one; estimate = start_estimate u; terms = 0 }

-- the last term times w over the denominator, which the count counts
unfoldable pub next_sum : Complex → Float → Partial → Partial
next_sum w x s =
    let t = product_of s.term (times_real w (one ⊘ s.estimate.denominator)) in
    record { value = plus_of s.value t; term = t; estimate = next_estimate x s.estimate; terms = s.terms + 1 }

-- the sum's own test (the test after 60)
unfoldable pub is_summed : Float → Partial → Bool
is_summed atol s = not (lt atol s.estimate.error)

-- so many terms at most: ZSERI has no bound, and 19 never decides (proofs/SumEnds.antt)
unfoldable pub sum_within : ℕ → Complex → Float → Float → Float → Partial
sum_within bound w x u atol = run (λ i s. is_summed atol s) (λ i s. next_sum w x s) bound 0 (start_sum u)

unfoldable pub sum_from : Complex → Float → Float → Float → Partial
sum_from w x u atol = sum_within 19 w x u atol

unfoldable pub sum_unless : Bool → Complex → Float → Float → Sum
sum_unless true w x u = record { value = complex_one; terms = 0 }
sum_unless false w x u =
    let s = sum_from w x u (sum_tolerance x u) in
    record { value = s.value; terms = s.terms }

unfoldable pub sum_of : Float → Complex → Float → Sum
sum_of order w x =
    let u = order ⊕ one in
    sum_unless (sum_is_one x u) w x u

-- ---- the estimate after n turns, and whether a further turn follows: what 'ends by its own test' speaks of
unfoldable pub estimate_after : Float → Float → ℕ → Estimate
estimate_after x u n = iterate n (next_estimate x) (start_estimate u)

unfoldable pub goes_on : Float → Float → ℕ → Bool
goes_on x u n = lt (sum_tolerance x u) (estimate_after x u n).error
