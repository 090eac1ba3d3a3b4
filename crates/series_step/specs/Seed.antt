-- An order that is seeded by its sum, or set to zero: ZSERI from 20 to 90, each order by itself as `i_power_series` of
-- src/amos/power_series.rs has it. Definitions only.
use Rattle.std.specs.Prelude.{Bool, true, false, not, ◌+◌, eqb, Float}
use Rattle.std.specs.Float.Ieee.{neg, lt, le}
use Rattle.machine.specs.Constants.{inverse_tolerance, exponent_limit}
use Rattle.complex.specs.declared.number.Complex.{Complex}
use Rattle.complex.specs.Arithmetic.{zero_pair, product_of, times_real}
use Rattle.complex.specs.Functions.{complex_exp_of}
use Rattle.complex.specs.Lost.{lost_of}
use Rattle.series_sum.specs.Sum.{sum_of}
use Rattle.series_step.specs.declared.setting.Setting.{Setting}
use Rattle.series_step.specs.declared.descent.Descent.{Descent}
use Rattle.series_step.specs.Leading.{leading_of}
use Rattle.series_step.specs.Mark.{marked_of}

-- the entry is 0 and counted, and the visit stops where |z/2| squared exceeds the order (30, and the test to 190)
unfoldable pub zeroed_of : Setting → Float → Descent → Descent
zeroed_of g order s = record {
  y_k_plus_2 = s.y_k_plus_2;
  y_k_plus_1 = s.y_k_plus_1;
  above = zero_pair;
  scale_factor = s.scale_factor;
  counts = record { zeros = s.counts.zeros + 1; longest_sum = s.counts.longest_sum; rungs = s.counts.rungs };
  seeded = s.seeded;
  near_underflow = s.near_underflow;
  stopped = lt order g.abs_half_z_sq;
}

-- the first seed is the older value, the second the newer one; the entry is the value times the factor (80)
unfoldable pub seed_or : Bool → Complex → Complex → Complex
seed_or true value other = value
seed_or false value other = other

unfoldable pub kept_of : Complex → Descent → Descent
kept_of value s =
    let first = eqb s.seeded 0 in
    record {
      y_k_plus_2 = seed_or first value s.y_k_plus_2;
      y_k_plus_1 = seed_or (not first) value s.y_k_plus_1;
      above = times_real value s.scale_factor;
      scale_factor = s.scale_factor;
      counts = s.counts;
      seeded = s.seeded + 1;
      near_underflow = s.near_underflow;
      stopped = false;
    }

-- e^lead (COEF), raised by 2^52 (SS) under the mark
unfoldable pub coefficient_if : Bool → Complex → Complex
coefficient_if true w = times_real w inverse_tolerance
coefficient_if false w = w

unfoldable pub coefficient_of : Complex → Bool → Complex
coefficient_of lead near = coefficient_if near (complex_exp_of lead)

-- only under the mark can a value be lost (ZUCHK)
unfoldable pub is_gone : Bool → Complex → Bool
is_gone true value = lost_of value
is_gone false value = false

unfoldable pub gone_if : Bool → Setting → Float → Complex → Descent → Descent
gone_if true g order value s = zeroed_of g order s
gone_if false g order value s = kept_of value s

-- the sum times e^lead (S2)
unfoldable pub summed_of : Setting → Float → Complex → Descent → Descent
summed_of g order lead s =
    let sum = sum_of order g.half_z_sq g.abs_half_z_sq in
    let m = marked_of lead.re sum.terms s in
    let value = product_of sum.value (coefficient_of lead m.near_underflow) in
    gone_if (is_gone m.near_underflow value) g order value m

-- the underflow test comes first (20)
unfoldable pub seed_if : Bool → Setting → Float → Complex → Descent → Descent
seed_if true g order lead s = zeroed_of g order s
seed_if false g order lead s = summed_of g order lead s

unfoldable pub seed_of : Setting → Float → Descent → Descent
seed_of g order s =
    let lead = leading_of g order in
    seed_if (le lead.re (neg exponent_limit)) g order lead s
