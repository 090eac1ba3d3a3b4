-- A step of the recurrence I(v-1) = (2v/z) I(v) + I(v+1), DLMF 10.29.1, downward: ZSERI from 100 to 140 (`i_power_series` of
-- src/amos/power_series.rs). Turned it is that of J, J(v-1) = (2v/z) J(v) - J(v+1), DLMF 10.6.1. Definitions only.
use Rattle.std.specs.Prelude.{Bool, true, false, ℕ, ◌+◌, pos}
use Rattle.std.specs.Float.{binary64}
use Rattle.std.specs.Float.Ieee.{of_int, lt}
use Rattle.laws.specs.Operators.{◌⊕◌}
use Rattle.machine.specs.Constants.{absolute_approximation_limit}
use Rattle.complex.specs.declared.number.Complex.{Complex}
use Rattle.complex.specs.Arithmetic.{plus_of, minus_of, product_of, times_real}
use Rattle.complex.specs.Functions.{modulus_of}
use Rattle.series_step.specs.declared.setting.Setting.{Setting}
use Rattle.series_step.specs.declared.descent.Tally.{Tally}
use Rattle.series_step.specs.declared.descent.Descent.{Descent}

-- (2/z times the newer value) times the order above (AK + FNU), and the older value to it or from it
unfoldable pub backward_if : Bool → Complex → Complex → Complex
backward_if true product older = minus_of product older
backward_if false product older = plus_of product older

unfoldable pub backward_of : Setting → ℕ → Complex → Complex → Complex
backward_of g k older newer =
    backward_if g.turned (times_real (product_of g.two_over_z newer) (of_int binary64 (pos (k + 1)) ⊕ g.order)) older

-- under the mark the entry is the value times the factor (130); once its modulus exceeds A (ASCLE) the mark is cleared and the registers
-- take the entries (140)
unfoldable pub cleared_if : Bool → Complex → Complex → Tally → Descent → Descent
cleared_if true entry next counts s = record {
  y_k_plus_2 = s.above;
  y_k_plus_1 = entry;
  above = entry;
  scale_factor = s.scale_factor;
  counts = counts;
  seeded = s.seeded;
  near_underflow = false;
  stopped = false;
}
cleared_if false entry next counts s = record {
  y_k_plus_2 = s.y_k_plus_1;
  y_k_plus_1 = next;
  above = entry;
  scale_factor = s.scale_factor;
  counts = counts;
  seeded = s.seeded;
  near_underflow = true;
  stopped = false;
}

unfoldable pub under_mark : Complex → Tally → Descent → Descent
under_mark next counts s =
    let entry = times_real next s.scale_factor in
    cleared_if (lt absolute_approximation_limit (modulus_of entry)) entry next counts s

-- without it the entry is the value (110)
unfoldable pub recurred_if : Bool → Complex → Tally → Descent → Descent
recurred_if true next counts s = under_mark next counts s
recurred_if false next counts s = record {
  y_k_plus_2 = s.y_k_plus_1;
  y_k_plus_1 = next;
  above = next;
  scale_factor = s.scale_factor;
  counts = counts;
  seeded = s.seeded;
  near_underflow = false;
  stopped = false;
}

unfoldable pub recurred_of : Setting → ℕ → Descent → Descent
recurred_of g k s =
    let c = s.counts in
    recurred_if s.near_underflow (backward_of g k s.y_k_plus_2 s.y_k_plus_1)
    (record { zeros = c.zeros; longest_sum = c.longest_sum; rungs = c.rungs + 1 }) s
