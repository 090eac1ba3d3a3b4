-- The state between two orders of the downward visit, before the first: nothing is seeded, counted or marked, and a value is its entry.
-- ZSERI's NZ = 0, IFLAG = 0 and CRSCR = 1 (`i_power_series` of src/amos/power_series.rs). Definitions only.
use Rattle.std.specs.Prelude.{false}
use Rattle.machine.specs.Small.{one}
use Rattle.complex.specs.Arithmetic.{zero_pair}
use Rattle.series_step.specs.declared.descent.Descent.{Descent}

unfoldable pub start_descent : Descent
start_descent = record {
  y_k_plus_2 = zero_pair;
  y_k_plus_1 = zero_pair;
  above = zero_pair;
  scale_factor = one;
  counts = record { zeros = 0; longest_sum = 0; rungs = 0 };
  seeded = 0;
  near_underflow = false;
  stopped = false;
}
