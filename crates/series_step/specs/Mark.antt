-- What an order that is summed leaves of the near-underflow mark, the scale factor and the longest sum: ZSERI between 40 and 50, with IFLAG
-- the mark and CRSCR the factor (`i_power_series` of src/amos/power_series.rs). Definitions only.
use Rattle.std.specs.Prelude.{Bool, ◌||◌, cond, ℕ, ltb, Float}
use Rattle.std.specs.Float.Ieee.{neg, le}
use Rattle.machine.specs.Constants.{tolerance, approximation_limit}
use Rattle.series_step.specs.declared.descent.Descent.{Descent}

-- the mark is set by the exponent, and not cleared here; the factor that was set with it stays
unfoldable pub mark_of : Float → Bool → Bool
mark_of exponent near = le exponent (neg approximation_limit) || near

unfoldable pub scale_of : Float → Float → Float
scale_of exponent scale = cond (le exponent (neg approximation_limit)) tolerance scale

unfoldable pub longest_of : ℕ → ℕ → ℕ
longest_of terms longest = cond (ltb longest terms) terms longest

unfoldable pub marked_of : Float → ℕ → Descent → Descent
marked_of exponent terms s = record {
  y_k_plus_2 = s.y_k_plus_2;
  y_k_plus_1 = s.y_k_plus_1;
  above = s.above;
  scale_factor = scale_of exponent s.scale_factor;
  counts = record { zeros = s.counts.zeros; longest_sum = longest_of terms s.counts.longest_sum; rungs = s.counts.rungs };
  seeded = s.seeded;
  near_underflow = mark_of exponent s.near_underflow;
  stopped = s.stopped;
}
