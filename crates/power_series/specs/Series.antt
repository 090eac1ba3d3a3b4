-- The power series at z, of modulus m, over the n orders from v up, DLMF 10.25.2 and turned 10.2.2: ZSERI (`i_power_series` of
-- src/amos/power_series.rs), and where it is not to be taken. Definitions only.
use Rattle.std.specs.Prelude.{Bool, true, false, ℕ, ◌-◌, Float}
use Rattle.std.specs.Float.Ieee.{lt}
use Rattle.laws.specs.Operators.{◌⊗◌}
use Rattle.machine.specs.Constants.{underflow_limit}
use Rattle.machine.specs.Small.{quarter}
use Rattle.complex.specs.declared.number.Complex.{Complex}
use Rattle.series_step.specs.Setting.{order_plus_one, setting_of}
use Rattle.power_series.specs.Visit.{Visited, visit_of}
use Rattle.power_series.specs.Tiny.{tiny_of}

-- below ARM an argument is tiny
unfoldable pub power_series_if : Bool → Bool → Bool → Float → Complex → Float → ℕ → Visited
power_series_if true scaled turned v z m n = tiny_of v m n
power_series_if false scaled turned v z m n = visit_of (setting_of scaled turned v z m) n

unfoldable pub power_series_of : Bool → Bool → Float → Complex → Float → ℕ → Visited
power_series_of scaled turned v z m n = power_series_if (lt m underflow_limit) scaled turned v z m n

-- refusal 5, where a quarter of |z|² is above the highest order plus 1: ZBINU's test (`i_right_half_plane` of src/amos/right_half_plane.rs)
unfoldable pub beyond_series : Float → ℕ → Float → Bool
beyond_series v n m = lt (order_plus_one v (n - 1)) (m ⊗ m ⊗ quarter)
