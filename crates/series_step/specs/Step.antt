-- The order v + k of the downward visit: a seed or a zero until two orders are seeded, and then the recurrence, as the loop of
-- `i_power_series` of src/amos/power_series.rs goes (ZSERI, from 20 on). Definitions only.
use Rattle.std.specs.Prelude.{Bool, true, false, ℕ, ltb}
use Rattle.series_step.specs.declared.setting.Setting.{Setting}
use Rattle.series_step.specs.declared.descent.Descent.{Descent}
use Rattle.series_step.specs.Setting.{order_at}
use Rattle.series_step.specs.Seed.{seed_of}
use Rattle.series_step.specs.Recurred.{recurred_of}

unfoldable pub step_if : Bool → Setting → ℕ → Descent → Descent
step_if true g k s = seed_of g (order_at g.order k) s
step_if false g k s = recurred_of g k s

unfoldable pub step_of : Setting → ℕ → Descent → Descent
step_of g k s = step_if (ltb s.seeded 2) g k s
