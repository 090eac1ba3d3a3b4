-- ln of the leading term (z/2)^v / Γ(v + 1) of DLMF 10.25.2 at one order, times e^-re z where the values are scaled: ZSERI's AK1
-- (`i_power_series` of src/amos/power_series.rs). Definitions only.
use Rattle.std.specs.Prelude.{Bool, true, false, Float}
use Rattle.laws.specs.Operators.{◌⊕◌}
use Rattle.machine.specs.Small.{one}
use Rattle.complex.specs.declared.number.Complex.{Complex}
use Rattle.complex.specs.Arithmetic.{times_real, minus_real}
use Rattle.gamma_ln.specs.GammaLn.{gamma_ln_of}
use Rattle.series_step.specs.declared.setting.Setting.{Setting}

unfoldable pub lowered_if : Bool → Complex → Float → Complex
lowered_if true w t = minus_real w t
lowered_if false w t = w

-- v ln(z/2) - log-gamma of v + 1, and less re z
unfoldable pub leading_of : Setting → Float → Complex
leading_of g order = lowered_if g.scaled (minus_real (times_real g.ln_half_z order) (gamma_ln_of (order ⊕ one)).value) g.re
