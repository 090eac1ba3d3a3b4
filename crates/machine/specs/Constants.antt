-- The constants of Algorithm 644 for binary64, by their bits. Definitions only.
use Rattle.std.specs.Prelude.{Float}
use Rattle.std.specs.Float.{nan, binary64}
use Rattle.std.specs.Float.Ieee.{of_bits}
use Rattle.machine.specs.declared.constants.Machine.{Machine}

-- 2^-52 (TOL) and 2^52
unfoldable pub tolerance : Float
tolerance = of_bits binary64 0x3CB0000000000000

unfoldable pub inverse_tolerance : Float
inverse_tolerance = of_bits binary64 0x4330000000000000

-- 700.9217936944459 (ELIM) and 664.8716455337102 (ALIM)
unfoldable pub exponent_limit : Float
exponent_limit = of_bits binary64 0x4085E75FD55F5A6F

unfoldable pub approximation_limit : Float
approximation_limit = of_bits binary64 0x4084C6F9214B27EB

-- 1000 * 2^-1022 (ARM) and A = 1000 * 2^-970 (ASCLE)
unfoldable pub underflow_limit : Float
underflow_limit = of_bits binary64 0x00AF400000000000

unfoldable pub absolute_approximation_limit : Float
absolute_approximation_limit = of_bits binary64 0x03EF400000000000

-- 7, up to which log-gamma shifts its argument
unfoldable pub gamma_ln_minimum : Float
gamma_ln_minimum = of_bits binary64 0x401C000000000000

-- the one not-a-number that is ever stored; that its bits are 7FF8000000000000 is run, since the logic has one `nan`
abbrev pub not_a_number : Float
not_a_number = nan

unfoldable pub machine_constants : Machine
unfolding tolerance inverse_tolerance exponent_limit approximation_limit underflow_limit absolute_approximation_limit gamma_ln_minimum
machine_constants = record {
  tolerance = tolerance;
  inverse_tolerance = inverse_tolerance;
  exponent_limit = exponent_limit;
  approximation_limit = approximation_limit;
  underflow_limit = underflow_limit;
  absolute_approximation_limit = absolute_approximation_limit;
  gamma_ln_minimum = gamma_ln_minimum;
}
