-- The root of the underflow limit has the bits that the code has: 4.7170688552396617e-153. Assumes nothing.
use mathlib.Core.Path.{◌≡◌, refl}
use lib.Ieee.{binary64, of_bits, round}
use Rattle.machine.specs.Constants.{underflow_limit}
use Rattle.roots.specs.Sqrt.{sqrt_of, nearest_root, root}
use Rattle.series_step.specs.Setting.{square_limit}

pub limit : square_limit ≡ of_bits binary64 0x204F9F6E4990F227
unfolding square_limit underflow_limit sqrt_of nearest_root root of_bits round
limit = refl
