-- 1.0 / 0.0, as the source writes infinity, is infinity. Assumes nothing.
use mathlib.Core.Path.{◌≡◌, refl}
use lib.Ieee.{binary64, of_bits, div}
use Rattle.angle.specs.Angle.{infinity}

pub infinite : div binary64 (of_bits binary64 0x3FF0000000000000) (of_bits binary64 0) ≡ infinity
unfolding of_bits div infinity
infinite = refl
