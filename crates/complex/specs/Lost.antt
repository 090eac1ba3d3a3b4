-- ZUCHK, src/amos/utils.rs will_underflow. When a pair of parts is lost: the smaller magnitude is at most A and the larger one is below the
-- smaller one times 2^52. Definitions only. Every comparison with a not-a-number fails, so a pair with such a part is not lost.
use Rattle.std.specs.Prelude.{Bool, ◌&&◌, cond, Float}
use Rattle.std.specs.Float.{binary64}
use Rattle.std.specs.Float.Ieee.{lt, le, mul}
use Rattle.machine.specs.Constants.{absolute_approximation_limit, inverse_tolerance}
use Rattle.machine.specs.Magnitude.{magnitude_of}
use Rattle.complex.specs.declared.number.Complex.{Complex}

unfoldable pub lost_beside : Float → Float → Bool
lost_beside smaller larger = le smaller absolute_approximation_limit && lt larger (mul binary64 smaller inverse_tolerance)

unfoldable pub lost_of : Complex → Bool
lost_of z =
    let a = magnitude_of z.re in
    let b = magnitude_of z.im in
    cond (lt b a) (lost_beside b a) (lost_beside a b)
