-- How it is computed, not what: what the angle adds to a start is worked out before the trials, whose index it is then added to. On the
-- real path nothing is added. The start itself is raw_start of specs/Search.antt. Definitions only.
use Rattle.std.specs.Prelude.{cond, Float}
use Rattle.machine.specs.Small.{nothing}
use Rattle.miller.specs.declared.point.Point.{Point}
use Rattle.miller.specs.Point.{is_real}
use Rattle.miller.specs.Search.{angle_correction}

unfoldable pub correction_of : Point → Float
correction_of point = cond (is_real point.z) nothing (angle_correction point.modulus point.angle)
