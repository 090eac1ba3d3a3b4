-- What Miller's method is asked with. Definitions only.
use Rattle.std.specs.Prelude.{Bool}
use Rattle.std.specs.Float.Ieee.{eq}
use Rattle.machine.specs.Small.{nothing}
use Rattle.complex.specs.declared.number.Complex.{Complex}
use Rattle.roots.specs.Sqrt.{sqrt_of}
use Rattle.miller.specs.declared.point.Point.{Point}

-- A zero imaginary part, -0 too: the Rust text's real path (src/amos/right_half_plane.rs), of which ZBKNU has none.
unfoldable pub is_real : Complex → Bool
is_real z = eq z.im nothing

-- what the real path is asked with: the modulus is the real part, and there is no angle
unfoldable pub point_of : Complex → Point
point_of z = record { z = z; modulus = z.re; root = sqrt_of z.re; angle = nothing }
