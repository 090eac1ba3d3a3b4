-- Seeds above |z| = 2 and at a fraction of ±½: a coefficient, which is both seeds at ±½, and Miller's steps at any other fraction. ZBKNU from label 110
-- to label 210, and label 300 (zbknu.f); `k_right_half_plane` of src/amos/right_half_plane.rs; the steps themselves are crate miller's.
-- DLMF 10.40.2 has the coefficient. Definitions only.
use Rattle.std.specs.Prelude.{Bool, not, ◌&&◌, ◌||◌, cond, Result, Ok, Err, Float}
use Rattle.std.specs.Float.{binary64}
use Rattle.std.specs.Float.Ieee.{of_bits, lt, eq}
use Rattle.laws.specs.Operators.{◌⊖◌}
use Rattle.machine.specs.Constants.{approximation_limit}
use Rattle.machine.specs.Small.{quarter, half}
use Rattle.circular.specs.CosPi.{cos_pi_of}
use Rattle.roots.specs.Sqrt.{sqrt_of}
use Rattle.complex.specs.declared.number.Complex.{Complex}
use Rattle.complex.specs.Arithmetic.{opposite_of, product_of, real_over}
use Rattle.complex.specs.Functions.{argument_of, complex_exp_of, at_half_angle}
use Rattle.machine.specs.Magnitude.{magnitude_of}
use Rattle.recurrence.specs.declared.state.OverflowState.{OverflowState}
use Rattle.recurrence.specs.declared.state.OverflowState.TheVariants.{NearUnder, None}
use Rattle.miller.specs.declared.point.Point.{Point}
use Rattle.miller.specs.declared.point.Order.{Order}
use Rattle.miller.specs.Point.{is_real, point_of}
use Rattle.miller.specs.declared.seeds.Miller.{Miller}
use Rattle.miller.specs.Seeds as miller
use Rattle.refusal.specs.declared.refusal.Refusal.{Refusal}
use Rattle.right_half_plane.specs.declared.ground.Ground.{Ground}
use Rattle.right_half_plane.specs.declared.seeds.Seeds.TheVariants.{Pair}
use Rattle.right_half_plane.specs.declared.seeds.Seeded.{Seeded}
use Rattle.right_half_plane.specs.Ground.{is_alone}

unfoldable pub is_half : Float → Bool
is_half fraction = eq (magnitude_of fraction) half

unfoldable pub rotation_of : Float → Float
rotation_of fraction = magnitude_of (cos_pi_of fraction)

unfoldable pub order_of : Float → Float → Order
order_of fraction square =
    record { fraction = fraction; square = square; rotation = rotation_of fraction; distance = magnitude_of (quarter ⊖ square) }

unfoldable pub point_with : Complex → Float → Float → Float → Point
point_with z modulus root angle = cond (is_real z) (point_of z) (record { z = z; modulus = modulus; root = root; angle = angle })

-- unscaled, with the real part above 664.87..: the seeds stay without e^-z
unfoldable pub is_far : Bool → Complex → Bool
is_far scaled z = not scaled && lt approximation_limit z.re

-- √(π/2) / √z, times e^-z unless scaled or far
unfoldable pub coefficient_of : Bool → Bool → Complex → Float → Float → Complex
coefficient_of scaled underflow z root angle =
    let plain = real_over (of_bits binary64 0x3FF40D931FF62706) (at_half_angle root angle) in
    cond (scaled || underflow) plain (product_of plain (complex_exp_of (opposite_of z)))

unfoldable pub far_state : Bool → OverflowState
far_state underflow = cond underflow NearUnder None

unfoldable pub miller_seeds : Bool → Result Miller Refusal → Result Seeded Refusal
miller_seeds underflow (Ok m) =
    Ok (record { seeds = Pair m.first m.second; state = far_state underflow; underflow = underflow; terms = 0; backward = m.backward })
miller_seeds underflow (Err refusal) = Err refusal

unfoldable pub half_seeds : Bool → Complex → Seeded
half_seeds underflow value = record { seeds = Pair value value; state = far_state underflow; underflow = underflow; terms = 0; backward = 0 }

unfoldable pub other_seeds : Ground → Bool → Result Seeded Refusal
other_seeds g scaled =
    let root = sqrt_of g.modulus in
    let angle = argument_of g.z in
    let underflow = is_far scaled g.z in
    let value = coefficient_of scaled underflow g.z root angle in
    let point = point_with g.z g.modulus root angle in
    cond (is_half g.fraction)
    (Ok (half_seeds underflow value))
    (miller_seeds underflow (miller.seeds_of point (order_of g.fraction g.square) value (is_alone g)))
