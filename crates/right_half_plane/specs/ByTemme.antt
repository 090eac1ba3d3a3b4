-- Seeds for |z| to 2, by Temme's sum: ZBKNU before its label 110 (zbknu.f); `k_right_half_plane` of src/amos/right_half_plane.rs. The sum itself is
-- crate temme's. Definitions only.
use Rattle.std.specs.Prelude.{Bool, false, cond, Float}
use Rattle.std.specs.Float.Ieee.{lt}
use Rattle.laws.specs.Operators.{◌⊕◌, ◌⊗◌}
use Rattle.machine.specs.Constants.{approximation_limit}
use Rattle.machine.specs.Small.{nothing, one}
use Rattle.complex.specs.declared.number.Complex.{Complex}
use Rattle.complex.specs.Arithmetic.{product_of, times_real}
use Rattle.complex.specs.Functions.{complex_ln_of, complex_exp_of}
use Rattle.machine.specs.Magnitude.{magnitude_of}
use Rattle.recurrence.specs.declared.state.OverflowState.{OverflowState}
use Rattle.recurrence.specs.declared.state.OverflowState.TheVariants.{None, NearOver}
use Rattle.recurrence.specs.State.{scale_of}
use Rattle.temme.specs.declared.seeds.Temme.{Temme}
use Rattle.temme.specs.Seeds as temme
use Rattle.right_half_plane.specs.declared.ground.Ground.{Ground}
use Rattle.right_half_plane.specs.declared.seeds.Seeds.{Seeds}
use Rattle.right_half_plane.specs.declared.seeds.Seeds.TheVariants.{Finished, Pair}
use Rattle.right_half_plane.specs.declared.seeds.Seeded.{Seeded}
use Rattle.right_half_plane.specs.Ground.{is_alone}

-- near overflow where (v + 1) |re of sinh μ over the fraction| exceeds the limit
unfoldable pub growth_state : Float → Complex → OverflowState
growth_state order shinc = cond (lt approximation_limit ((order ⊕ one) ⊗ magnitude_of shinc.re)) NearOver None

-- times e^z, if scaled
unfoldable pub growth_of : Bool → Complex → Complex
growth_of scaled z = cond scaled (complex_exp_of z) (record { re = one; im = nothing })

unfoldable pub grown_by : Bool → Complex → Complex → Complex
grown_by scaled growth value = cond scaled (product_of value growth) value

-- on the scale, the second times 2/z
unfoldable pub temme_pair : Ground → Bool → Complex → Float → Temme → Seeds
temme_pair g scaled growth factor t =
    Pair
    (grown_by scaled growth (times_real t.first factor))
    (grown_by scaled growth (product_of t.second (times_real g.two_over_z factor)))

-- r = 0 and n = 1 finishes it
unfoldable pub temme_seeds : Ground → Bool → Seeded
temme_seeds g scaled =
    let t = temme.seeds_of g.z g.modulus (complex_ln_of g.two_over_z) g.fraction g.square in
    let growth = growth_of scaled g.z in
    let state = growth_state g.order t.shinc in
    cond (is_alone g)
    (record { seeds = Finished (grown_by scaled growth t.first); state = None; underflow = false; terms = t.terms; backward = 0 })
    (record { seeds = temme_pair g scaled growth (scale_of state) t; state = state; underflow = false; terms = t.terms; backward = 0 })
