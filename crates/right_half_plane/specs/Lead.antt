-- The zeros before the first order on scale, the first two entries after them, and the climb that goes on from there: ZBKNU's labels 240 and 270
-- (zbknu.f); `k_right_half_plane` of src/amos/right_half_plane.rs. Definitions only.
use Rattle.std.specs.Prelude.{◌+◌}
use Rattle.machine.specs.Constants.{tolerance}
use Rattle.complex.specs.Arithmetic.{times_real}
use Rattle.recurrence.specs.State.{reciprocal_of}
use Rattle.recurrence.specs.First.{first_orders}
use Rattle.recurrence.specs.declared.state.OverflowState.TheVariants.{NearUnder}
use Rattle.recurrence.specs.declared.state.Climb.{Climb}
use Rattle.right_half_plane.specs.declared.ground.Ground.{Ground}
use Rattle.right_half_plane.specs.declared.lead.Lead.{Lead}

-- no zeros, and the two values off the scale
unfoldable pub on_scale_lead : Climb → Lead
on_scale_lead c =
    let factor = reciprocal_of c.state in
    record { zeros = 0; first = times_real c.older factor; second = times_real c.newer factor; climb = c }

-- first orders on scale: what was found is raised by 2^52, which is the scale of NearUnder
unfoldable pub first_lead : Ground → Climb → Lead
first_lead g c =
    let s = first_orders g.z g.order g.count c.older c.newer g.two_over_z in
    record {
      zeros = s.zeros;
      first = times_real s.first tolerance;
      second = times_real s.second tolerance;
      climb = record { older = s.first; newer = s.second; state = NearUnder; rungs = c.rungs + s.rungs };
    }
