-- One lead for both ways that a climb can end: it fits the cells, and what it answers is the kernel's answer. Assumes nothing.
use mathlib.Core.Path.{◌≡◌, refl}
use mathlib.Core.Bool.{Bool}
use Rattle.std.specs.Prelude.{Ok}
use Rattle.recurrence.specs.declared.state.Climb.{Climb}
use Rattle.right_half_plane.specs.declared.ground.Ground.{Ground}
use Rattle.right_half_plane.specs.declared.seeds.Seeded.{Seeded}
use Rattle.right_half_plane.specs.declared.reach.Reached.{Reached}
use Rattle.right_half_plane.specs.declared.reach.Reached.TheVariants as reached
use Rattle.right_half_plane.specs.Ground.{Sized}
use Rattle.right_half_plane.specs.Reach.{reach_of}
use Rattle.right_half_plane.specs.Kernel.{LeadFits, lead_kernel, reached_kernel}
use Rattle.right_half_plane.specs.shapes.Led.{led_of}
use Rattle.right_half_plane.proofs.Counts.{on-scale-few, marked-few}
use Rattle.right_half_plane.proofs.LeadFacts.{on-scale-fits, first_fits}

module _ (g : Ground) (underflow : Bool) (c : Climb) where
  pub led-fits : (r : Reached) → reach_of g underflow c ≡ Ok r → Sized g → c.rungs ≡ 0 → LeadFits g (led_of g r)
  unfolding led_of
  led-fits (reached.OnScale d) e s z = on-scale-fits g d s (on-scale-few g underflow c d e s z)
  led-fits (reached.Marked d) e s z = first_fits g d s (marked-few g underflow c d e s z)

pub reached-led : (g : Ground) (s : Seeded) (r : Reached) → reached_kernel g s (Ok r) ≡ lead_kernel g s (led_of g r)
unfolding reached_kernel led_of
reached-led g s (reached.OnScale c) = refl
reached-led g s (reached.Marked c) = refl
