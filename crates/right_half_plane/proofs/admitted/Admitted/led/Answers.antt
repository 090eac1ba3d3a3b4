-- `Admitted::led` meets its contract, by where the climb stands. Assumes nothing.
use mathlib.Core.Path.{subst}
use Rattle.right_half_plane.specs.shapes.Led.{MarkedFew}
use Rattle.right_half_plane.proofs.admitted.Admitted.led.Goals as goal

pub first_lead-requires : goal.first_lead-requires
first_lead-requires c = subst MarkedFew c.in-Marked.is c.requires
