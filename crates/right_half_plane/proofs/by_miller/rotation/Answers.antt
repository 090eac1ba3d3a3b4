-- `right_half_plane::by_miller::rotation` meets its contract: at 0 it is a fact by computation. Assumes nothing.
use mathlib.Core.Path.{sym, subst}
use lib.Dec.{T}
use Rattle.right_half_plane.specs.ByMiller.{rotation_of}
use Rattle.right_half_plane.proofs.RotationAtZero.{rotation-at-zero}
use Rattle.right_half_plane.proofs.by_miller.rotation.Goals as goal

pub returns-then-fraction : goal.returns-then-fraction
returns-then-fraction c = sym (rotation-at-zero c.args.fraction (subst T (sym c.well_formed.0.1) tt) c.if-fraction.true)

pub returns : goal.returns
unfolding rotation_of
returns c = simp (c.magnitude.ensures, c.cos_pi.ensures)
