-- `angle::angle::upper` meets its contract: what the callees ensure, one after the other; the scaled sides are in range. Assumes nothing.
use mathlib.Core.Path.{sym, subst}
use lib.Dec.{T}
use Rattle.angle.proofs.Sides.{ranged-at}
use Rattle.angle.specs.Angle.{upper_of}
use Rattle.angle.proofs.angle.upper.Goals as goal

pub arc-requires : goal.arc-requires
arc-requires c = ranged-at c.args.y c.args.x c.sides.result c.scaled.result (subst T (sym c.well_formed.0.1) tt) (subst T (sym c.well_formed.1.0.1) tt) c.requires c.sides.ensures c.scaled.ensures

pub returns : goal.returns
unfolding upper_of
returns c = simp (c.turned.ensures, c.arc.ensures, c.scaled.ensures, c.sides.ensures)
