-- `angle::angle::tabled_arc` meets its contract: what the callees ensure, at the step that `nearest_step` gives, which the tables have. Assumes nothing.
use Rattle.angle.proofs.Step.{index_at, value-at}
use Rattle.angle.specs.Angle.{tabled_arc_of}
use Rattle.angle.proofs.angle.tabled_arc.Goals as goal

pub nearest_step-step-requires : goal.nearest_step-step-requires
nearest_step-step-requires c = c.requires

pub tabled-requires : goal.tabled-requires
tabled-requires c = index_at c.args.s c.requires c.nearest_step-step.result c.nearest_step-step.ensures

pub tangent_left-requires : goal.tangent_left-requires
tangent_left-requires c = record { ranged = c.requires; t = value-at c.args.s c.requires c.nearest_step-step.result c.nearest_step-step.ensures }

pub joined-requires : goal.joined-requires
joined-requires c = tt

pub returns : goal.returns
unfolding tabled_arc_of
returns c = simp (c.joined.ensures, c.tangent_left.ensures, c.tabled.ensures, c.nearest_step-step.ensures)
