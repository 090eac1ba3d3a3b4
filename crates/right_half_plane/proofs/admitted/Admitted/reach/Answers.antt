-- `Admitted::reach` meets its contract: where the plain climb begins, few rungs are climbed. Assumes nothing.
use mathlib.Core.Path.{sym, ◌∙◌}
use Rattle.right_half_plane.proofs.Counts.{begun-few}
use Rattle.right_half_plane.proofs.admitted.Admitted.reach.Goals as goal

pub climbed-requires : goal.climbed-requires
climbed-requires c = begun-few _ _ _ _ c.args.self.sized c.requires (sym c.begun.ensures ∙ c.in_ok-from.was)
