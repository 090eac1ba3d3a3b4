-- `right_half_plane::recover::recover` meets its contract: the search takes no more rungs than it may. Assumes nothing.
use mathlib.Core.Path.{sym, ap, subst}
use Prim.Native.Nat.{◌≤◌}
use native.Mathlib.Nat.{le_trans}
use Rattle.recurrence.specs.declared.search.Search.{Search}
use Rattle.right_half_plane.proofs.Counts.{recovery-rungs}
use Rattle.right_half_plane.proofs.recover.recover.Goals as goal

pub settled-requires : goal.settled-requires
settled-requires c =
    let z = ap (λ (s : Search). s.rungs) c.search_at-start.ensures in
    subst (λ (s : Search). s.rungs ≤ 1000) (sym c.search_from.ensures) (le_trans (recovery-rungs _ _ _ _ z) c.requires)
