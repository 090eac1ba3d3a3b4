-- `recurrence::fill::fill` meets its contract: as many rungs as there are pairs of cells, and its climb is the plain one. Assumes nothing.
use mathlib.Core.Path.{◌≡◌, refl, sym, ap, ◌∙◌}
use Prim.Native.Nat.{ℕ, ◌+◌, ◌-◌, ◌/◌}
use native.Mathlib.Omega.{arith}
use lib.ListN.{length}
use Rattle.recurrence.specs.Climb.{climb_from}
use Rattle.recurrence.specs.Fill.{fill_from}
use Rattle.recurrence.proofs.FillFacts.{fill-climb}
use Rattle.recurrence.proofs.fill.fill.Goals as goal

pub returns : goal.returns
returns c =
    let a = c.args in
    let n = length a.out.now / 2 in (
      c.all.ensures.climb ∙ ap (λ (k : ℕ). climb_from a.two_over_z a.base_order a.from k a.start) (pairs a.from n) ∙ sym (fill-climb a.two_over_z a.base_order a.from n a.start),
      c.all.ensures.cells refl ∙ ap (λ (k : ℕ). (fill_from a.two_over_z a.base_order a.from k a.start).cells) (pairs a.from n),
    )
  where
    pairs : (from n : ℕ) → from + n - from ≡ n
    pairs from n = omega arith
