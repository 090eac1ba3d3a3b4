-- `miller::seeds::seeds_from` meets its contract: the real path and the other. Assumes nothing.
use mathlib.Core.Path.{sym, ◌∙◌}
use Rattle.miller.specs.Seeds.{seeds_from}
use Rattle.miller.proofs.seeds.seeds_from.Goals as goal

pub returns-then-is_real : goal.returns-then-is_real
unfolding seeds_from
returns-then-is_real c = simp (c.real_seeds.ensures, sym c.is_real.ensures ∙ c.if-is_real.true)

pub returns : goal.returns
unfolding seeds_from
returns c = simp (c.complex_seeds.ensures, sym c.is_real.ensures ∙ c.if-is_real.false)
