-- `Ground::temme_seeds` meets its contract: one finished value, or the pair. Assumes nothing.
use mathlib.Core.Path.{sym, ◌∙◌}
use Rattle.right_half_plane.specs.ByTemme.{temme_seeds}
use Rattle.right_half_plane.proofs.GrowthFacts.{grown_same, pair_same}
use Rattle.right_half_plane.proofs.ground.Ground.temme_seeds.Goals as goal

pub returns-then-is_alone : goal.returns-then-is_alone
unfolding temme_seeds
returns-then-is_alone c = simp (c.grown.ensures, c.growth-growth.ensures, grown_same, c.seeds-t.ensures, c.ln.ensures, sym c.is_alone.ensures ∙ c.if-is_alone.true)

pub returns : goal.returns
unfolding temme_seeds
returns c = simp (c.temme_pair.ensures, c.growth-growth.ensures, pair_same, c.scale.ensures, c.growth_state-state.ensures, c.seeds-t.ensures, c.ln.ensures, sym c.is_alone.ensures ∙ c.if-is_alone.false)
