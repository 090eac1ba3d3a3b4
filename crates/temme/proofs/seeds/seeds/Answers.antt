-- `temme::seeds::seeds` meets its contract. Assumes nothing.
use mathlib.Core.Path.{ap}
use Rattle.temme.specs.declared.sum.Terms.{Terms}
use Rattle.temme.specs.Seeds.{start_of, seeds_of}
use Rattle.temme.proofs.seeds.seeds.Goals as goal

pub summed-s-requires : goal.summed-s-requires
unfolding start_of
summed-s-requires c = ap (λ (s : Terms). s.terms) c.start-begun.ensures

pub returns : goal.returns
unfolding seeds_of
returns c =
    let d = c in
    let e = d in
    simp (
      d.summed-s.ensures,
      d.start-begun.ensures,
      d.gammas_at.ensures,
      d.over_fraction-shinc.ensures,
      e.exp_cosh_sinh-h.ensures.0,
      e.exp_cosh_sinh-h.ensures.1,
      e.exp_cosh_sinh-h.ensures.2,
      e.times_real.ensures,
    )
