-- `exponential::by_magnitude::by_magnitude` meets its contract: what is not below 1 is above -705. Assumes nothing.
use mathlib.Core.Path.{sym, subst, ◌∙◌}
use lib.Dec.{T}
use Rattle.exponential.specs.Exp.{limit}
use Rattle.exponential.proofs.Reduction.{from_one}
use Rattle.exponential.proofs.by_magnitude.by_magnitude.Goals as goal

pub returns-then-a : goal.returns-then-a
returns-then-a g c s w p q = p _ _ c.small.ensures ∙ simp c.if-a.true

pub exp_pair-requires : goal.exp_pair-requires
unfolding limit
exp_pair-requires g c =
    let r = from_one c.args.a c.if-a.false (subst T (sym c.if-a-2.true) tt) in
    record { t = r.0; t_2 = r.1 }

pub returns-then-a-2 : goal.returns-then-a-2
unfolding limit
returns-then-a-2 g c s w p q = q _ _ c.wide.ensures ∙ simp (c.exp_pair.ensures, c.if-a.false, c.if-a-2.true)

pub returns : goal.returns
unfolding limit
returns g c s w p q = simp (c.half_exp_far.ensures, c.if-a.false, c.if-a-2.false)
