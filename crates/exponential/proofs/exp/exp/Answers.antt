-- `exponential::exp::exp` meets its contract. Assumes nothing.
use mathlib.Core.Path.{subst, sym}
use lib.Dec.{T}
use Rattle.exponential.specs.Exp.{limit, lower_limit, exp_of}
use Rattle.exponential.proofs.exp.exp.Goals as goal
use Rattle.exponential.proofs.exp.exp.Goals.{then-x+else-x-2, else-x}

pub exp_pair-requires : goal.exp_pair-requires
unfolding limit lower_limit
exp_pair-requires c = record { t = subst T (sym c.if-x.true) tt; t_2 = subst T (sym c.if-x-2.true) tt }

pub returns-then-x-2 : goal.returns-then-x-2
unfolding exp_of limit lower_limit
returns-then-x-2 c = simp (c.sum_of.ensures, c.exp_pair.ensures, c.if-x.true, c.if-x-2.true)

pub returns : goal.returns
unfolding exp_of limit lower_limit
returns c =
    elim c.if-x.branch [
      | then-x+else-x-2 w ↦ simp (c.exp_far.ensures, w.if-x.true, w.if-x-2.false)
      | else-x w ↦ simp (c.exp_far.ensures, w.if-x.false)
    ]
