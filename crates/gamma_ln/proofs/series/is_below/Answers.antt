-- `gamma_ln::series::is_below` meets its contract. Assumes nothing.
use Rattle.laws.proofs.Sign.{lt-neg-l}
use Rattle.gamma_ln.specs.Series.{is_below}
use Rattle.gamma_ln.proofs.series.is_below.Goals as goal

pub returns-then-term-bound : goal.returns-then-term-bound
unfolding is_below
returns-then-term-bound c = simp (c.if-term-bound.true, lt-neg-l c.args.bound c.args.term)

pub returns-else-term-bound : goal.returns-else-term-bound
unfolding is_below
returns-else-term-bound c = simp c.if-term-bound.false
