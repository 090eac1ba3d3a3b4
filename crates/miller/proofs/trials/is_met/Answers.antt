-- `miller::trials::is_met` meets its contract: a value above zero is its own magnitude. Assumes nothing.
use mathlib.Core.Path.{sym, subst}
use lib.Dec.{T}
use Rattle.miller.specs.Trials.{is_met}
use Rattle.miller.proofs.TrialFacts.{magnitude-above}
use Rattle.miller.proofs.trials.is_met.Goals as goal

pub returns-then-p : goal.returns-then-p
unfolding is_met
returns-then-p c = simp (magnitude-above c.args.p (subst T (sym c.if-p.true) tt))

pub returns : goal.returns
unfolding is_met
returns c = simp c.magnitude.ensures
