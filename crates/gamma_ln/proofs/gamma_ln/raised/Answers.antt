-- `gamma_ln::gamma_ln::raised` meets its contract: below 7, and not. Assumes nothing.
use mathlib.Core.Path.{sym, subst}
use lib.Dec.{T}
use Rattle.machine.specs.Constants.{gamma_ln_minimum}
use Rattle.gamma_ln.specs.GammaLn.{shift_of, series_argument_of}
use Rattle.gamma_ln.proofs.Arguments.{below-positive}
use Rattle.gamma_ln.proofs.gamma_ln.raised.Goals as goal

pub rounded-shift-requires : goal.rounded-shift-requires
unfolding gamma_ln_minimum
rounded-shift-requires c =
    let s = c in
    let t = subst T (sym c.if-x.true) tt in
    (below-positive s.args.x s.requires t, t)

pub returns-then-x : goal.returns-then-x
unfolding series_argument_of shift_of gamma_ln_minimum
returns-then-x c = (simp (c.if-x.true, c.rounded-shift.ensures), simp (c.if-x.true, c.rounded-shift.ensures))

pub returns : goal.returns
unfolding series_argument_of gamma_ln_minimum
returns c = (simp c.if-x.false, simp c.if-x.false)
