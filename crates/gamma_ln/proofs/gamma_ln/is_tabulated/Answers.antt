-- `gamma_ln::gamma_ln::is_tabulated` meets its contract: up to 100.1 the nearby whole number is the argument where the rounded one is. Assumes nothing.
use mathlib.Core.Path.{sym, ◌∙◌, subst}
use lib.Dec.{T}
use Rattle.gamma_ln.specs.GammaLn.{is_tabulated}
use Rattle.gamma_ln.proofs.Nearest.{is-whole}
use Rattle.gamma_ln.proofs.gamma_ln.is_tabulated.Goals as goal

pub returns-then-x : goal.returns-then-x
unfolding is_tabulated
returns-then-x c =
    let s = c in
    is-whole s.args.x (subst T (sym s.well_formed.0.1) tt) s.requires (subst T (sym c.if-x.true) tt) ∙ simp c.if-x.true

pub returns-else-x : goal.returns-else-x
unfolding is_tabulated
returns-else-x c = simp c.if-x.false
