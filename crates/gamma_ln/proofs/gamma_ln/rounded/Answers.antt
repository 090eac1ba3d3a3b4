-- `gamma_ln::gamma_ln::rounded` meets its contract: the even whole number, or what `round` gives. Assumes nothing.
use mathlib.Core.Path.{sym, subst}
use lib.Dec.{T}
use Rattle.gamma_ln.proofs.Nearest.{rounded-down}
use Rattle.gamma_ln.proofs.gamma_ln.rounded.Goals as goal

pub returns-then-x-whole : goal.returns-then-x-whole
returns-then-x-whole c =
    let s = c in
    rounded-down s.args.x (subst T (sym s.well_formed.0.1) tt) s.requires.0 s.requires.1 (subst T (sym c.if-x-whole.true) tt)

pub returns : goal.returns
returns c = c.round.ensures
