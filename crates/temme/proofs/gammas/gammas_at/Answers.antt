-- `temme::gammas::gammas_at` meets its contract: at 0 the values are facts by computation. Assumes nothing.
use mathlib.Core.Path.{sym, subst}
use lib.Dec.{T}
use Rattle.temme.proofs.GammasAtZero.{gammas-at-zero}
use Rattle.temme.proofs.gammas.gammas_at.Goals as goal

pub returns-then-fraction : goal.returns-then-fraction
returns-then-fraction c = let d = c in simp c.difference.ensures (sym (gammas-at-zero d.args.fraction d.args.fraction_square (subst T (sym d.well_formed.0.1) tt) c.if-fraction.true))
