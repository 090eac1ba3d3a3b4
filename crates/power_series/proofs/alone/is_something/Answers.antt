-- `power_series::alone::is_something` meets its contract. Assumes nothing.
use mathlib.Core.Path.{sym, ◌∙◌, subst}
use mathlib.Core.Bool.{false≢true}
use lib.Dec.{T}
use Rattle.power_series.proofs.alone.is_something.Goals as goal

pub returns-then-x : goal.returns-then-x
returns-then-x c = λ e. absurd (false≢true e)

pub returns : goal.returns
returns c = λ e. record { holds = subst T (sym c.well_formed.0.1) tt; bounded = subst T (sym (sym c.is_finite.ensures ∙ e)) tt; other = c.if-x.false }
