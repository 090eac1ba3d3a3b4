-- `power_series::alone::is_plain` meets its contract. Assumes nothing.
use mathlib.Core.Path.{sym, ◌∙◌, subst}
use mathlib.Core.Bool.{false≢true}
use lib.Dec.{T}
use lib.Ieee.{of_bits}
use lib.Ieee.Scale.{finite}
use Rattle.laws.proofs.Order.{le-refl-finite}
use Rattle.gamma_ln.proofs.Arguments.{above_zero}
use Rattle.power_series.proofs.alone.is_plain.Goals as goal

pub returns-then-modulus : goal.returns-then-modulus
returns-then-modulus c = λ e. absurd (false≢true e)

pub returns-then-is_something : goal.returns-then-is_something
unfolding of_bits
returns-then-is_something c = λ e.
    let d = c in
    let s = d in
    let f : T (finite s.args.modulus) = subst T (sym (sym d.is_finite.ensures ∙ c.if-is_finite.true)) tt in
    record {
      holds = subst T (sym s.well_formed.0.1) tt;
      above = above_zero s.args.modulus s.args.modulus d.if-modulus.false f (le-refl-finite s.args.modulus f);
      re = c.is_something.ensures c.if-is_something.true;
      im = c.is_something-then-is_something.ensures e;
    }

pub returns-else-is_something : goal.returns-else-is_something
returns-else-is_something c = λ e. absurd (false≢true e)

pub returns-else-is_finite : goal.returns-else-is_finite
returns-else-is_finite c = λ e. absurd (false≢true e)
