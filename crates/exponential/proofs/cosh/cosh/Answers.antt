-- `exponential::cosh::cosh` meets its contract: by the magnitude. Assumes nothing.
use mathlib.Core.Path.{◌≡◌, sym, ap, ◌∙◌, subst}
use lib.Dec.{T}
use lib.Ieee.Compare.{differs_from_itself}
use Rattle.std.proofs.Common.{rules}
use Rattle.machine.proofs.MagnitudeFacts.{bare-is}
use Rattle.exponential.specs.Cosh.{cosh_small, half_sum, cosh_magnitude, cosh_of}
use Rattle.exponential.proofs.Signs.{cosh-by-magnitude}
use Rattle.exponential.proofs.cosh.cosh.Goals as goal

pub returns-then-x : goal.returns-then-x
unfolding cosh_of
returns-then-x c = c.not_a_number.ensures ∙ ap cosh_of (sym (differs_from_itself c.args.x (subst T (sym c.if-x.true) tt)))

pub returns : goal.returns
unfolding cosh_magnitude
returns c =
    let x = c.args.x in
    let m : c.by_magnitude.result ≡ cosh_magnitude c.magnitude.result = c.by_magnitude.ensures cosh_small half_sum (λ y z p. search rules) (λ y z p. search rules) in
    m ∙ ap cosh_magnitude (c.magnitude.ensures ∙ sym (bare-is x)) ∙ sym (cosh-by-magnitude x)
