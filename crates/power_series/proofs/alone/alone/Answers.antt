-- `power_series::alone::alone` meets its contract: the sum as it is, or the visit. Assumes nothing.
use mathlib.Core.Path.{◌≡◌, sym, ap, ◌∙◌, subst}
use native.Mathlib.Omega.{arith}
use lib.Dec.{T}
use lib.Ieee.{Float, binary64, fits}
use Rattle.laws.specs.Operators.{◌⊕◌}
use Rattle.machine.specs.Small.{nothing, half}
use Rattle.complex.specs.declared.number.Complex.{Complex}
use Rattle.complex.specs.Arithmetic.{times_real}
use Rattle.complex.specs.Functions.{modulus_of}
use Rattle.series_sum.specs.Sum.{sum_of}
use Rattle.series_step.specs.Setting.{half_square, turned_of, square_of}
use Rattle.power_series.specs.shapes.Alone.{Plain}
use Rattle.power_series.proofs.AloneFacts.{sum_at, sum_is, alone-visited, alone-written, pair-cells}
use Rattle.power_series.proofs.alone.alone.Goals as goal

pub returns-then-is_plain-clause-visit : goal.returns-then-is_plain-clause-visit
unfolding half_square
returns-then-is_plain-clause-visit c =
    let a = c.args in
    let turning = c.turn-half_z_sq in
    let sum = c.single_n_iteration-sum in
    let value = sum.result.value in
    let square : turning.result ≡ turned_of a.turned (square_of a.modulus (times_real a.z half)) =
    turning.ensures ∙ ap (turned_of a.turned) (c.square_of.ensures ∙ ap (square_of a.modulus) c.mul-half.ensures) in
    let is : sum.result ≡ sum_at a.turned a.order a.z a.modulus =
    sum.ensures ∙ ap (λ (w : Complex). sum_of (a.order ⊕ nothing) w (half_square a.modulus)) square ∙ sum_is a.turned a.order a.z a.modulus in
    let plain : Plain (modulus_of (times_real a.z half)) value =
    subst (λ (x : Float). Plain x value) (c.modulus.ensures ∙ ap modulus_of c.mul-half.ensures) (c.is_plain.ensures c.if-is_plain.true) in
    let fine : T (fits binary64 a.order) = subst T (sym c.well_formed.1.0.1) tt in (
      alone-visited a.turned a.order a.z a.modulus fine c.requires.0 sum.result is plain,
      c.put.ensures.cells ∙ pair-cells a.out.now.cells.now value.re value.im (omega (arith, c.requires.1, a.out.now.even)) ∙ alone-written a.turned a.order a.z a.modulus fine c.requires.0 sum.result is plain,
    )
