-- The second seed by the operations of either kind of number is the real one at a real number, and the complex one at a complex number. Assumes nothing.
use mathlib.Core.Path.{◌≡◌, refl}
use mathlib.Core.Bool.{Bool, true, false}
use lib.Ieee.{Float}
use Rattle.complex.specs.declared.number.Complex.{Complex}
use Rattle.miller.specs.declared.backward.Steps.{Steps}
use Rattle.miller.specs.Backward.{on_real_line}
use Rattle.miller.specs.Seeds.{real_second, complex_ratio, complex_second}
use Rattle.miller.specs.shapes.Operations.{real_operations, complex_operations}
use Rattle.miller.specs.shapes.Ratio.{ratio_of, ratio_unless, product_unless}

pub real-second-is : (alone : Bool) (x fraction : Float) (s : Steps Float) (first : Float)
    → product_unless real_operations alone (ratio_unless real_operations alone x fraction s) first ≡ real_second alone x fraction s first
unfolding product_unless ratio_unless ratio_of real_second
real-second-is true x fraction s first = refl
real-second-is false x fraction s first = refl

pub complex-second-is : (alone : Bool) (z : Complex) (fraction : Float) (s : Steps Complex) (first : Complex)
    → product_unless complex_operations alone (ratio_unless complex_operations alone z fraction s) first ≡ complex_second alone z fraction s first
unfolding product_unless ratio_unless ratio_of complex_second complex_ratio on_real_line
complex-second-is true z fraction s first = refl
complex-second-is false z fraction s first = refl
