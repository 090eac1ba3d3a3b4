-- How it is computed, not what: when the entry at order 0, unscaled, is the sum itself. The modulus of z/2 is finite and above zero, so
-- that its ln is finite, and neither part of the sum is a zero, an infinity or not a number, so that a leading factor of (1, 0) or (1, -0)
-- leaves it as it is. Definitions only.
use Rattle.std.specs.Prelude.{◌≡◌, false, T, Float}
use Rattle.std.specs.Float.{binary64}
use Rattle.std.specs.Float.Ieee.{fits, eq}
use Rattle.std.specs.Float.Ieee.Scale.{finite}
use Rattle.std.specs.Float.Ieee.Positive.{positive}
use Rattle.machine.specs.Small.{nothing}
use Rattle.complex.specs.declared.number.Complex.{Complex}

pub record Something (x : Float) : Type 0 where
  pub holds : T (fits binary64 x)
  pub bounded : T (finite x)
  pub other : eq x nothing ≡ false

pub record Plain (modulus : Float) (value : Complex) : Type 0 where
  pub holds : T (fits binary64 modulus)
  pub above : T (positive modulus)
  pub re : Something value.re
  pub im : Something value.im
