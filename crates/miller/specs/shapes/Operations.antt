-- How it is computed, not what: the operations that a backward step and the ratio of the seeds take their values through, in real arithmetic
-- and in complex arithmetic, so that each is written once. Definitions only.
use Rattle.std.specs.Prelude.{Float}
use Rattle.std.specs.Float.Ieee.{neg}
use Rattle.laws.specs.Operators.{◌⊕◌, ◌⊖◌, ◌⊗◌, ◌⊘◌}
use Rattle.machine.specs.Magnitude.{magnitude_of}
use Rattle.complex.specs.declared.number.Complex.{Complex}
use Rattle.complex.specs.Functions.{modulus_of}
use Rattle.complex.specs.Arithmetic.{plus_of, minus_of, opposite_of, conjugate_of, product_of, quotient_of, times_real, over_real, plus_real}
use Rattle.miller.specs.Backward.{on_real_line}

pub record Operations (A : Type 0) : Type 0 where
  pub from_real : Float → A
  pub plus : A → A → A
  pub minus : A → A → A
  pub product : A → A → A
  pub times_real : A → Float → A
  pub plus_real : A → Float → A
  pub over_real : A → Float → A
  pub opposite : A → A
  pub conjugate : A → A
  pub modulus : A → Float
  pub quotient : A → A → A

abbrev pub real_operations : Operations Float
real_operations =
    record {
      from_real = λ x. x;
      plus = ◌⊕◌;
      minus = ◌⊖◌;
      product = ◌⊗◌;
      times_real = ◌⊗◌;
      plus_real = ◌⊕◌;
      over_real = ◌⊘◌;
      opposite = neg;
      conjugate = λ x. x;
      modulus = magnitude_of;
      quotient = ◌⊘◌;
    }

abbrev pub complex_operations : Operations Complex
complex_operations =
    record {
      from_real = on_real_line;
      plus = plus_of;
      minus = minus_of;
      product = product_of;
      times_real = times_real;
      plus_real = plus_real;
      over_real = over_real;
      opposite = opposite_of;
      conjugate = conjugate_of;
      modulus = modulus_of;
      quotient = quotient_of;
    }
