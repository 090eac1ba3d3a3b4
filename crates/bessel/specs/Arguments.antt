-- The arguments of a call as the kernels take them. Definitions only.
use Rattle.std.specs.Prelude.{Float}
use Rattle.complex.specs.declared.number.Complex.{Complex}
use Rattle.complex.specs.Functions.{modulus_of}
use Rattle.call.specs.Limits.{normalised_of}
use Rattle.bessel.specs.declared.arguments.Arguments.{Arguments}

-- of the order and of the real part -0 is made +0; of the imaginary part it stays
unfoldable pub arguments_of : Float → Float → Float → Arguments
arguments_of v re im =
    let z : Complex = record { re = normalised_of re; im = im } in
    record { order = normalised_of v; z = z; modulus = modulus_of z }
