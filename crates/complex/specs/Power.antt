-- Powers with a whole exponent: the scope's 'a power i is i products in a row, starting from 1', after num's powu. The port raises to the
-- power 2 alone.
-- Definitions only.
use Rattle.std.specs.Prelude.{ℕ}
use Rattle.laws.specs.Iterate.{iterate}
use Rattle.machine.specs.Small.{nothing, one}
use Rattle.complex.specs.declared.number.Complex.{Complex}
use Rattle.complex.specs.Arithmetic.{product_of}

unfoldable pub power_of : Complex → ℕ → Complex
power_of z i = iterate i (λ p. product_of p z) (record { re = one; im = nothing })
