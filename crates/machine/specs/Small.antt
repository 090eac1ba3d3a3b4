-- The small constants that many definitions name: 0, a quarter, a half, 1 and 2. Definitions only.
use Rattle.std.specs.Prelude.{Float}
use Rattle.std.specs.Float.{binary64}
use Rattle.std.specs.Float.Ieee.{of_bits}

abbrev pub nothing : Float
nothing = of_bits binary64 0

abbrev pub quarter : Float
quarter = of_bits binary64 0x3FD0000000000000

abbrev pub half : Float
half = of_bits binary64 0x3FE0000000000000

abbrev pub one : Float
one = of_bits binary64 0x3FF0000000000000

abbrev pub two : Float
two = of_bits binary64 0x4000000000000000
