-- The whole part of a finite value's magnitude: ZBKNU's INT at label 180, and the Rust text's `as usize`. Definitions only.
use Rattle.std.specs.Prelude.{ℕ, ◌/◌, Float}
use Rattle.std.specs.Float.Ieee.Positive.{num, den}

-- of a value in (-1, 0) it is 0
unfoldable pub truncated : Float → ℕ
truncated x = num x / den x
