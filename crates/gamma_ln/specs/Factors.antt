-- The product z (z+1) .. (z+n-1), of which DLMF 5.5.1 takes n at a time: DGAMLN's loop 60 (`gamma_ln` of src/amos/gamma_ln.rs).
-- Definitions only.
use Rattle.std.specs.Prelude.{ℕ, ◌+◌, pos, Float}
use Rattle.std.specs.Float.{binary64}
use Rattle.std.specs.Float.Ieee.{of_int}
use Rattle.laws.specs.Iterate.{iterate}
use Rattle.laws.specs.Operators.{◌⊕◌, ◌⊗◌}
use Rattle.machine.specs.Small.{one}
use Rattle.gamma_ln.specs.declared.factors.Multiplied.{Multiplied}

-- one more factor, which the count counts
unfoldable pub with_factor : Float → Multiplied → Multiplied
with_factor z s = record { product = s.product ⊗ (z ⊕ of_int binary64 (pos s.count)); count = s.count + 1 }

unfoldable pub factors_of : Float → ℕ → Multiplied
factors_of z n = iterate n (with_factor z) (record { product = one; count = 0 })
