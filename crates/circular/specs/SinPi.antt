-- sin(πx): reduced to quarter turns (Reduce.antt), then one kernel (Kernel.antt). Not a number where x is none or an infinity. Definitions
-- only.
use Rattle.std.specs.Prelude.{◌+◌, false, cond, Float}
use Rattle.std.specs.Float.{nan, inf, fin}
use Rattle.laws.specs.Operators.{◌⊖◌}
use Rattle.machine.specs.Small.{nothing}
use Rattle.circular.specs.Kernel.{sine_kernel, cosine_kernel, turned}
use Rattle.circular.specs.Reduce.{reduce_pi_of}

-- -y, and +0 for either zero
unfoldable pub from_zero : Float → Float
from_zero y = nothing ⊖ y

-- a minus sign is half a turn
unfoldable pub sin_pi_of : Float → Float
sin_pi_of nan = nan
sin_pi_of (inf s) = nan
sin_pi_of (fin s m e) =
    let r = reduce_pi_of (fin false m e) in
    turned from_zero (r.quarter + cond s 2 0) (sine_kernel r.hi r.lo) (cosine_kernel r.hi r.lo)
