-- cos(πx): reduced to quarter turns (Reduce.antt), then one kernel (Kernel.antt). Not a number where x is none or an infinity. Definitions
-- only.
use Rattle.std.specs.Prelude.{◌+◌, false, Float}
use Rattle.std.specs.Float.{nan, inf, fin}
use Rattle.circular.specs.Kernel.{sine_kernel, cosine_kernel, turned}
use Rattle.circular.specs.Reduce.{reduce_pi_of}
use Rattle.circular.specs.SinPi.{from_zero}

-- the sine a quarter turn further on, for either sign
unfoldable pub cos_pi_of : Float → Float
cos_pi_of nan = nan
cos_pi_of (inf s) = nan
cos_pi_of (fin s m e) =
    let r = reduce_pi_of (fin false m e) in
    turned from_zero (r.quarter + 1) (sine_kernel r.hi r.lo) (cosine_kernel r.hi r.lo)
