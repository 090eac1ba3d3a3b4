-- sin x: reduced to quarter turns (Reduce.antt), then one kernel (Kernel.antt). Not a number where x is none or an infinity. Definitions
-- only.
use Rattle.std.specs.Prelude.{◌+◌, false, cond, Float}
use Rattle.std.specs.Float.{nan, inf, fin}
use Rattle.std.specs.Float.Ieee.{neg}
use Rattle.circular.specs.Kernel.{sine_kernel, cosine_kernel, turned}
use Rattle.circular.specs.Reduce.{reduce_of}

-- a minus sign is half a turn: sin (-a) = sin (a + π)
unfoldable pub sin_of : Float → Float
sin_of nan = nan
sin_of (inf s) = nan
sin_of (fin s m e) =
    let r = reduce_of (fin false m e) in
    turned neg (r.quarter + cond s 2 0) (sine_kernel r.hi r.lo) (cosine_kernel r.hi r.lo)
