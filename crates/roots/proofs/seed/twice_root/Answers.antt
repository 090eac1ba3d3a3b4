-- `roots::seed::twice_root` meets its contract: bringing the pattern below 2^53 first changes nothing of the folded one. Assumes nothing.
use mathlib.Core.Path.{◌≡◌}
use Prim.Native.Nat.{◌+◌, ◌%◌, ◌^◌}
use native.Mathlib.Omega.{arith}
use Rattle.laws.proofs.Bits.{bits-no-nan}
use Rattle.roots.specs.Seed.{folded, twice_root}
use Rattle.roots.proofs.seed.twice_root.Goals as goal

pub float_from_bits-f : goal.float_from_bits-f
float_from_bits-f c = bits-no-nan _ (omega arith)

pub returns : goal.returns
unfolding twice_root
returns c =
    let u = c.args.u in
    let same : (u % 2 ^ 53 + 2 ^ 52) % 2 ^ 53 ≡ folded u = omega arith in
    rw (c.seed-s.ensures, same)
