-- Off ±1/2 neither of the Rust text's further tests holds in a call of K that passes its checks: the rotation |cos(π fraction)| and the distance |1/4 - fraction²| are not zero. Assumes nothing.
use mathlib.Core.Path.{◌≡◌}
use mathlib.Core.Bool.{true, false}
use Prim.Native.Nat.{ℕ}
use lib.Dec.{T}
use lib.Ieee.{Float, binary64, fits, eq}
use lib.Ieee.Fits.{sub-fits}
use Rattle.machine.specs.Small.{nothing}
use Rattle.call.specs.Checks.{none_applies}
use Rattle.right_half_plane.specs.Ground.{ground_of}
use Rattle.right_half_plane.specs.ByMiller.{is_half, order_of}
use Rattle.right_half_plane.proofs.SumsEnd.{fraction-between}
use Rattle.right_half_plane.proofs.OffHalf.{distance-not-zero}
use Rattle.right_half_plane.proofs.RotationOffHalf.{rotation-not-zero}
use Rattle.bessel.specs.declared.arguments.Arguments.{Arguments}
use Rattle.bessel.specs.Arguments.{arguments_of}
use Rattle.bessel.specs.Checks.{k_checks}
use Rattle.bessel.specs.K.{ground_by}
use Rattle.bessel.proofs.CheckFacts.{k-passed}
use Rattle.bessel.proofs.ArgumentFacts.{normalised-fits, order-limits}

-- with the order of the search as the kernel makes it
pub record NeitherZero (a : Arguments) (length : ℕ) : Type 0 where
  pub rotation : let g = ground_by a length in eq (order_of g.fraction g.square).rotation nothing ≡ false
  pub distance : let g = ground_by a length in eq (order_of g.fraction g.square).distance nothing ≡ false

pub off-half :
    (v re im : Float) (length : ℕ) → T (fits binary64 v) → none_applies (k_checks (arguments_of v re im) length) ≡ true →
    is_half (ground_by (arguments_of v re im) length).fraction ≡ false → NeitherZero (arguments_of v re im) length
unfolding ground_by ground_of order_of arguments_of
off-half v re im length F n e =
    let a = arguments_of v re im in
    let o = order-limits v re im length (k-passed a length n) in
    let b = fraction-between a.order (normalised-fits v F) o.0 in
    let f = (ground_by a length).fraction in
    record { rotation = rotation-not-zero f (sub-fits binary64 _ _) b.0 b.1 e; distance = distance-not-zero f (sub-fits binary64 _ _) b.0 b.1 e }
