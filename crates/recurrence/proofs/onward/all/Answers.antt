-- `recurrence::onward::all` meets its contract: part after part, up to the whole. Assumes nothing.
use mathlib.Core.Path.{◌≡◌, refl}
use Prim.Native.Nat.{ℕ, ◌+◌, ◌-◌, ◌*◌, zero-le}
use native.Mathlib.Nat.{le_refl}
use native.Mathlib.Omega.{arith}
use Rattle.recurrence.proofs.StretchFacts.{partway_start, partway-again}
use Rattle.recurrence.proofs.FillFacts.{filled-start, filled-again}
use Rattle.recurrence.proofs.OffScaleFacts.{same-spreads}
use Rattle.recurrence.proofs.onward.all.Goals as goal

pub loop-i-init : goal.loop-i-init
loop-i-init g c = (
  omega arith,
  omega arith,
  omega arith,
  record { part = partway_start _ _ _ _ _; filled = λ t. filled-start _ _ same-spreads _ _ _ _ _ zero-le },
)

pub loop-i-preserved : goal.loop-i-preserved
loop-i-preserved g c =
    let v = c.loop-i.invariant in
    let o = c.onward-c.ensures.0 in
    let m = o.part.counted in
    let n = o.part.inside in (
      refl,
      omega arith,
      omega arith,
      record {
        part = partway-again _ _ c.loop-i.i v.0 (le_refl _) v.3.part o.part;
        filled = λ t. filled-again _ _ same-spreads c.loop-i.i _ v.0 (place _ _ c.loop-i.i v.0) (le_refl _) (v.3.filled t) (o.filled t);
      },
    )
  where
    place : (from k i : ℕ) → i ≡ from + k → 2 * (i - from) ≡ 0 + k * 2
    place from k i e = omega arith
