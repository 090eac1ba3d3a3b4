-- The scaled significand of a folded pattern, by the half in which the pattern lies: from 2^52 up to 2^54 - 2. Assumes nothing.
use mathlib.Core.Path.{◌≡◌, ap}
use mathlib.Core.Logic.{inl, inr}
use mathlib.Core.Bool.{Bool, cond}
use Prim.Native.Nat.{ℕ, ◌+◌, ◌-◌, ◌*◌, ◌^◌, ◌≤◌, ◌<◌}
use native.Mathlib.Omega.{arith}
use borrow.Author.Tests.{lt-ltb, le-ltb}
use Rattle.roots.specs.Sqrt.{scaled}
use Rattle.roots.proofs.WholeRoot.{which}

pub low-scaled : (w : ℕ) → w < 2 ^ 52 → scaled w ≡ w + 2 ^ 52
low-scaled w h = ap (λ (b : Bool). cond b (w + 2 ^ 52) (w * 2)) (lt-ltb w (2 ^ 52) h)

pub high-scaled : (w : ℕ) → 2 ^ 52 ≤ w → scaled w ≡ w * 2
high-scaled w h = ap (λ (b : Bool). cond b (w + 2 ^ 52) (w * 2)) (le-ltb w (2 ^ 52) h)

pub scaled-range : (w : ℕ) → w < 2 ^ 53 → (2 ^ 52 ≤ scaled w) × (scaled w ≤ 2 ^ 54 - 2)
scaled-range w h = elim (which w (2 ^ 52)) [ inl k ↦ (let s = low-scaled w k in (omega arith, omega arith)) | inr k ↦ (let s = high-scaled w k in (omega arith, omega arith)) ]
