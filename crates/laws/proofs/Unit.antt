-- A value rounds to itself, and its product by 1 is the value. For any f64. Assumes nothing.
use mathlib.Core.Path.{◌≡◌, refl, sym, ap}
use mathlib.Core.Bool.{Bool, true, false}
use Prim.Native.Nat.{ℕ, ◌+◌, ◌*◌, ◌^◌, ◌≤◌, ◌<◌}
use native.Mathlib.Nat.{mul-one, lt_of_lt_of_le, mul-lt-mul_of_pos_right, le_of_eq, le_trans}
use lib.Pow.{pow_pos, pow-add, pow_mono}
use native.Mathlib.Omega.{arith}
use lib.IntN.{ℤ}
use lib.Dec.{T}
use lib.Ieee.{Float, nan, inf, fin, binary64, of_bits, up, down, unlike, round, fits, mul}
use lib.Ieee.Exact.{round_exact}
use lib.Ieee.Fits.{down_pos, round-fits}
use Rattle.laws.proofs.Power.{unique, digits}

-- a value rounds to itself
pub own-round : (s : Bool) (m : ℕ) (e : ℤ) → T (fits binary64 (fin s m e)) → round binary64 s (m * up e) (down e) ≡ fin s m e
own-round s m e F =
    let D = digits (fin s m e) F tt in
    let u : D.q * 2 ^ D.j < 2 ^ (1074 + 1024) =
    lt_of_lt_of_le (mul-lt-mul_of_pos_right D.few (pow_pos D.j)) (le_trans (le_of_eq (sym (pow-add 2 53 D.j))) (pow_mono (top D.j D.low))) in
    unique binary64 (round binary64 s (m * up e) (down e)) (fin s m e) s (m * up e) (down e) (m * up e) (down e) (down_pos e) (down_pos e) (round-fits binary64 s (m * up e) (down e)) F
    (round_exact binary64 s (m * up e) (down e) D.q D.j (down_pos e) D.few u D.value.1) (refl, refl) refl
  where
    top : (j : ℕ) → j < 2046 → 53 + j ≤ 1074 + 1024
    top j h = omega arith

like : (s : Bool) → unlike s false ≡ s
like true = refl
like false = refl

pub mul-one-float : (x : Float) → T (fits binary64 x) → mul binary64 x (of_bits binary64 0x3FF0000000000000) ≡ x
unfolding mul of_bits
mul-one-float nan F = refl
mul-one-float (inf s) F = ap inf (like s)
mul-one-float (fin s m e) F = rw (like s, mul-one (m * up e), mul-one (down e)) (own-round s m e F)
