-- The cases of `sqrt_of` that are no root, by the pattern: the zeros, the infinity, and what is a not-a-number or negative. Assumes nothing.
use mathlib.Core.Path.{◌≡◌, refl, sym, ap, ◌∙◌, subst}
use mathlib.Core.Bool.{true, false}
use Prim.Native.Nat.{ℕ, zero, suc, ◌+◌, ◌-◌, ◌*◌, ◌/◌, ◌^◌, ◌<◌}
use native.Mathlib.Nat.{le_of_lt, le_of_eq, lt_irrefl, lt_of_lt_of_le, not-le_of_lt, zero-mul, zero-div}
use lib.IntN.{ℤ}
use lib.Dec.{T}
use lib.Ieee.{Float, nan, inf, fin, binary64, up, down, size, of_bits, to_bits, fits}
use Rattle.laws.proofs.Bits.{inf_bits, to_bits-finite}
use Rattle.roots.specs.Sqrt.{sqrt_of}

at_zero : of_bits binary64 0 ≡ sqrt_of (of_bits binary64 0)
unfolding of_bits sqrt_of
at_zero = refl

at-minus-zero : of_bits binary64 0x8000000000000000 ≡ sqrt_of (of_bits binary64 0x8000000000000000)
unfolding of_bits sqrt_of
at-minus-zero = refl

at-infinite : of_bits binary64 0x7FF0000000000000 ≡ sqrt_of (of_bits binary64 0x7FF0000000000000)
unfolding of_bits sqrt_of
at-infinite = refl

at : (x : Float) (u k : ℕ) → of_bits binary64 u ≡ x → u ≡ k → of_bits binary64 k ≡ sqrt_of (of_bits binary64 k) → x ≡ sqrt_of x
at x u k e h f = subst (λ (z : Float). z ≡ sqrt_of z) (ap (of_bits binary64) (sym h) ∙ e) f

pub sqrt-zero : (x : Float) (u : ℕ) → of_bits binary64 u ≡ x → u ≡ 0 → x ≡ sqrt_of x
sqrt-zero x u e h = at x u 0 e h at_zero

pub sqrt-minus-zero : (x : Float) (u : ℕ) → of_bits binary64 u ≡ x → u ≡ 0x8000000000000000 → x ≡ sqrt_of x
sqrt-minus-zero x u e h = at x u 0x8000000000000000 e h at-minus-zero

pub sqrt-infinite : (x : Float) (u : ℕ) → of_bits binary64 u ≡ x → u ≡ 0x7FF0000000000000 → x ≡ sqrt_of x
sqrt-infinite x u e h = at x u 0x7FF0000000000000 e h at-infinite

-- ---- what has a pattern above the infinity's, other than that of -0
minus-zero-pattern : (e : ℤ) → to_bits binary64 (fin true 0 e) ≡ 0x8000000000000000
unfolding to_bits size
minus-zero-pattern e =
    let z : 0 * up e * 2 ^ 1074 / down e ≡ 0 = ap (λ (t : ℕ). t * 2 ^ 1074 / down e) (zero-mul (up e)) ∙ zero-div (down e) in
    ap (λ (n : ℕ). 0x8000000000000000 + (size n - 53) * 2 ^ 52 + n / 2 ^ (size n - 53)) z

infinite-pattern : to_bits binary64 (inf false) ≡ inf_bits
unfolding to_bits
infinite-pattern = refl

not_finite : (m : ℕ) (e : ℤ) → T (fits binary64 (fin false m e)) → inf_bits < to_bits binary64 (fin false m e) → ⊥
not_finite m e F l = not-le_of_lt l (le_of_lt (to_bits-finite (fin false m e) F tt refl))

pub sqrt-nan : (x : Float) → T (fits binary64 x) → inf_bits < to_bits binary64 x → (to_bits binary64 x ≡ 0x8000000000000000 → ⊥) → sqrt_of x ≡ nan
unfolding sqrt_of
sqrt-nan nan F l h = refl
sqrt-nan (inf true) F l h = refl
sqrt-nan (inf false) F l h = absurd (lt_irrefl inf_bits (lt_of_lt_of_le l (le_of_eq infinite-pattern)))
sqrt-nan (fin true zero e) F l h = absurd (h (minus-zero-pattern e))
sqrt-nan (fin false zero e) F l h = absurd (not_finite 0 e F l)
sqrt-nan (fin true (suc m) e) F l h = refl
sqrt-nan (fin false (suc m) e) F l h = absurd (not_finite (suc m) e F l)
