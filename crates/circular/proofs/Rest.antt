-- The rest x % y of a value without a minus sign, for y above zero, lies between 0 and y; here y is bounded by a whole number. Assumes nothing.
use mathlib.Core.Path.{◌≡◌, sym, ap, ◌∙◌, subst}
use mathlib.Core.Bool.{Bool, true, false, cond, true≢false}
use Prim.Native.Nat.{ℕ, ◌*◌, ◌%◌, ◌≤◌, ◌<◌}
use native.Mathlib.Nat.{le_trans, le_of_eq, le_of_lt, mod-lt, mul-pos, mul-one, mul_assoc, mul_comm, mul-le-mul_right, zero-lt-suc}
use native.Mathlib.Omega.{arith}
use lib.Dec.{T, ltb→lt}
use borrow.Author.Tests.{ne_eqb}
use lib.IntN.{ℤ}
use lib.Ieee.{Float, nan, inf, fin, Format, up, down, round, rem, le}
use lib.Ieee.Fits.{up_pos, down_pos}
use lib.Ieee.Order.{round_mono}
use lib.Ieee.Scale.{finite}
use lib.Ieee.Positive.{positive, num, den}
use Rattle.laws.proofs.Value.{sign}
use Rattle.laws.proofs.Order.{nought, round-zero}

pub rem_is : (f : Format) (m : ℕ) (e : ℤ) (n : ℕ) (d : ℤ) → 0 < n → rem f (fin false m e) (fin false n d) ≡ round f false (m * up e * down d % (n * up d * down e)) (down e * down d)
unfolding rem
rem_is f m e n d h = ap (λ (t : Bool). cond t nan (round f false (m * up e * down d % (n * up d * down e)) (down e * down d))) (ne_eqb n 0 (apart n h))
  where
    apart : (n : ℕ) → 0 < n → n ≡ 0 → ⊥
    apart n h e = omega arith

pub rem-range : (f : Format) (x y : Float) (b : ℕ) → T (finite x) → sign x ≡ false → T (positive y) → num y ≤ b * den y → T (le nought (rem f x y)) × T (le (rem f x y) (round f false b 1))
rem-range f nan y b F S P h = absurd F
rem-range f (inf s) y b F S P h = absurd F
rem-range f (fin true m e) y b F S P h = absurd (true≢false S)
rem-range f (fin false m e) nan b F S P h = absurd P
rem-range f (fin false m e) (inf s) b F S P h = absurd P
rem-range f (fin false m e) (fin true n d) b F S P h = absurd P
rem-range f (fin false m e) (fin false n d) b F S P h =
    let N : 0 < n = ltb→lt 0 n P in
    let q = n * up d * down e in
    let r = m * up e * down d % q in
    let c = down e * down d in
    let C : 0 < c = mul-pos (down_pos e) (down_pos d) in
    let Q : 0 < q = mul-pos (mul-pos N (up_pos d)) (down_pos e) in
    let small : r ≤ q = le_of_lt (mod-lt (m * up e * down d) Q) in
    let fit : q ≤ b * c = le_trans (mul-le-mul_right (down e) h) (le_of_eq (mul_assoc b (down d) (down e) ∙ ap (λ (k : ℕ). b * k) (mul_comm (down d) (down e)))) in
    let is = rem_is f m e n d N in (
      subst (λ (z : Float). T (le z (rem f (fin false m e) (fin false n d)))) (round-zero f false 1 (zero-lt-suc 0))
          (subst (λ (z : Float). T (le (round f false 0 1) z)) (sym is) (round_mono f 0 1 r c (zero-lt-suc 0) C (nothing c r))),
      subst (λ (z : Float). T (le z (round f false b 1))) (sym is) (round_mono f r c b 1 C (zero-lt-suc 0) (le_trans (le_of_eq (mul-one r)) (le_trans small fit))),
    )
  where
    nothing : (c r : ℕ) → 0 * c ≤ r * 1
    nothing c r = omega arith
