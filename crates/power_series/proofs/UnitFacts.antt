-- Sums with a zero and products with a zero: which of them give the other operand back, and which a zero. General: for any f64.
-- Assumes nothing.
use mathlib.Core.Path.{◌≡◌, refl, sym, ap, ◌∙◌}
use mathlib.Core.Bool.{Bool, true, false, true≢false}
use Prim.Native.Nat.{ℕ, zero, suc, ◌*◌, ◌<◌}
use native.Mathlib.Nat.{mul-pos, mul-one, zero-mul, mul-zero, zero-lt-suc}
use native.Mathlib.Omega.{arith}
use lib.IntN.{ℤ}
use lib.Dec.{T, lit<}
use lib.Ieee.{Float, nan, inf, fin, binary64, of_bits, up, down, unlike, round, sum, fits, neg, add, sub, mul, eq}
use lib.Ieee.Fits.{up_pos, down_pos}
use lib.Ieee.Scale.{finite}
use borrow.Author.Tests.{lt-ltb, le-ltb}
use Rattle.laws.proofs.Order.{round-zero}
use Rattle.laws.proofs.Power.{unique}
use Rattle.laws.proofs.Zero.{zero_of, zero-fits}
use Rattle.laws.proofs.Sign.{add-comm-float}
use Rattle.laws.proofs.Unit.{own-round}
use Rattle.machine.specs.Small.{nothing}
use Rattle.power_series.specs.shapes.Alone.{Something}

pub mul-zero-float : (x : Float) (t : Bool) → T (finite x) → (s : Bool) × (mul binary64 x (zero_of t) ≡ zero_of s)
unfolding mul
mul-zero-float nan t h = absurd h
mul-zero-float (inf s) t h = absurd h
mul-zero-float (fin s m e) t h =
    (unlike s t, ap (λ (n : ℕ). round binary64 (unlike s t) n (down e * 1)) (mul-zero (m * up e)) ∙ round-zero binary64 (unlike s t) (down e * 1) (mul-pos (down_pos e) (zero-lt-suc 0)))

-- a zero beside something
sum-zero : (s t : Bool) (a c : ℕ) → 0 < a → sum binary64 s a t 0 c ≡ round binary64 s a c
unfolding sum
sum-zero true true a c h = ap (λ (n : ℕ). round binary64 true n c) (omega arith)
sum-zero false false a c h = ap (λ (n : ℕ). round binary64 false n c) (omega arith)
sum-zero true false a c h = rw (le-ltb a 0 (omega arith), lt-ltb 0 a h) (ap (λ (n : ℕ). round binary64 true n c) (omega arith))
sum-zero false true a c h = rw (le-ltb a 0 (omega arith)) (ap (λ (n : ℕ). round binary64 false n c) (omega arith))

zero-equal : (s : Bool) → eq (zero_of s) nothing ≡ true
unfolding of_bits eq
zero-equal true = refl
zero-equal false = refl

some : (s : Bool) (m : ℕ) (e : ℤ) → T (fits binary64 (fin s m e)) → eq (fin s m e) nothing ≡ false → 0 < m
some s zero e F h =
    let z : fin s 0 e ≡ zero_of s = unique binary64 (fin s 0 e) (zero_of s) s 0 1 0 1 (lit< tt) (lit< tt) F (zero-fits s) (refl, none (up e) (down e)) (refl, refl) refl in
    absurd (true≢false (sym (ap (λ (x : Float). eq x nothing) z ∙ zero-equal s) ∙ h))
  where
    none : (a b : ℕ) → 0 * a * 1 ≡ 0 * b
    none a b = omega arith
some s (suc m) e F h = zero-lt-suc m

add-zero-float : (x : Float) (t : Bool) → Something x → add binary64 x (zero_of t) ≡ x
unfolding add
add-zero-float nan t h = absurd h.bounded
add-zero-float (inf s) t h = absurd h.bounded
add-zero-float (fin s m e) t h =
    let positive : 0 < m * up e = mul-pos (some s m e h.holds h.other) (up_pos e) in
    rw (mul-one (m * up e), zero-mul (down e), mul-one (down e)) (sum-zero s t (m * up e) (down e) positive ∙ own-round s m e h.holds)

pub sub-zero-float : (x : Float) (t : Bool) → Something x → sub binary64 x (zero_of t) ≡ x
unfolding sub neg
sub-zero-float x true h = add-zero-float x false h
sub-zero-float x false h = add-zero-float x true h

pub zero-add-float : (x : Float) (t : Bool) → Something x → add binary64 (zero_of t) x ≡ x
zero-add-float x t h = add-comm-float binary64 (zero_of t) x ∙ add-zero-float x t h
