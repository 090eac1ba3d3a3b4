-- What `ln_of` is, by the pattern of its argument: the cases that the code tells apart. Assumes nothing.
use mathlib.Core.Path.{◌≡◌, refl, sym, ap, ◌∙◌, subst}
use Prim.Native.Nat.{ℕ, zero, suc, ◌*◌, ◌^◌, ◌≤◌, ◌<◌}
use native.Mathlib.Nat.{zero-mul}
use native.Mathlib.Omega.{arith}
use mathlib.Core.Bool.{Bool, true, false, cond}
use borrow.Author.Tests.{lt-ltb, le-ltb}
use lib.IntN.{ℤ, pos}
use lib.Dec.{T}
use lib.Ieee.{Float, nan, inf, fin, binary64, up, down, fits, of_bits, to_bits, size, neg, div}
use lib.Ieee.Bits.{of_bits-to_bits}
use lib.Ieee.Back.{whole_unique}
use lib.Ieee.Positive.{positive}
use Rattle.laws.proofs.Bits.{inf_bits, bits_positive, to_bits-finite}
use Rattle.logarithm.specs.Ln.{ln_of, ln_bits, ln_narrow, ln_wide}

-- ---- what is not a finite number above zero
pub of_nan : ln_of nan ≡ nan
unfolding ln_of
of_nan = refl

pub of-infinity : ln_of (inf false) ≡ inf false
unfolding ln_of
of-infinity = refl

pub of-minus-infinity : ln_of (inf true) ≡ nan
unfolding ln_of
of-minus-infinity = refl

pub of_zero : (s : Bool) → ln_of (fin s zero (pos 0)) ≡ inf true
unfolding ln_of
of_zero s = refl

pub of_negative : (m : ℕ) (e : ℤ) → ln_of (fin true (suc m) e) ≡ nan
unfolding ln_of
of_negative m e = refl

-- ---- by the pattern
known : (x : Float) (b : ℕ) → T (fits binary64 x) → to_bits binary64 x ≡ b → x ≡ of_bits binary64 b
known x b F e = sym (of_bits-to_bits binary64 x F) ∙ ap (of_bits binary64) e

-- minus one over zero, as the code has it
pub minus-infinity : div binary64 (neg (of_bits binary64 0x3FF0000000000000)) (of_bits binary64 0) ≡ inf true
unfolding div neg of_bits
minus-infinity = refl

pub at_zero : (x : Float) → T (fits binary64 x) → to_bits binary64 x ≡ 0 → ln_of x ≡ inf true
unfolding of_bits
at_zero x F e = ap ln_of (known x 0 F e) ∙ of_zero false

pub at-minus-zero : (x : Float) → T (fits binary64 x) → to_bits binary64 x ≡ 0x8000000000000000 → ln_of x ≡ inf true
unfolding of_bits
at-minus-zero x F e = ap ln_of (known x 0x8000000000000000 F e) ∙ of_zero true

pub at-infinity : (x : Float) → T (fits binary64 x) → to_bits binary64 x ≡ 0x7FF0000000000000 → ln_of x ≡ x
unfolding of_bits
at-infinity x F e = let k = known x 0x7FF0000000000000 F e in ap ln_of k ∙ of-infinity ∙ sym k

-- a number above zero
pub of_positive : (x : Float) → T (positive x) → ln_of x ≡ ln_bits (to_bits binary64 x)
unfolding ln_of
of_positive nan p = absurd p
of_positive (inf s) p = absurd p
of_positive (fin true m e) p = absurd p
of_positive (fin false zero e) p = absurd p
of_positive (fin false (suc m) e) p = refl

between : (x : Float) → T (fits binary64 x) → 0 < to_bits binary64 x → to_bits binary64 x < inf_bits → ln_of x ≡ ln_bits (to_bits binary64 x)
between x F p h = of_positive x (subst (λ (y : Float). T (positive y)) (of_bits-to_bits binary64 x F) (bits_positive (to_bits binary64 x) p h))

pub narrow : (x : Float) → T (fits binary64 x) → 0 < to_bits binary64 x → to_bits binary64 x < 2 ^ 52 → ln_of x ≡ ln_narrow (to_bits binary64 x)
unfolding ln_bits
narrow x F p h =
    between x F p (under (to_bits binary64 x) h)
    ∙ ap (λ (b : Bool). cond b (ln_narrow (to_bits binary64 x)) (ln_wide (to_bits binary64 x) (of_bits binary64 0x408FF80000000000))) (lt-ltb (to_bits binary64 x) (2 ^ 52) h)
  where
    under : (b : ℕ) → b < 2 ^ 52 → b < inf_bits
    under b h = omega arith

pub wide : (x : Float) → T (fits binary64 x) → 2 ^ 52 ≤ to_bits binary64 x → to_bits binary64 x < inf_bits → ln_of x ≡ ln_wide (to_bits binary64 x) (of_bits binary64 0x408FF80000000000)
unfolding ln_bits
wide x F h k =
    between x F (above (to_bits binary64 x) h) k
    ∙ ap (λ (b : Bool). cond b (ln_narrow (to_bits binary64 x)) (ln_wide (to_bits binary64 x) (of_bits binary64 0x408FF80000000000))) (le-ltb (to_bits binary64 x) (2 ^ 52) h)
  where
    above : (b : ℕ) → 2 ^ 52 ≤ b → 0 < b
    above b h = omega arith

-- any other pattern is a negative's or a not-a-number's
minus-zero : (e : ℤ) → T (fits binary64 (fin true zero e)) → to_bits binary64 (fin true zero e) ≡ 0x8000000000000000
unfolding to_bits size fits
minus-zero e F = ap (to_bits binary64) (whole_unique binary64 (fin true zero e) (fin true zero (pos 0)) true 0 F tt (refl, ap (λ (n : ℕ). n * 1) (zero-mul (up e)) ∙ sym (zero-mul (down e))) (refl, refl))

plus-infinity : to_bits binary64 (inf false) ≡ 0x7FF0000000000000
unfolding to_bits
plus-infinity = refl

pub other : (x : Float) → T (fits binary64 x) → inf_bits ≤ to_bits binary64 x → (to_bits binary64 x ≡ 0x7FF0000000000000 → ⊥) → (to_bits binary64 x ≡ 0x8000000000000000 → ⊥) → ln_of x ≡ nan
unfolding ln_of
other nan F h p q = refl
other (inf true) F h p q = refl
other (inf false) F h p q = absurd (p plus-infinity)
other (fin true zero e) F h p q = absurd (q (minus-zero e F))
other (fin true (suc m) e) F h p q = refl
other (fin false m e) F h p q = absurd (clash (to_bits binary64 (fin false m e)) h (to_bits-finite (fin false m e) F tt refl))
  where
    clash : (b : ℕ) → inf_bits ≤ b → b < inf_bits → ⊥
    clash b h k = omega arith
