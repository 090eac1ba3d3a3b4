-- The magnitude by the pattern without the sign's bit, and by comparisons of the value itself. Assumes nothing.
use mathlib.Core.Path.{◌≡◌, refl, sym, ap, ◌∙◌, subst}
use mathlib.Core.Bool.{Bool, true, false, not, ◌||◌}
use Prim.Native.Nat.{ℕ, ◌*◌, ◌%◌, ◌^◌, ◌≤◌}
use lib.Dec.{T, ltb}
use lib.Ieee.{Float, nan, inf, fin, binary64, up, down, fits, is_nan, nan_bits, of_bits, to_bits, neg, lt}
use lib.Ieee.Bits.{of_bits-to_bits, nan_bits_is}
use Rattle.std.specs.Float.{is_sign_negative}
use Rattle.laws.proofs.Value.{sign, bare}
use Rattle.laws.proofs.Bits.{inf_bits, of_bits-bare, to_bits-bare, to_bits-at-most, bare-fits, bare-no-nan, bare-sign}
use Rattle.machine.specs.Magnitude.{magnitude_of}

-- ---- by the pattern
pub bare-is : (x : Float) → bare x ≡ magnitude_of x
unfolding magnitude_of
bare-is nan = refl
bare-is (inf s) = refl
bare-is (fin s m e) = refl

pub magnitude-is : (x : Float) → T (fits binary64 x) → of_bits binary64 (to_bits binary64 x % 2 ^ 63) ≡ magnitude_of x
magnitude-is x F = of_bits-bare (to_bits binary64 x) ∙ ap bare (of_bits-to_bits binary64 x F) ∙ bare-is x

magnitude-number : (x : Float) → T (not (is_nan x)) → T (not (is_nan (magnitude_of x)))
unfolding is_nan magnitude_of
magnitude-number nan h = h
magnitude-number (inf s) h = tt
magnitude-number (fin s m e) h = tt

pub magnitude-no-nan : (x : Float) → T (fits binary64 x) → T (not (is_nan x)) → T (not (nan_bits binary64 (to_bits binary64 x % 2 ^ 63)))
magnitude-no-nan x F h = subst (λ (b : Bool). T (not b)) (sym (nan_bits_is binary64 (to_bits binary64 x % 2 ^ 63) ∙ ap is_nan (magnitude-is x F))) (magnitude-number x h)

-- the pattern without the sign's bit is no not-a-number's
pub bare-pattern : (x : Float) → T (fits binary64 x) → T (not (is_nan x)) → to_bits binary64 x % 2 ^ 63 ≤ inf_bits
bare-pattern x F n = subst (λ (b : ℕ). b ≤ inf_bits) (sym (to_bits-bare x F n)) (to_bits-at-most (bare x) (bare-fits x F) (bare-no-nan x n) (bare-sign x))

-- the library's test of the sign
pub negative_sign : (x : Float) → T (not (is_nan x)) → is_sign_negative x ≡ sign x
unfolding is_sign_negative is_nan
negative_sign nan h = absurd h
negative_sign (inf s) h = refl
negative_sign (fin s m e) h = refl

-- ---- above a number above zero
or-false : (b : Bool) → b ≡ b || false
or-false true = refl
or-false false = refl

pub above-magnitude : (b x : Float) → T (lt (of_bits binary64 0) b) → lt b (magnitude_of x) ≡ lt b x || lt x (neg b)
unfolding magnitude_of of_bits lt neg
above-magnitude nan x h = absurd h
above-magnitude (inf true) x h = absurd h
above-magnitude (inf false) nan h = refl
above-magnitude (inf false) (inf true) h = refl
above-magnitude (inf false) (inf false) h = refl
above-magnitude (inf false) (fin s m e) h = refl
above-magnitude (fin true k d) x h = absurd h
above-magnitude (fin false k d) nan h = refl
above-magnitude (fin false k d) (inf true) h = refl
above-magnitude (fin false k d) (inf false) h = refl
above-magnitude (fin false k d) (fin true m e) h = refl
above-magnitude (fin false k d) (fin false m e) h = or-false (ltb (k * up d * down e) (m * up e * down d))
