-- A value that equals itself is no not-a-number, and a pattern's magnitude says whether it is one's: at most 7FF0000000000000, or above. Assumes nothing.
use mathlib.Core.Path.{◌≡◌, refl, sym, ◌∙◌, subst}
use mathlib.Core.Bool.{Bool, true, false, not}
use Prim.Native.Nat.{ℕ, ◌%◌, ◌≤◌, ◌<◌}
use lib.Dec.{T}
use borrow.Author.Tests.{le-ltb, lt-ltb}
use lib.Ieee.{Float, nan, inf, fin, binary64, ne, is_nan, nan_bits, of_bits}
use lib.Ieee.Bits.{nan_bits_is, nan_bits_above}

pub equals_itself : (x : Float) → ne x x ≡ false → T (not (is_nan x))
unfolding ne is_nan
equals_itself nan e = subst T e tt
equals_itself (inf s) e = tt
equals_itself (fin s m e) h = tt

is-nan : (x : Float) → is_nan x ≡ true → x ≡ nan
unfolding is_nan
is-nan nan e = refl
is-nan (inf s) e = absurd (subst (λ (b : Bool). T (not b)) e tt)
is-nan (fin s m e) h = absurd (subst (λ (b : Bool). T (not b)) h tt)

pub pattern_number : (b : ℕ) → b % 0x8000000000000000 ≤ 0x7FF0000000000000 → T (not (nan_bits binary64 b))
pattern_number b h = subst (λ (t : Bool). T (not t)) (sym (nan_bits_above binary64 b ∙ le-ltb _ _ h)) tt

pub pattern-nan : (b : ℕ) → 0x7FF0000000000000 < b % 0x8000000000000000 → of_bits binary64 b ≡ nan
pattern-nan b h = is-nan (of_bits binary64 b) (sym (nan_bits_is binary64 b) ∙ nan_bits_above binary64 b ∙ lt-ltb _ _ h)
