-- What is counted: for every argument above zero the series ends by its own test, so that at most 14 terms are summed. Assumes nothing.
use mathlib.Core.Path.{◌≡◌, refl, ap, ◌∙◌}
use mathlib.Core.Bool.{Bool, true, false, cond}
use Prim.Native.Nat.{ℕ, zero, suc, ◌+◌, ◌≤◌}
use native.Mathlib.Numerals.{add-one}
use lib.Dec.{T, eqb, lit≤}
use lib.Ieee.{Float, binary64, to_unsigned, add, sub, lt}
use lib.Ieee.Positive.{positive}
use Rattle.laws.specs.Iterate.{iterate}
use Rattle.machine.specs.Constants.{gamma_ln_minimum}
use Rattle.logarithm.specs.Ln.{ln_of}
use Rattle.gamma_ln.specs.declared.gamma_ln.Computed.{Computed}
use Rattle.gamma_ln.specs.Series.{series_of, EndsByTest}
use Rattle.gamma_ln.specs.Factors.{with_factor, factors_of}
use Rattle.gamma_ln.specs.GammaLn.{is_tabulated, stirling_of, shift_of, shifted_of, series_argument_of, gamma_ln_of}
use Rattle.gamma_ln.proofs.LogGammaFacts.{positive-not-le}
use Rattle.gamma_ln.proofs.LowerEnd.{lower-end}
use Rattle.gamma_ln.proofs.SeriesEnds.{ends-by-test}

-- ---- the series that log-gamma sums never ends for want of coefficients
pub series-ends : (x : Float) → T (positive x) → EndsByTest (series_argument_of x)
series-ends x P = ends-by-test (series_argument_of x) (lower-end x P)

-- ---- the count of factors is raised once a factor, so it is the number wanted
pub factors-counted : (z : Float) (n : ℕ) → (factors_of z n).count ≡ n
unfolding factors_of iterate with_factor
factors-counted z zero = refl
factors-counted z (suc n) = ap (λ (k : ℕ). k + 1) (factors-counted z n) ∙ add-one n

-- ---- the terms in the result are those of the series at its argument, and none for a number from the table
either : (b : Bool) (u v : Computed) → v.terms ≡ u.terms → (cond b u v).terms ≡ u.terms
either true u v e = refl
either false u v e = e

summed-terms : (x : Float) (b : Bool) → (cond b (shifted_of x) (stirling_of x)).terms ≡ (series_of (cond b (add binary64 x (shift_of x)) x)).count
unfolding shifted_of stirling_of
summed-terms x true =
    either (eqb (to_unsigned 32 (shift_of x)) 0) (stirling_of (add binary64 x (shift_of x)))
    (record {
      value = sub binary64 (stirling_of (add binary64 x (shift_of x))).value (ln_of (factors_of x (to_unsigned 32 (shift_of x))).product);
      factors = (factors_of x (to_unsigned 32 (shift_of x))).count;
      terms = (stirling_of (add binary64 x (shift_of x))).terms;
    }) refl
summed-terms x false = refl

pub terms-summed : (x : Float) → T (positive x) → is_tabulated x ≡ false → (gamma_ln_of x).terms ≡ (series_of (series_argument_of x)).count
unfolding gamma_ln_of series_argument_of
terms-summed x P t = rw (positive-not-le x P, t) (summed-terms x (lt x gamma_ln_minimum))

pub terms-tabulated : (x : Float) → T (positive x) → is_tabulated x ≡ true → (gamma_ln_of x).terms ≡ 0
unfolding gamma_ln_of
terms-tabulated x P t = rw (positive-not-le x P, t) refl

pub terms-at-most : (x : Float) → T (positive x) → (gamma_ln_of x).terms ≤ 14
terms-at-most x P = go (is_tabulated x) refl
  where
    go : (b : Bool) → is_tabulated x ≡ b → (gamma_ln_of x).terms ≤ 14
    go true t = rw (terms-tabulated x P t) (lit≤ tt)
    go false t = rw (terms-summed x P t) (series-ends x P).few
