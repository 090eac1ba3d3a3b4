-- Temme's difference series ends by its own test, and never for want of coefficients: for |ν| ≤ 0.1 the seventh term of the eight passes it, if none before has.
-- The largest ν² is computed, and products keep the order. Assumes nothing.
use mathlib.Core.Path.{◌≡◌, refl, sym, ap, ◌∙◌, subst}
use mathlib.Core.Bool.{Bool, true, false, cond}
use mathlib.Core.Logic.{◌⊎◌, inl, inr}
use Prim.Native.Nat.{ℕ, zero, suc, ◌+◌, ◌^◌, ◌≤◌, ◌<◌}
use native.Mathlib.Omega.{arith}
use lib.Dec.{T, lit<}
use lib.ListN.{get_or}
use lib.Ieee.{Float, nan, binary64, of_bits, neg, mul, lt, le}
use lib.Ieee.Positive.{num, den}
use Rattle.laws.specs.Iterate.{iterate}
use Rattle.laws.proofs.Relative.{nonnegative}
use Rattle.laws.proofs.Bound.{Up, Lo, up_of, up-test, lo-test, up-weaken, up-lo-lt, every, every-at}
use Rattle.laws.proofs.First.{first, passed}
use Rattle.laws.proofs.Sign.{mul-neg-neg}
use Rattle.machine.specs.Constants.{tolerance}
use Rattle.machine.specs.Magnitude.{magnitude_of}
use Rattle.temme.specs.declared.difference.Partial.{Partial}
use Rattle.temme.specs.Difference.{difference_coefficients, fraction_square, start_series, with_term, series_of, SeriesEnds}
use Rattle.machine.specs.Small.{one}
use Rattle.temme.proofs.Counted.{after-count, run-counted}
use Rattle.temme.proofs.TemmeBound.{mul-up-round}
use Rattle.temme.proofs.Magnitudes.{magnitude-bare, magnitude-up}

-- 0.1, and its square rounded
abbrev tenth : Float
tenth = of_bits binary64 0x3FB999999999999A

abbrev hundredth : Float
hundredth = of_bits binary64 0x3F847AE147AE147C

-- the power i as the series makes it, factor by factor from 1
unfoldable power_of : Float → ℕ → Float
power_of w i = iterate i (λ p. mul binary64 p w) one

-- the term i, and the test behind it
unfoldable term : Float → ℕ → Float
term w i = mul binary64 (get_or difference_coefficients i nan) (power_of w i)

unfoldable ends : Float → ℕ → Bool
ends w i = lt (magnitude_of (term w i)) tolerance

powers_test : ℕ → Bool
powers_test i = nonnegative (power_of hundredth i)

powers : T (every powers_test 7)
unfolding powers_test power_of iterate of_bits mul
powers = tt

hundredth-sign : T (nonnegative hundredth)
unfolding of_bits
hundredth-sign = tt

term-sign : T (nonnegative (term hundredth 6))
unfolding term difference_coefficients power_of iterate of_bits mul
term-sign = tt

coefficient-sign : T (nonnegative (get_or difference_coefficients 6 nan))
unfolding difference_coefficients of_bits
coefficient-sign = tt

-- the seventh term at the largest square is below 2^-59
seventh : Up (term hundredth 6) 1 (2 ^ 59)
unfolding term difference_coefficients power_of iterate of_bits mul
seventh = up-test (term hundredth 6) 1 (2 ^ 59) tt

tolerance-lo : Lo tolerance 1 (2 ^ 52)
unfolding tolerance of_bits
tolerance-lo = lo-test tolerance 1 (2 ^ 52) tt

module _ (w : Float) (bound : Up w (num hundredth) (den hundredth)) where
  power-up : (i : ℕ) → i < 7 → Up (power_of w i) (num (power_of hundredth i)) (den (power_of hundredth i))
  unfolding power_of iterate powers_test of_bits
  power-up zero h = up_of one tt
  power-up (suc i) h =
      mul-up-round binary64 (power_of w i) (power_of hundredth i) w hundredth (every-at powers_test 7 powers i (omega arith)) hundredth-sign (every-at powers_test 7 powers (suc i) h)
      (power-up i (omega arith)) bound

  term_up : Up (term w 6) 1 (2 ^ 59)
  unfolding term powers_test
  term_up =
      up-weaken 1 (2 ^ 59) (lit< tt) seventh.bound
      (mul-up-round binary64 (get_or difference_coefficients 6 nan) (get_or difference_coefficients 6 nan) (power_of w 6) (power_of hundredth 6) coefficient-sign (every-at powers_test 7 powers 6 (lit< tt)) term-sign
      (up_of (get_or difference_coefficients 6 nan) coefficient-sign) (power-up 6 (lit< tt)))

  meets : ends w 6 ≡ true
  unfolding ends
  meets =
      passed (lt (magnitude_of (term w 6)) tolerance)
      (subst (λ (z : Float). T (lt z tolerance)) (sym (magnitude-bare (term w 6) term_up.sign)) (up-lo-lt (term w 6) tolerance term_up tolerance-lo (lit< tt)))

-- ---- the sum after i terms
module _ (w : Float) where
  abbrev after : ℕ → Partial
  after i = iterate i (with_term w) start_series

  none : start_series.count ≡ 0
  unfolding start_series
  none = refl

  counts : (s : Partial) → (with_term w s).count ≡ s.count + 1
  unfolding with_term
  counts s = refl

  after-power : (i : ℕ) → (after i).power ≡ power_of w i
  unfolding iterate with_term start_series power_of
  after-power zero = refl
  after-power (suc i) = ap (λ (p : Float). mul binary64 p w) (after-power i)

  after-done : (i : ℕ) → (after (suc i)).done ≡ ends w i
  unfolding iterate with_term ends term
  after-done i = rw (after-count (λ s. s.done) (with_term w) (λ s. s.count) start_series none counts i, after-power i)

  begun : (after 0).done ≡ false
  unfolding iterate start_series
  begun = refl

  pub series-ends : Up w (num hundredth) (den hundredth) → SeriesEnds (series_of w)
  unfolding series_of
  series-ends bound =
      let e = first true (ends w) 6 (meets w bound) in
      let h : suc e.0 ≤ 8 = omega arith in
      let r = run-counted (λ s. s.done) (with_term w) (λ s. s.count) start_series none counts 8 (suc e.0) h (record { here = after-done e.0 ∙ e.2.here; before = before e.0 e.2.before }) in
      record { few = subst (λ (k : ℕ). k ≤ 7) (sym r.1) (omega arith); test = r.0 }
    where
      before : (k : ℕ) → ((i : ℕ) → i < k → ends w i ≡ false) → (i : ℕ) → i < suc k → (after i).done ≡ false
      before k b zero h = begun
      before k b (suc i) h = after-done i ∙ b i (omega arith)

-- ---- a fraction up to 0.1 of either sign
square-up : (v : Float) → T (le (magnitude_of v) tenth) → Up (mul binary64 v v) (num hundredth) (den hundredth)
unfolding of_bits mul
square-up v h = either (magnitude-up v tenth tt h)
  where
    bare : (u : Float) → Up u (num tenth) (den tenth) → Up (mul binary64 u u) (num hundredth) (den hundredth)
    bare u b = mul-up-round binary64 u tenth u tenth tt tt tt b b

    either : (u : Float) × ((v ≡ u) ⊎ (v ≡ neg u)) × Up u (num tenth) (den tenth) → Up (mul binary64 v v) (num hundredth) (den hundredth)
    either (u, inl e, b) = subst (λ (x : Float). Up (mul binary64 x x) (num hundredth) (den hundredth)) (sym e) (bare u b)
    either (u, inr e, b) =
        subst (λ (x : Float). Up (mul binary64 x x) (num hundredth) (den hundredth)) (sym e) (subst (λ (x : Float). Up x (num hundredth) (den hundredth)) (sym (mul-neg-neg binary64 u u)) (bare u b))

fraction-up : (v : Float) → T (le (magnitude_of v) tenth) → Up (fraction_square v) (num hundredth) (den hundredth)
unfolding fraction_square of_bits
fraction-up v h = go (lt tolerance (magnitude_of v))
  where
    go : (b : Bool) → Up (cond b (mul binary64 v v) (of_bits binary64 0)) (num hundredth) (den hundredth)
    go true = square-up v h
    go false = up-test (of_bits binary64 0) (num hundredth) (den hundredth) tt

pub difference-ends : (v : Float) → T (le (magnitude_of v) (of_bits binary64 0x3FB999999999999A)) → SeriesEnds (series_of (fraction_square v))
difference-ends v h = series-ends (fraction_square v) (fraction-up v h)
