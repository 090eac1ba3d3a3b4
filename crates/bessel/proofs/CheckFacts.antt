-- What a call has that passed its checks. Assumes nothing.
use mathlib.Core.Path.{◌≡◌, refl, sym}
use mathlib.Core.Bool.{Bool, true, false, not, ◌&&◌}
use mathlib.Core.List.{◌++◌}
use Prim.Native.Nat.{ℕ, ◌/◌}
use Rattle.call.specs.Checks.{Admitted, verdict_of, none_applies, length_checks, finite_checks, limit_checks}
use Rattle.call.specs.Limits.{length_inside, are_finite}
use Rattle.call.proofs.FirstFacts.{none_left, none_right, admitted-none}
use Rattle.call.proofs.LimitFacts.{Lent, lent, Inside, length-passed, finite-passed, limits-passed}
use Rattle.power_series.specs.Series.{beyond_series}
use Rattle.bessel.specs.declared.arguments.Arguments.{Arguments}
use Rattle.bessel.specs.Checks.{argument_checks, k_own_checks, k_checks, series_own_checks, series_checks}

pub record Passed (a : Arguments) (length : ℕ) : Type 0 where
  pub lent : length_inside length ≡ true
  pub fine : are_finite a.order a.z.re a.z.im ≡ true
  pub inside : Inside a.order a.z.re a.z.im

module _ (a : Arguments) (length : ℕ) where
  arguments-passed : none_applies (argument_checks a length) ≡ true → Passed a length
  unfolding argument_checks
  arguments-passed p =
      let l = length_checks length in
      let f = finite_checks a.order a.z.re a.z.im in
      let m = limit_checks a.order a.z.re a.z.im in
      let q = none_right l (f ++ m) p in
      record {
        lent = length-passed length (none_left l (f ++ m) p);
        fine = finite-passed a.order a.z.re a.z.im (none_left f m q);
        inside = limits-passed a.order a.z.re a.z.im (none_right f m q);
      }

  -- of the arguments alone
  pub arguments-lent : verdict_of (argument_checks a length) ≡ Admitted → Lent length
  arguments-lent h = lent length (arguments-passed (admitted-none (argument_checks a length) h)).lent

  pub k-passed : none_applies (k_checks a length) ≡ true → Passed a length
  unfolding k_checks
  k-passed p = arguments-passed (none_left (argument_checks a length) (k_own_checks a) p)

  last-passed : (b : Bool) → (not b && true) ≡ true → b ≡ false
  last-passed true e = sym e
  last-passed false e = refl

  pub series-passed : none_applies (series_checks a length) ≡ true → Passed a length × (beyond_series a.order (length / 2) a.modulus ≡ false)
  unfolding series_checks series_own_checks none_applies
  series-passed p =
      let own = series_own_checks a length in
      (arguments-passed (none_left (argument_checks a length) own p), last-passed (beyond_series a.order (length / 2) a.modulus) (none_right (argument_checks a length) own p))
