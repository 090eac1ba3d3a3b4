-- The checks of K and of the power series, in the order in which they are made: the one home of that order. Definitions only.
use Rattle.std.specs.Prelude.{List, [], ◌∷◌, ◌++◌, ℕ, ◌/◌}
use Rattle.refusal.specs.declared.refusal.Refusal.TheVariants.{Zero, Series}
use Rattle.call.specs.Limits.{is_zero}
use Rattle.call.specs.Checks.{Check, check, length_checks, finite_checks, limit_checks}
use Rattle.power_series.specs.Series.{beyond_series}
use Rattle.bessel.specs.declared.arguments.Arguments.{Arguments}

-- refusals 1, 2, 3, 11 and 12
unfoldable pub argument_checks : Arguments → ℕ → List Check
argument_checks a length =
    length_checks length ++ (finite_checks a.order a.z.re a.z.im ++ limit_checks a.order a.z.re a.z.im)

-- K's own, behind them: 4
unfoldable pub k_own_checks : Arguments → List Check
k_own_checks a =
    check (is_zero a.z.re a.z.im) Zero
    ∷ []

unfoldable pub k_checks : Arguments → ℕ → List Check
k_checks a length = argument_checks a length ++ k_own_checks a

-- the power series' own, behind them: 5
unfoldable pub series_own_checks : Arguments → ℕ → List Check
series_own_checks a length =
    check (beyond_series a.order (length / 2) a.modulus) Series
    ∷ []

unfoldable pub series_checks : Arguments → ℕ → List Check
series_checks a length = argument_checks a length ++ series_own_checks a length
