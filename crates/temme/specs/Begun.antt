-- What Temme's seeds begin, and where: their sum, the difference series and one log-gamma. The letters are those of Seeds.antt. Definitions
-- only.
use Rattle.std.specs.Prelude.{◌≡◌, Bool, true, T, Float}
use Rattle.std.specs.Float.{binary64}
use Rattle.std.specs.Float.Ieee.{of_bits, neg, le}
use Rattle.std.specs.Float.Ieee.Positive.{positive}
use Rattle.laws.specs.Operators.{◌⊕◌}
use Rattle.machine.specs.Constants.{tolerance}
use Rattle.machine.specs.Small.{one}
use Rattle.machine.specs.Magnitude.{magnitude_of}
use Rattle.exponential.specs.Exp.{exp_of}
use Rattle.complex.specs.declared.number.Complex.{Complex}
use Rattle.complex.specs.Arithmetic.{times_real}
use Rattle.complex.specs.Functions.{complex_exp_of, complex_cosh_of, complex_sinh_of}
use Rattle.gamma_ln.specs.Series as stirling
use Rattle.gamma_ln.specs.GammaLn.{series_argument_of, gamma_ln_of}
use Rattle.temme.specs.declared.sum.Terms.{Terms}
use Rattle.temme.specs.Difference.{series_of, difference_of, SeriesEnds}
use Rattle.temme.specs.Gammas.{gammas_of}
use Rattle.temme.specs.Sum.{EndsByTest}
use Rattle.temme.specs.Seeds.{shinc_of, start_of, summed_of, seeds_of}

-- the sum that the seeds are read from
unfoldable pub total_of : Complex → Float → Complex → Float → Float → Terms
total_of z m l v w =
    let mu = times_real l v in
    summed_of z m v w (start_of (gammas_of v w) (complex_exp_of mu) (complex_cosh_of mu) (shinc_of l (complex_sinh_of mu) v))

-- it is begun unless |z| is below 2^-52
unfoldable pub is_begun : Float → Bool
is_begun m = le tolerance m

-- the difference series is taken for |ν| to 0.1
unfoldable pub takes_difference : Float → Bool
takes_difference v = le (magnitude_of v) (of_bits binary64 0x3FB999999999999A)

-- the one argument of which log-gamma is asked for
unfoldable pub gamma_asked : Float → Float
gamma_asked v = one ⊕ v

-- the seeds, and the reciprocal gammas behind them, are read from these
pub record MadeOf (z : Complex) (m : Float) (l : Complex) (v w : Float) : Type 0 where
  pub first : (seeds_of z m l v w).first ≡ (total_of z m l v w).sum_k_nu
  pub second : (seeds_of z m l v w).second ≡ (total_of z m l v w).sum_k_nu_plus_1
  pub terms : (seeds_of z m l v w).terms ≡ (total_of z m l v w).terms
  pub plus : (gammas_of v w).plus ≡ exp_of (neg (gamma_ln_of (gamma_asked v)).value)
  pub difference : takes_difference v ≡ true → (gammas_of v w).difference ≡ difference_of w

-- each of them that is begun ends by its own test: the sum by the term 18, the difference series with a coefficient left, and log-gamma's
-- series, of an argument above zero
pub record EndByTests (z : Complex) (m : Float) (l : Complex) (v w : Float) : Type 0 where
  pub sum : is_begun m ≡ true → EndsByTest (total_of z m l v w)
  pub difference : takes_difference v ≡ true → SeriesEnds (series_of w)
  pub above : T (positive (gamma_asked v))
  pub log-gamma : stirling.EndsByTest (series_argument_of (gamma_asked v))
