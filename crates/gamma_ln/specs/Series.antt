-- Stirling's series at z, the sum over k of B(2k) / (2k (2k - 1) z^(2k - 1)) of DLMF 5.11.1: DGAMLN from 20 to 40 (`gamma_ln` of
-- src/amos/gamma_ln.rs), to the first term below 2^-52 of the first. Definitions only.
use Rattle.std.specs.Prelude.{ℕ, ◌+◌, ◌≤◌, Bool, cond, ◌&&◌, T, get_or, Float}
use Rattle.std.specs.Float.{nan}
use Rattle.std.specs.Float.Ieee.{neg, lt, le}
use Rattle.laws.specs.Operators.{◌⊕◌, ◌⊗◌, ◌⊘◌}
use Rattle.laws.specs.Run.{run}
use Rattle.machine.specs.Constants.{tolerance}
use Rattle.machine.specs.Small.{one}
use Rattle.gamma_ln.specs.Coefficients.{coefficients}
use Rattle.gamma_ln.specs.declared.series.Terms.{Terms}

-- |t| < b
unfoldable pub is_below : Float → Float → Bool
is_below t b = lt t b && lt (neg t) b

-- the power after that of s (ZP), which is the last one times 1 / z² (ZSQ), and its term (TRM), with the coefficient i
unfoldable pub next_power : Float → Terms → Float
next_power square s = s.power ⊗ square

unfoldable pub next_term : Float → ℕ → Terms → Float
next_term square i s = get_or coefficients i nan ⊗ next_power square s

-- the sum with one more term (S), which the count counts
unfoldable pub with_next : Float → ℕ → Terms → Terms
with_next square i s = record { power = next_power square s; sum = s.sum ⊕ next_term square i s; count = s.count + 1 }

-- whether the next term is below the bound (TST), so that the sum is done
unfoldable pub is_done : Float → Float → ℕ → Terms → Bool
is_done square bound i s = is_below (next_term square i s) bound

-- a sum of one term, and what the 21 further coefficients add to it (loop 30)
unfoldable pub first_of : Float → Float → Terms
first_of power term = record { power = power; sum = term; count = 1 }

unfoldable pub further_of : Float → Float → Float → Float → Terms
further_of power term square bound = run (is_done square bound) (with_next square) 21 1 (first_of power term)

-- 1 / z, its square, the first term (T1), and 2^-52 of that
unfoldable pub inverse_of : Float → Float
inverse_of z = one ⊘ z

unfoldable pub square_of : Float → Float
square_of z = inverse_of z ⊗ inverse_of z

unfoldable pub first_term_of : Float → Float
first_term_of z = get_or coefficients 0 nan ⊗ inverse_of z

unfoldable pub bound_of : Float → Float
bound_of z = first_term_of z ⊗ tolerance

-- 1 / z below 2^-52 (WDTOL) leaves the first term alone
unfoldable pub series_of : Float → Terms
series_of z =
    cond (le tolerance (inverse_of z)) (further_of (inverse_of z) (first_term_of z) (square_of z) (bound_of z))
    (first_of (inverse_of z) (first_term_of z))

-- the sum at z ended by its own test, with coefficients left: at most 14 of the 22 are in it, and unless 1 / z is below 2^-52 the next term
-- is below the bound
pub record EndsByTest (z : Float) : Type 0 where
  pub few : (series_of z).count ≤ 14
  pub test : T (le tolerance (inverse_of z)) → T (is_done (square_of z) (bound_of z) (series_of z).count (series_of z))
