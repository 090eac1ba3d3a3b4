-- What is said of the number of a call, wherever it is met: in the library's record, in C's, in an answer line. Assumes nothing.
use Rattle.call.specs.Answer.{number_in}
use mathlib.Core.Bool.{Bool}
use mathlib.Core.List.{[], ◌∷◌}
use Prim.Native.Nat.{ℕ}
use lib.Dec.{T}
use lib.Ieee.{Float}
use Rattle.call.proofs.FirstFacts.{Given, is_one_of}
use Rattle.call.proofs.WhichLimit.{HitsLimit}
use Rattle.bessel.specs.Arguments.{arguments_of}
use Rattle.bessel.specs.Series.{all_series_checks, series_outcome}
use Rattle.bessel.specs.K.{all_k_checks, k_outcome}
use Rattle.bessel.proofs.SeriesOutcome as i
use Rattle.bessel.proofs.KernelOutcome as k

-- ---- of K: each number exactly when its check is the first that applies, and 0 exactly when none does; 3, 11 and 12 exactly by the limit that was hit; no number but these
pub record NumberOfK (scaled : Bool) (v re im : Float) (length : ℕ) (m : ℕ) : Type 0 where
  pub given : Given (all_k_checks scaled (arguments_of v re im) length) m
  pub limits : let a = arguments_of v re im in HitsLimit length a.order a.z.re a.z.im m
  pub no_other : T (is_one_of m (0 ∷ 1 ∷ 2 ∷ 3 ∷ 11 ∷ 12 ∷ 4 ∷ 6 ∷ 7 ∷ 8 ∷ []))

pub number-of-k : (scaled : Bool) (v re im : Float) (length : ℕ) → NumberOfK scaled v re im length (number_in (k_outcome scaled v re im length).answer)
number-of-k scaled v re im length = record { given = k.numbers scaled v re im length; limits = k.limits scaled v re im length; no_other = k.admitted scaled v re im length }

-- ---- of the power series, for either sign of z²/4; of I where it is not turned
pub record NumberOfSeries (scaled turned : Bool) (v re im : Float) (length : ℕ) (m : ℕ) : Type 0 where
  pub given : Given (all_series_checks scaled turned (arguments_of v re im) length) m
  pub limits : let a = arguments_of v re im in HitsLimit length a.order a.z.re a.z.im m
  pub no_other : T (is_one_of m (0 ∷ 1 ∷ 2 ∷ 3 ∷ 11 ∷ 12 ∷ 5 ∷ 8 ∷ []))

pub number-of-series : (scaled turned : Bool) (v re im : Float) (length : ℕ) → NumberOfSeries scaled turned v re im length (number_in (series_outcome scaled turned v re im length).answer)
number-of-series scaled turned v re im length =
    record { given = i.numbers scaled turned v re im length; limits = i.limits scaled turned v re im length; no_other = i.admitted scaled turned v re im length }
