-- What a call of I gives. Definitions only.
use Rattle.std.specs.Prelude.{Bool, false, ℕ, Float}
use Rattle.bessel.specs.Outcome.{Outcome}
use Rattle.bessel.specs.Series.{series_outcome}

-- the power series (ZBINU, ZSERI; DLMF 10.25.2), its sign as it is
unfoldable pub i_outcome : Bool → Float → Float → Float → ℕ → Outcome
i_outcome scaled v re im length = series_outcome scaled false v re im length
