-- Arguments of a modulus m below the underflow limit: ZSERI from 150 to 180, every cell written as docs/SCOPE.md asks (`i_power_series` of
-- src/amos/power_series.rs writes the first alone). Definitions only.
use Rattle.std.specs.Prelude.{false, cond, ◌∷◌, ℕ, ◌-◌, ◌*◌, replicate, Float}
use Rattle.std.specs.Float.Ieee.{eq}
use Rattle.machine.specs.Small.{nothing, one}
use Rattle.power_series.specs.Visit.{Visited}

-- entry 0 is 1 for v = 0, every other +0
unfoldable pub lowest_of : Float → Float
lowest_of v = cond (eq v nothing) one nothing

-- none is counted at z = 0; elsewhere all n are, or all but the first where v is 0
unfoldable pub zeros_of : Float → Float → ℕ → ℕ
zeros_of v m n = cond (eq m nothing) 0 (cond (eq v nothing) (n - 1) n)

unfoldable pub tiny_of : Float → Float → ℕ → Visited
tiny_of v m n = record {
  visit = record { zeros = zeros_of v m n; stopped = false; place = 0; longest_sum = 0; rungs = 0 };
  cells = lowest_of v ∷ replicate (n * 2 - 1) nothing;
}
