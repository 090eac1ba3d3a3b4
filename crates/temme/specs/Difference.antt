-- Temme's difference series for (1/Γ(1-ν) - 1/Γ(1+ν)) / 2ν: eight coefficients, each times a power of w = ν², summed up to the first term
-- below 2^-52 in magnitude. ZBKNU, 'SERIES FOR F0', labels 20 and 30; DLMF 5.7.1. `compute_small_z_power_series` of
-- src/amos/right_half_plane.rs, which tests the first term too. Definitions only.
use Rattle.std.specs.Prelude.{◌≡◌, true, false, cond, List, [], ◌∷◌, ◌+◌, ◌≤◌, get_or, Float}
use Rattle.std.specs.Float.{nan, binary64}
use Rattle.std.specs.Float.Ieee.{of_bits, neg, lt}
use Rattle.laws.specs.Operators.{◌⊕◌, ◌⊗◌}
use Rattle.laws.specs.Run.{run}
use Rattle.machine.specs.Constants.{tolerance}
use Rattle.machine.specs.Small.{nothing, one}
use Rattle.machine.specs.Magnitude.{magnitude_of}
use Rattle.temme.specs.declared.difference.Partial.{Partial}

-- ZBKNU's CC(1) to CC(8), the coefficients c(2), c(4) .. c(16) of 1/Γ in DLMF 5.7.1: 0.5772156649015329, -0.04200263503409524,
-- -0.04219773455554433, 0.0072189432466631, -0.00021524167411495098, -2.013485478078824e-5, 1.133027231981696e-6, 6.116095104481416e-9
unfoldable pub difference_coefficients : List Float
difference_coefficients =
    of_bits binary64 0x3FE2788CFC6FB619
    ∷ of_bits binary64 0xBFA5815E8FA27048
    ∷ of_bits binary64 0xBFA59AF103C34092
    ∷ of_bits binary64 0x3F7D919C527F60B2
    ∷ of_bits binary64 0xBF2C364FE6F1563D
    ∷ of_bits binary64 0xBEF51CE8AF47EABE
    ∷ of_bits binary64 0x3EB302509DBC0DE3
    ∷ of_bits binary64 0x3E3A44B7BA22D629
    ∷ []

-- ZBKNU's DNU2: ν², and 0 where |ν| is at most 2^-52
unfoldable pub fraction_square : Float → Float
fraction_square v = cond (lt tolerance (magnitude_of v)) (v ⊗ v) nothing

unfoldable pub start_series : Partial
start_series = record { power = one; sum = nothing; done = false; count = 0 }

-- one term more (AK, TM and S of the loop to label 20), which the count counts; the term below 2^-52 is still added
unfoldable pub with_term : Float → Partial → Partial
with_term w s =
    let term = get_or difference_coefficients s.count nan ⊗ s.power in
    record { power = s.power ⊗ w; sum = s.sum ⊕ term; done = lt (magnitude_of term) tolerance; count = s.count + 1 }

unfoldable pub series_of : Float → Partial
series_of w = run (λ i s. s.done) (λ i s. with_term w s) 8 0 start_series

-- G1 at label 30
unfoldable pub difference_of : Float → Float
difference_of w = neg (series_of w).sum

-- the series ended by its own test, with a coefficient left
pub record SeriesEnds (s : Partial) : Type 0 where
  pub few : s.count ≤ 7
  pub test : s.done ≡ true
