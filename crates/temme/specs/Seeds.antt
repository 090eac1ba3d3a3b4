-- Temme's seeds for |z| to 2: l is ln(2/z), m the modulus of z, v the order's fraction and w its square. ZBKNU, 'SERIES FOR CABS(Z).LE.R1',
-- to label 100; `compute_small_z_power_series` of src/amos/right_half_plane.rs. Definitions only.
use Rattle.std.specs.Prelude.{cond, Float}
use Rattle.std.specs.Float.Ieee.{le, eq}
use Rattle.laws.specs.Operators.{◌⊗◌}
use Rattle.machine.specs.Constants.{tolerance}
use Rattle.machine.specs.Small.{nothing, quarter, half, one}
use Rattle.complex.specs.declared.number.Complex.{Complex}
use Rattle.complex.specs.Arithmetic.{plus_of, times_real, over_real, real_over}
use Rattle.complex.specs.Functions.{complex_exp_of, complex_cosh_of, complex_sinh_of}
use Rattle.complex.specs.Power.{power_of}
use Rattle.temme.specs.declared.gammas.Gammas.{Gammas}
use Rattle.temme.specs.declared.sum.Fixed.{Fixed}
use Rattle.temme.specs.declared.sum.Terms.{Terms}
use Rattle.temme.specs.declared.seeds.Temme.{Temme}
use Rattle.temme.specs.Gammas.{gammas_of}
use Rattle.temme.specs.Sum.{sum_of}

-- SMU, label 10: sinh μ over the fraction, and its limit ln(2/z) at the fraction 0
unfoldable pub shinc_of : Complex → Complex → Float → Complex
shinc_of l sinh v = cond (eq v nothing) l (over_real sinh v)

-- T1 behind label 80: |z|²/4, from left to right
unfoldable pub quarter_square : Float → Float
quarter_square m = quarter ⊗ m ⊗ m

-- what every turn takes; CZ behind label 80 is z²/4
unfoldable pub fixed_of : Complex → Float → Float → Float → Fixed
fixed_of z m v w =
    record {
      z_sqr_over_4 = times_real (power_of z 2) quarter;
      abs_z_sqr_over_4 = quarter_square m;
      fraction = v;
      fraction_square = w;
    }

-- the sums before their first term, from the three that a term is made of: S1 = F, S2 = P, CK = 1, A1 = 1
abbrev pub begun_of : Complex → Complex → Complex → Terms
begun_of coeff neg pos =
    record {
      temme_coeff = coeff;
      neg_order_term = neg;
      pos_order_term = pos;
      taylor_factor = record { re = one; im = nothing };
      term_magnitude = one;
      sum_k_nu = coeff;
      sum_k_nu_plus_1 = neg;
      terms = 0;
    }

-- F, P and Q at label 50, from the reciprocal gammas and from e^μ, cosh μ and sinh μ over the fraction
unfoldable pub start_of : Gammas → Complex → Complex → Complex → Terms
start_of g exp cosh shinc =
    let coeff = times_real (plus_of (times_real cosh g.difference) (times_real shinc g.mean)) g.one_over_sinc in
    begun_of coeff (over_real (times_real exp half) g.plus) (over_real (real_over half exp) g.minus)

-- nothing is added below |z| = 2^-52: IF (CAZ.LT.TOL), labels 70 and 100
unfoldable pub summed_of : Complex → Float → Float → Float → Terms → Terms
summed_of z m v w start = cond (le tolerance m) (sum_of (fixed_of z m v w) start) start

-- μ = ν ln(2/z), FMU
unfoldable pub seeds_of : Complex → Float → Complex → Float → Float → Temme
seeds_of z m l v w =
    let mu = times_real l v in
    let shinc = shinc_of l (complex_sinh_of mu) v in
    let s = summed_of z m v w (start_of (gammas_of v w) (complex_exp_of mu) (complex_cosh_of mu) shinc) in
    record { first = s.sum_k_nu; second = s.sum_k_nu_plus_1; shinc = shinc; terms = s.terms }
