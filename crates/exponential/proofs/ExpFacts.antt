-- For every x from -705 to 705 exp is finite and above 0. Its value at either zero, by computation. Assumes nothing.
use mathlib.Core.Path.{◌≡◌, refl, sym, subst, ◌∙◌}
use mathlib.Core.Bool.{false, ◌&&◌}
use Prim.Native.Nat.{◌/◌, ◌%◌, ◌<◌}
use native.Mathlib.Omega.{arith}
use lib.Dec.{T, lit<}
use lib.Ieee.{Float, binary64, of_bits, to_bits, neg, add, sub, mul, lt, le}
use lib.Ieee.Bits.{is_true}
use lib.Ieee.Fits.{and_i}
use lib.Ieee.Scale.{finite}
use lib.Ieee.Exact.{HasValue}
use lib.Ieee.Positive.{positive, num, den, den_pos, own_value, between}
use Rattle.laws.proofs.Interval.{Between}
use Rattle.laws.proofs.Relative.{positive-num}
use Rattle.laws.proofs.Value.{lt-of-values}
use Rattle.laws.proofs.Bits.{bits_positive}
use Rattle.exponential_tables.specs.Tables.{coarse_high, coarse_low, fine_high, fine_low, coarse_power, fine_power}
use Rattle.exponential.specs.Exp.{limit, lower_limit, shifted, steps, rest, growth, product, exp_pair, total, exp_of}
use Rattle.exponential.proofs.Reduction.{steps-range}
use Rattle.exponential.proofs.Entries.{coarse-high-in, coarse-low-in, fine-high-in, fine-low-in}
use Rattle.exponential.proofs.Ranges.{Parts, Powers, product-parts, total-between}
use Rattle.exponential.proofs.Rest.{rest_in}

zero-value : HasValue (of_bits binary64 0) false 0 1
unfolding of_bits
zero-value = (refl, refl)

module _ (x : Float) (l : T (le lower_limit x)) (h : T (le x limit)) where
  coarse-index : steps x / 256 < 177
  coarse-index = let r = steps-range x l h in omega arith

  fine-index : steps x % 256 < 256
  fine-index = omega arith

  powers : Powers (coarse_power (steps x / 256)) (fine_power (steps x % 256))
  unfolding coarse_power fine_power
  powers = record {
    coarse-high = coarse-high-in (steps x / 256) coarse-index;
    coarse-low = coarse-low-in (steps x / 256) coarse-index;
    fine-high = fine-high-in (steps x % 256) fine-index;
    fine-low = fine-low-in (steps x % 256) fine-index;
  }

  pub pair_parts : Parts (exp_pair x)
  unfolding exp_pair
  pair_parts = product-parts (coarse_power (steps x / 256)) (fine_power (steps x % 256)) (rest x) powers (rest_in x l h)

  near : exp_of x ≡ total (exp_pair x)
  unfolding exp_of
  near = simp (is_true (le lower_limit x && le x limit) (and_i (le lower_limit x) (le x limit) l h))

  pub exp-between : Between (of_bits binary64 0x0016000000000000) (of_bits binary64 0x7FD0000000000000) (exp_of x)
  exp-between = subst (Between (of_bits binary64 0x0016000000000000) (of_bits binary64 0x7FD0000000000000)) (sym near) (total-between (exp_pair x) pair_parts)

  pub exp-finite : T (finite (exp_of x))
  exp-finite = exp-between.0

  pub exp-positive : T (positive (exp_of x))
  exp-positive =
      between (of_bits binary64 0x0016000000000000) (exp_of x) (of_bits binary64 0x7FD0000000000000) (bits_positive 0x0016000000000000 (lit< tt) (lit< tt)) (bits_positive 0x7FD0000000000000 (lit< tt) (lit< tt)) exp-between.1 exp-between.2

  pub exp-above-zero : T (lt (of_bits binary64 0) (exp_of x))
  exp-above-zero =
      let y = exp_of x in
      lt-of-values (of_bits binary64 0) y 0 1 (num y) (den y) (lit< tt) (den_pos y) zero-value (own_value y exp-positive) (let p = positive-num y exp-positive in omega arith)

-- ---- at +0 and -0
pair-at-zero : total (exp_pair (of_bits binary64 0)) ≡ of_bits binary64 0x3FF0000000000000
unfolding total exp_pair product growth steps rest shifted coarse_power fine_power coarse_high coarse_low fine_high fine_low of_bits to_bits add sub mul
pair-at-zero = refl

pub exp-at-zero : exp_of (of_bits binary64 0) ≡ of_bits binary64 0x3FF0000000000000
unfolding lower_limit limit of_bits neg le lt
exp-at-zero = near (of_bits binary64 0) tt tt ∙ pair-at-zero

pair-at-minus-zero : total (exp_pair (neg (of_bits binary64 0))) ≡ of_bits binary64 0x3FF0000000000000
unfolding total exp_pair product growth steps rest shifted coarse_power fine_power coarse_high coarse_low fine_high fine_low of_bits to_bits add sub mul neg
pair-at-minus-zero = refl

pub exp-at-minus-zero : exp_of (neg (of_bits binary64 0)) ≡ of_bits binary64 0x3FF0000000000000
unfolding lower_limit limit of_bits neg le lt
exp-at-minus-zero = near (neg (of_bits binary64 0)) tt tt ∙ pair-at-minus-zero
