-- The ten rows of docs/SCOPE.md, Calls to try, that are proved, as one claim. Where a row asks an entry point, the record and all the cells are given. Assumes nothing.
use mathlib.Core.Path.{◌≡◌, ap}
use mathlib.Core.Bool.{Bool, true, false}
use mathlib.Core.List.{[], ◌∷◌}
use Prim.Native.Nat.{ℕ}
use lib.IntN.{pos, negsuc}
use lib.Ieee.{Float, nan, fin, binary64, of_bits, to_unsigned}
use Rattle.std.specs.Prelude.{Ok, Err}
use Rattle.refusal.specs.declared.refusal.Refusal.TheVariants.{Length, NotFinite, Sign, Series, NotPositive}
use Rattle.roots.specs.Sqrt.{sqrt_of}
use Rattle.roots.proofs.SqrtValues.{sqrt-of-four, sqrt-of-smallest}
use Rattle.rounding.proofs.RoundFacts.{quarter, half, three_halves}
use Rattle.complex.specs.Lost.{lost_of}
use Rattle.complex.proofs.LostFacts.{zero-not-lost, one-not-lost, small-lost, nan-re-not-lost, nan-im-not-lost}
use Rattle.gamma_ln.specs.LogGamma.{log_gamma_of}
use Rattle.gamma_ln.proofs.LogGammaFacts.{of_one, of_two, of_zero}
use Rattle.right_half_plane.specs.Ground.{nearest_order}
use Rattle.machine.specs.Small.{nothing, one}
use Rattle.call.specs.Answer.{answered_of}
use Rattle.call.specs.Limits.{length_inside, are_finite, order_inside}
use Rattle.bessel.specs.Arguments.{arguments_of}
use Rattle.bessel.specs.Outcome.{refused_outcome}
use Rattle.bessel.specs.I.{i_outcome}
use Rattle.bessel.specs.K.{k_outcome}
use Rattle.bessel.proofs.Rows.{at_zero, near-zero, beyond, k_empty, k-too-long, k-not-a-number, k-below-zero}

pub record Rows : Type 0 where
  -- I at z = 0, v = 1, n = 2: zeros, and none is counted
  pub i-at-zero : (scaled : Bool) → i_outcome scaled one nothing nothing 4 ≡ record { answer = answered_of (pos 0) 0 0 0; cells = nothing ∷ nothing ∷ nothing ∷ nothing ∷ [] }
  -- I at z = 2^-1040, v = 0, n = 3: 1, 0, 0, and two are counted
  pub i-near-zero : (scaled : Bool) → i_outcome scaled nothing (of_bits binary64 0x0000000400000000) nothing 6 ≡ record { answer = answered_of (pos 2) 0 0 0; cells = one ∷ nothing ∷ nothing ∷ nothing ∷ nothing ∷ nothing ∷ [] }
  -- K at an order that is not a number and z = 0: refusal 2
  pub k-order-not-a-number : (scaled : Bool) (length : ℕ) → length_inside length ≡ true → k_outcome scaled nan nothing nothing length ≡ refused_outcome NotFinite length
  -- K at re = -2^-1074, at any order from 0 to 1,000 and any finite im, whatever its size: refusal 11
  pub k-left-of-zero : (scaled : Bool) (v im : Float) (length : ℕ) → let a = arguments_of v (of_bits binary64 0x8000000000000001) im in length_inside length ≡ true → are_finite a.order a.z.re a.z.im ≡ true → order_inside a.order ≡ true → k_outcome scaled v (of_bits binary64 0x8000000000000001) im length ≡ refused_outcome Sign length
  -- K on an empty buffer, and on one of 1,026 cells: refusal 1
  pub k-on-nothing : (scaled : Bool) (v re im : Float) → k_outcome scaled v re im 0 ≡ refused_outcome Length 0
  pub k-on-too-much : (scaled : Bool) (v re im : Float) → k_outcome scaled v re im 1026 ≡ refused_outcome Length 1026
  -- I at z = 4, v = 0, n = 1: refusal 5
  pub i-beyond-series : (scaled : Bool) → i_outcome scaled nothing (of_bits binary64 0x4010000000000000) nothing 2 ≡ refused_outcome Series 2
  -- (0, 0) and (1, 0) are not lost, (2^-980, 2^-980) is, and a pair with a not-a-number part never is
  pub zeros-kept : lost_of (record { re = nothing; im = nothing }) ≡ false
  pub one_kept : lost_of (record { re = one; im = nothing }) ≡ false
  pub tiny-lost : lost_of (record { re = of_bits binary64 0x02B0000000000000; im = of_bits binary64 0x02B0000000000000 }) ≡ true
  pub nan-re-kept : (y : Float) → lost_of (record { re = nan; im = y }) ≡ false
  pub nan-im-kept : (x : Float) → lost_of (record { re = x; im = nan }) ≡ false
  -- r of 0.25, 0.5 and 1.5: 0, 1 and 2
  pub r-of-quarter : nearest_order (of_bits binary64 0x3FD0000000000000) ≡ 0
  pub r-of-half : nearest_order (of_bits binary64 0x3FE0000000000000) ≡ 1
  pub r-of-three-halves : nearest_order (of_bits binary64 0x3FF8000000000000) ≡ 2
  -- sqrt of 4 is 2, of 2^-1074 is 2^-537
  pub root-of-four : sqrt_of (fin false 1 (pos 2)) ≡ fin false 1 (pos 1)
  pub root-of-smallest : sqrt_of (fin false 1 (negsuc 1073)) ≡ fin false 1 (negsuc 536)
  -- log-gamma of 1 and 2 is 0, of 0 is refusal 10
  pub log-gamma-of-one : log_gamma_of one ≡ Ok nothing
  pub log-gamma-of-two : log_gamma_of (of_bits binary64 0x4000000000000000) ≡ Ok nothing
  pub log-gamma-of-zero : log_gamma_of nothing ≡ Err NotPositive

r-quarter : nearest_order (of_bits binary64 0x3FD0000000000000) ≡ 0
unfolding nearest_order of_bits to_unsigned
r-quarter = ap (to_unsigned 32) quarter

r-half : nearest_order (of_bits binary64 0x3FE0000000000000) ≡ 1
unfolding nearest_order of_bits to_unsigned
r-half = ap (to_unsigned 32) half

r-three-halves : nearest_order (of_bits binary64 0x3FF8000000000000) ≡ 2
unfolding nearest_order of_bits to_unsigned
r-three-halves = ap (to_unsigned 32) three_halves

pub rows : Rows
rows = record {
  i-at-zero = at_zero;
  i-near-zero = near-zero;
  k-order-not-a-number = k-not-a-number;
  k-left-of-zero = k-below-zero;
  k-on-nothing = k_empty;
  k-on-too-much = k-too-long;
  i-beyond-series = beyond;
  zeros-kept = zero-not-lost;
  one_kept = one-not-lost;
  tiny-lost = small-lost;
  nan-re-kept = nan-re-not-lost;
  nan-im-kept = nan-im-not-lost;
  r-of-quarter = r-quarter;
  r-of-half = r-half;
  r-of-three-halves = r-three-halves;
  root-of-four = sqrt-of-four;
  root-of-smallest = sqrt-of-smallest;
  log-gamma-of-one = of_one;
  log-gamma-of-two = of_two;
  log-gamma-of-zero = of_zero;
}
