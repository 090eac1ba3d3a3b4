-- Temme's sum (1975) for K(ν) and (z/2) K(ν+1), from K(ν) = π/2 (I(-ν) - I(ν)) / sin νπ, DLMF 10.27.4, and I's series 10.25.2, with what
-- cancels taken out: ZBKNU, labels 60 and 90; `compute_small_z_power_series` of src/amos/right_half_plane.rs. Definitions only.
use Rattle.std.specs.Prelude.{◌≡◌, Bool, true, ◌+◌, ◌≤◌, pos, Float}
use Rattle.std.specs.Float.{binary64}
use Rattle.std.specs.Float.Ieee.{of_int, le}
use Rattle.laws.specs.Operators.{◌⊕◌, ◌⊖◌, ◌⊗◌, ◌⊘◌}
use Rattle.laws.specs.Run.{run}
use Rattle.machine.specs.Constants.{tolerance}
use Rattle.machine.specs.Small.{one}
use Rattle.complex.specs.Arithmetic.{plus_of, minus_of, product_of, times_real}
use Rattle.temme.specs.declared.sum.Fixed.{Fixed}
use Rattle.temme.specs.declared.sum.Terms.{Terms}

-- A1: the magnitude of the term k, from that of the term before
unfoldable pub next_magnitude : Float → Float → Float → Float
next_magnitude y k t = t ⊗ (y ⊗ (one ⊘ k))

-- The term k = terms + 1, added to both sums, with w = ν² and z²/4 fixed (label 90; F, P, Q, CK, S1 and S2 are ZBKNU's):
-- F = (k F + P + Q) / (k² - w), P = P / (k - ν), Q = Q / (k + ν), CK = CK (z²/4) / k, S1 + CK F, S2 + CK (P - k F)
unfoldable pub next_terms : Fixed → Terms → Terms
next_terms g s =
    let k = of_int binary64 (pos (s.terms + 1)) in
    let sum = plus_of (plus_of (times_real s.temme_coeff k) s.neg_order_term) s.pos_order_term in
    let coeff = times_real sum (one ⊘ (k ⊗ k ⊖ g.fraction_square)) in
    let neg = times_real s.neg_order_term (one ⊘ (k ⊖ g.fraction)) in
    let factor = product_of s.taylor_factor (times_real g.z_sqr_over_4 (one ⊘ k)) in
    record {
      temme_coeff = coeff;
      neg_order_term = neg;
      pos_order_term = times_real s.pos_order_term (one ⊘ (k ⊕ g.fraction));
      taylor_factor = factor;
      term_magnitude = next_magnitude g.abs_z_sqr_over_4 k s.term_magnitude;
      sum_k_nu = plus_of s.sum_k_nu (product_of factor coeff);
      sum_k_nu_plus_1 = plus_of s.sum_k_nu_plus_1 (product_of factor (minus_of neg (times_real coeff k)));
      terms = s.terms + 1;
    }

-- the sum's own test, IF (A1.GT.TOL) GO TO 90: the product of the (|z|²/4) / k is at most 2^-52
unfoldable pub is_summed : Terms → Bool
is_summed s = le s.term_magnitude tolerance

-- 999 terms at most, as in the Rust text; ZBKNU has no bound
unfoldable pub sum_of : Fixed → Terms → Terms
sum_of g start = run (λ i s. is_summed s) (λ i s. next_terms g s) 999 0 start

-- a sum that was begun has met its own test, by the term 18
pub record EndsByTest (s : Terms) : Type 0 where
  pub some : 1 ≤ s.terms
  pub few : s.terms ≤ 18
  pub test : is_summed s ≡ true
