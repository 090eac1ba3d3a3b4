-- The series ends by its own test: from 6.5 on the term with coefficient 14 is below 2^-52 of the first, wherever 1 / z is 2^-52 or above.
-- With p = 1 / z at most 0.155 its square is below 5 / 208, so that a power is at most (5 / 208)^j of p, and the bound at least 0.082 *
-- 2^-52 of p. Assumes nothing.
use mathlib.Core.Path.{◌≡◌, refl, sym, ap, ◌∙◌, subst}
use mathlib.Core.Logic.{◌⊎◌, inl, inr}
use mathlib.Core.Bool.{Bool, true, false, cond, true≢false}
use Prim.Native.Nat.{ℕ, zero, suc, ◌+◌, ◌*◌, ◌^◌, ◌≤◌, ◌<◌}
use native.Mathlib.Nat.{eq-or-lt_of_le}
use native.Mathlib.Numerals.{add-one}
use native.Mathlib.Omega.{arith}
use lib.Dec.{T, lt→ltb, ltb→lt, lit<, lit≤}
use lib.ListN.{get_or}
use lib.Ieee.{Float, nan, inf, fin, binary64, up, down, of_bits, neg, mul, le, lt}
use lib.Ieee.Fits.{and_i}
use lib.Ieee.Positive.{num, den}
use Rattle.laws.specs.Run.{run}
use Rattle.laws.proofs.First.{passed}
use Rattle.laws.proofs.Run.{Ends, run_ends}
use Rattle.laws.proofs.Order.{mul-comm-float}
use Rattle.laws.proofs.Relative.{nonnegative}
use Rattle.laws.proofs.Bound.{Up, Lo, Span, up-test, lo-test, up-weaken, lo-of-le, up_of, lo-of, up_one, lo-one, span_of, range-test, mul-up, div-up, up_test, mul-up-by, mul-lo-by, up-lo-lt-by, every-at}
use Rattle.machine.specs.Constants.{tolerance}
use Rattle.machine.specs.Small.{one}
use Rattle.gamma_ln.specs.Coefficients.{coefficients}
use Rattle.gamma_ln.specs.declared.series.Terms.{Terms}
use Rattle.gamma_ln.specs.Series.{is_below, next_power, next_term, with_next, is_done, first_of, further_of, inverse_of, square_of, first_term_of, bound_of, series_of, EndsByTest}

-- ---- 1 / z and its square
inverse-up : (z : Float) → T (le (of_bits binary64 0x401A000000000000) z) → Up (inverse_of z) 155 1000
unfolding inverse_of of_bits
inverse-up z h =
    div-up binary64 155 1000 (range-test binary64 155 1000 tt) (lit< tt) (lit≤ tt)
    (up-test one 1 1 tt)
    (lo-of-le z (of_bits binary64 0x401A000000000000) (lit< tt) h (lo-test (of_bits binary64 0x401A000000000000) 13 2 tt))

square-up : (z : Float) → Up (inverse_of z) 155 1000 → Up (square_of z) 2403 100000
unfolding square_of
square-up z u = mul-up binary64 2403 100000 (range-test binary64 2403 100000 tt) (lit≤ tt) u u

inverse-span : (z : Float) → Up (inverse_of z) 155 1000 → T (le tolerance (inverse_of z)) → Span 52 0 (num (inverse_of z)) (den (inverse_of z))
unfolding tolerance of_bits
inverse-span z u h = span_of 52 0 (lo-of-le (inverse_of z) tolerance (lit< tt) h (lo-test tolerance 1 (2 ^ 52) tt)) (up-weaken (2 ^ 0) 1 (lit< tt) (lit≤ tt) u)

-- ---- the bound, from below
bound-lo : (z : Float) → T (nonnegative (inverse_of z)) → Span 52 0 (num (inverse_of z)) (den (inverse_of z)) → Lo (bound_of z) (82 * num (inverse_of z)) (1000 * 2 ^ 52 * den (inverse_of z))
unfolding bound_of first_term_of coefficients tolerance of_bits
bound-lo z p s =
    let first : Lo (mul binary64 (inverse_of z) (get_or coefficients 0 nan)) (83 * num (inverse_of z)) (1000 * den (inverse_of z)) =
    mul-lo-by binary64 1 1 83 1000 s tt (lo-one (lo-of (inverse_of z) p)) (lo-test (get_or coefficients 0 nan) 833 10000 tt) in
    mul-lo-by binary64 83 1000 82 (1000 * 2 ^ 52) s tt (subst (λ (t : Float). Lo t (83 * num (inverse_of z)) (1000 * den (inverse_of z))) (mul-comm-float binary64 (inverse_of z) (get_or coefficients 0 nan)) first) (lo-test tolerance 1 (2 ^ 52) tt)

-- ---- the powers: the one of term j is at most (5 / 208)^j of p. One test for each step, computed once
step-test : ℕ → Bool
step-test j = up_test binary64 52 0 (5 ^ j * 2403) (208 ^ j * 100000) (5 ^ suc j) (208 ^ suc j)

power-step : {S W : ℕ} (p square : Float) (j : ℕ) → Span 52 0 S W → Up square 2403 100000 → j < 14 → Up p (5 ^ j * S) (208 ^ j * W) → Up (mul binary64 p square) (5 ^ suc j * S) (208 ^ suc j * W)
unfolding step-test
power-step p square j s q h u = mul-up-by binary64 (5 ^ j) (208 ^ j) (5 ^ suc j) (208 ^ suc j) s (every-at step-test 14 tt j h) u q

-- ---- a value without a minus sign below a bound is so in magnitude
negative-below : (t b : Float) → T (nonnegative t) → T (lt t b) → T (lt (neg t) b)
unfolding lt neg
negative-below nan b n l = absurd n
negative-below (inf s) b n l = absurd n
negative-below (fin true m e) b n l = absurd n
negative-below (fin false m e) nan n l = l
negative-below (fin false m e) (inf s) n l = l
negative-below (fin false m e) (fin true k d) n l = absurd l
negative-below (fin false m e) (fin false k d) n l = lt→ltb 0 (m * up e * down d + k * up d * down e) (some (m * up e * down d) (k * up d * down e) (ltb→lt (m * up e * down d) (k * up d * down e) l))
  where
    some : (a b : ℕ) → a < b → 0 < a + b
    some a b h = omega arith

-- ---- the term with coefficient 14
last-below : (z : Float) (s : Terms) → T (nonnegative (inverse_of z)) → Span 52 0 (num (inverse_of z)) (den (inverse_of z)) → Up (square_of z) 2403 100000
    → Up s.power (5 ^ 13 * num (inverse_of z)) (208 ^ 13 * den (inverse_of z)) → T (is_done (square_of z) (bound_of z) 14 s)
unfolding is_done is_below next_term next_power coefficients of_bits
last-below z s p g q u =
    let c = get_or coefficients 14 nan in
    let power = mul binary64 s.power (square_of z) in
    let P : Up power (5 ^ 14 * num (inverse_of z)) (208 ^ 14 * den (inverse_of z)) = power-step s.power (square_of z) 13 g q (lit< tt) u in
    let t : Up (mul binary64 c power) (691474 * 5 ^ 14 * num (inverse_of z)) (208 ^ 14 * den (inverse_of z)) =
    subst (λ (x : Float). Up x (691474 * 5 ^ 14 * num (inverse_of z)) (208 ^ 14 * den (inverse_of z))) (mul-comm-float binary64 power c)
    (mul-up-by binary64 (5 ^ 14) (208 ^ 14) (691474 * 5 ^ 14) (208 ^ 14) g tt P (up-test c 691473 1 tt)) in
    let l : T (lt (mul binary64 c power) (bound_of z)) = up-lo-lt-by (691474 * 5 ^ 14) (208 ^ 14) 82 (1000 * 2 ^ 52) g t (bound-lo z p g) tt in
    and_i (lt (mul binary64 c power) (bound_of z)) (lt (neg (mul binary64 c power)) (bound_of z)) l (negative-below (mul binary64 c power) (bound_of z) t.sign l)

-- ---- the run: while it goes on the count is at most 14 and the power falls; at 14 it stops
abbrev Falls : Float → ℕ → Terms → Type 0
Falls z zero s = ⊥
Falls z (suc j) s = (j ≤ 13) × (s.count ≡ suc j) × Up s.power (5 ^ j * num (inverse_of z)) (208 ^ j * den (inverse_of z))

module _ (z : Float) (p : T (nonnegative (inverse_of z))) (g : Span 52 0 (num (inverse_of z)) (den (inverse_of z))) (q : Up (square_of z) 2403 100000) where
  keeps : (k : ℕ) (s : Terms) → is_done (square_of z) (bound_of z) k s ≡ false → Falls z k s → Falls z (suc k) (with_next (square_of z) k s)
  unfolding with_next next_power
  keeps zero s e f = absurd f
  keeps (suc j) s e (h, n, u) = elim (eq-or-lt_of_le h) [
    | inl w ↦ absurd (true≢false (sym (passed (is_done (square_of z) (bound_of z) 14 s) (last-below z s p g q (subst (λ (i : ℕ). Up s.power (5 ^ i * num (inverse_of z)) (208 ^ i * den (inverse_of z))) w u))) ∙ ap (λ (i : ℕ). is_done (square_of z) (bound_of z) (suc i) s) (sym w) ∙ e))
    | inr l ↦ (l, ap (λ (i : ℕ). i + 1) n ∙ add-one (suc j), power-step s.power (square_of z) j g q (more j h) u)
  ]
    where
      more : (j : ℕ) → j ≤ 13 → j < 14
      more j h = omega arith

  run-falls : Ends (is_done (square_of z) (bound_of z)) (with_next (square_of z)) (Falls z) 21 1 (first_of (inverse_of z) (first_term_of z))
  unfolding first_of
  run-falls = run_ends (is_done (square_of z) (bound_of z)) (with_next (square_of z)) (Falls z) keeps 21 1 (first_of (inverse_of z) (first_term_of z)) (lit≤ tt, refl, up_one (up_of (inverse_of z) p))

  ends : ((further_of (inverse_of z) (first_term_of z) (square_of z) (bound_of z)).count ≤ 14)
      × T (is_done (square_of z) (bound_of z) (further_of (inverse_of z) (first_term_of z) (square_of z) (bound_of z)).count (further_of (inverse_of z) (first_term_of z) (square_of z) (bound_of z)))
  unfolding further_of
  ends = let r = run-falls in go r.k (run (is_done (square_of z) (bound_of z)) (with_next (square_of z)) 21 1 (first_of (inverse_of z) (first_term_of z))) r.holds r.ended
    where
      go : (k : ℕ) (s : Terms) → Falls z k s → (is_done (square_of z) (bound_of z) k s ≡ true) ⊎ (k ≡ 1 + 21) → (s.count ≤ 14) × T (is_done (square_of z) (bound_of z) s.count s)
      go zero s f e = absurd f
      go (suc j) s (h, n, u) (inl e) = (subst (λ (i : ℕ). i ≤ 14) (sym n) (at_most j h), subst (λ (i : ℕ). T (is_done (square_of z) (bound_of z) i s)) (sym n) (subst T (sym e) tt))
        where
          at_most : (j : ℕ) → j ≤ 13 → suc j ≤ 14
          at_most j h = omega arith
      go (suc j) s (h, n, u) (inr e) = absurd (none j h e)
        where
          none : (j : ℕ) → j ≤ 13 → suc j ≡ 1 + 21 → ⊥
          none j h e = omega arith

-- what holds of the sum as one of its two cases gives it
shown : (z : Float) (s : Terms) → s ≡ series_of z → s.count ≤ 14 → (T (le tolerance (inverse_of z)) → T (is_done (square_of z) (bound_of z) s.count s)) → EndsByTest z
shown z s e n t = record {
  few = subst (λ (r : Terms). r.count ≤ 14) e n;
  test = λ h. subst (λ (r : Terms). T (is_done (square_of z) (bound_of z) r.count r)) e (t h);
}

pub ends-by-test : (z : Float) → T (le (of_bits binary64 0x401A000000000000) z) → EndsByTest z
unfolding series_of first_of
ends-by-test z h = go (le tolerance (inverse_of z)) refl
  where
    pick : Bool → Terms
    pick b = cond b (further_of (inverse_of z) (first_term_of z) (square_of z) (bound_of z)) (first_of (inverse_of z) (first_term_of z))

    go : (b : Bool) → le tolerance (inverse_of z) ≡ b → EndsByTest z
    go true e =
        let u = inverse-up z h in
        let w = ends z u.sign (inverse-span z u (subst T (sym e) tt)) (square-up z u) in
        shown z (pick true) (ap pick (sym e)) w.0 (λ t. w.1)
    go false e = shown z (pick false) (ap pick (sym e)) (lit≤ tt) (λ t. absurd (subst T e t))
