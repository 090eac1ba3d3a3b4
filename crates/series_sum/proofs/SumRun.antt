-- The run of a sum as its loop goes through it: what is left of it, one term further on, and at its end; and its count. Assumes nothing.
use mathlib.Core.Path.{◌≡◌, refl, sym, ap, ◌∙◌, subst}
use mathlib.Core.Bool.{Bool, true, false, not, ◌&&◌}
use Prim.Native.Nat.{ℕ, suc, ◌+◌, ◌-◌, ◌≤◌, ◌<◌}
use native.Mathlib.Numerals.{add-one}
use lib.Dec.{T, lit≤}
use lib.Ieee.{Float, lt}
use Rattle.laws.specs.Operators.{◌⊕◌}
use Rattle.laws.proofs.Run.{Ends, run-next, run-stop, run_end, run_ends}
use Rattle.machine.specs.Small.{one}
use Rattle.complex.specs.declared.number.Complex.{Complex}
use Rattle.series_sum.specs.declared.sum.Partial.{Partial}
use Rattle.series_sum.specs.Sum.{sum_tolerance, sum_is_one, start_sum, next_sum, is_summed, sum_within, sum_from, sum_unless, sum_of}
use Rattle.series_sum.specs.shapes.Sum.{sum_rest}
use Rattle.series_sum.specs.shapes.Sums.{one_or, both_go_on}

pub terms-start : (u : Float) → (start_sum u).terms ≡ 0
unfolding start_sum
terms-start u = refl

pub terms-next : (w : Complex) (x : Float) (s : Partial) → (next_sum w x s).terms ≡ s.terms + 1
unfolding next_sum
terms-next w x s = refl

pub next-counts : (w : Complex) (x : Float) (s t : Partial) → t ≡ next_sum w x s → t.terms ≡ s.terms + 1
next-counts w x s t e = ap (λ (p : Partial). p.terms) e ∙ terms-next w x s

module _ (w : Complex) (x tolerance : Float) where
  pub rest-start : (u : Float) → sum_from w x u tolerance ≡ sum_rest w x tolerance (start_sum u)
  unfolding sum_within sum_from start_sum
  rest-start u = refl

  pub rest-next : (s : Partial) → s.terms < 19 → lt tolerance s.estimate.error ≡ true → sum_rest w x tolerance s ≡ sum_rest w x tolerance (next_sum w x s)
  unfolding is_summed next_sum
  rest-next s h e = run-next (λ i p. is_summed tolerance p) (λ i p. next_sum w x p) 19 s.terms s h (ap not e)

  pub rest-after : (s t : Partial) → t ≡ next_sum w x s → s.terms < 19 → lt tolerance s.estimate.error ≡ true → sum_rest w x tolerance s ≡ sum_rest w x tolerance t
  rest-after s t n h e = rest-next s h e ∙ ap (sum_rest w x tolerance) (sym n)

  pub rest-stop : (s : Partial) → lt tolerance s.estimate.error ≡ false → sum_rest w x tolerance s ≡ s
  unfolding is_summed
  rest-stop s e = run-stop (λ i p. is_summed tolerance p) (λ i p. next_sum w x p) (19 - s.terms) s.terms s (ap not e)

  pub rest_end : (s : Partial) → 19 ≤ s.terms → sum_rest w x tolerance s ≡ s
  rest_end s h = run_end (λ i p. is_summed tolerance p) (λ i p. next_sum w x p) 19 s.terms s h

-- every turn counts one term, and the bound is 19
module _ (w : Complex) (x u tolerance : Float) where
  counted : Ends (λ i s. is_summed tolerance s) (λ i s. next_sum w x s) (λ i s. s.terms ≡ i) 19 0 (start_sum u)
  counted = run_ends (λ i s. is_summed tolerance s) (λ i s. next_sum w x s) (λ i s. s.terms ≡ i) keep 19 0 (start_sum u) (terms-start u)
    where
      keep : (i : ℕ) (s : Partial) → is_summed tolerance s ≡ false → s.terms ≡ i → (next_sum w x s).terms ≡ suc i
      keep i s e h = terms-next w x s ∙ ap (λ (n : ℕ). n + 1) h ∙ add-one i

  terms-few : (sum_from w x u tolerance).terms ≤ 19
  unfolding sum_from sum_within
  terms-few = subst (λ (n : ℕ). n ≤ 19) (sym counted.holds) counted.to

unless-few : (b : Bool) (w : Complex) (x u : Float) → (sum_unless b w x u).terms ≤ 19
unfolding sum_unless
unless-few true w x u = lit≤ tt
unless-few false w x u = terms-few w x u (sum_tolerance x u)

pub sum-few : (order : Float) (w : Complex) (x : Float) → (sum_of order w x).terms ≤ 19
unfolding sum_of
sum-few order w x = let u = order ⊕ one in unless-few (sum_is_one x u) w x u

-- two sums that both go on
pub both_go : (t u : Float) (p q : Partial) → both_go_on t u p q ≡ true → (lt t p.estimate.error ≡ true) × (lt u q.estimate.error ≡ true)
unfolding both_go_on
both_go t u p q e = go (lt t p.estimate.error) (lt u q.estimate.error) e
  where
    go : (a b : Bool) → a && b ≡ true → (a ≡ true) × (b ≡ true)
    go true b e = (refl, e)
    go false b e = absurd (subst T (sym e) tt)

-- a sum that is 1 at once, or not
pub one-or : (b : Bool) (w : Complex) (x u : Float) → one_or b (sum_unless false w x u) ≡ sum_unless b w x u
unfolding one_or sum_unless
one-or true w x u = refl
one-or false w x u = refl
