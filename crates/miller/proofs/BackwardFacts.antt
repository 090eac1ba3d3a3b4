-- States so many steps from the first; and each backward step counts itself, so that their number is the start. Assumes nothing.
use mathlib.Core.Path.{◌≡◌, refl, sym, ap, ◌∙◌}
use Prim.Native.Nat.{ℕ, zero, suc, ◌+◌, ◌-◌, ◌≤◌}
use native.Mathlib.Numerals.{add-one}
use native.Mathlib.Omega.{arith}
use lib.Ieee.{Float}
use Rattle.laws.specs.Iterate.{iterate}
use Rattle.laws.proofs.Iterate.{iterate-zero, iterate-suc, iterate-next, iterate-add}
use Rattle.complex.specs.declared.number.Complex.{Complex}
use Rattle.miller.specs.declared.backward.Steps.{Steps}
use Rattle.miller.specs.Backward.{real_step, real_first, real_steps, complex_step, complex_first, complex_steps}

-- ---- a state that is so many steps from the first: at none, after one more, and with the last one to come
module _ {A : Type 0} (step : A → A) (first : A) where
  pub at_none : (s : A) (n : ℕ) → s ≡ first → n ≡ 0 → s ≡ iterate n step first
  at_none s n e z = e ∙ sym (iterate-zero step first) ∙ ap (λ (n : ℕ). iterate n step first) (sym z)

  pub one_more : (s r : A) (n m : ℕ) → s ≡ iterate n step first → r ≡ step s → m ≡ n + 1 → r ≡ iterate m step first
  one_more s r n m i e h = e ∙ ap step i ∙ sym (iterate-next n step first) ∙ ap (λ (n : ℕ). iterate n step first) (sym h)

  pub rest-whole : (s : A) (a k : ℕ) → s ≡ iterate k step first → k ≤ a → iterate (a - k) step s ≡ iterate a step first
  rest-whole s a k e h = ap (iterate (a - k) step) e ∙ sym (iterate-add (a - k) k step first) ∙ ap (λ (n : ℕ). iterate n step first) (all a k h)
    where
      all : (a k : ℕ) → k ≤ a → a - k + k ≡ a
      all a k h = omega arith

-- ---- steps that raise a count by one, from 0
counted : {A : Type 0} (count : A → ℕ) (step : A → A) → ((s : A) → count (step s) ≡ count s + 1) → (first : A) → count first ≡ 0 → (n : ℕ) → count (iterate n step first) ≡ n
counted count step h first z zero = ap count (iterate-zero step first) ∙ z
counted count step h first z (suc n) =
    ap count (iterate-suc n step first)
    ∙ h (iterate n step first)
    ∙ ap (λ (k : ℕ). k + 1) (counted count step h first z n)
    ∙ add-one n

real-count : (x distance : Float) (s : Steps Float) → (real_step x distance s).steps ≡ s.steps + 1
unfolding real_step
real-count x distance s = refl

real-after : (x distance : Float) (start n : ℕ) → (iterate n (real_step x distance) (real_first start)).steps ≡ n
unfolding real_first
real-after x distance start n = counted (λ (s : Steps Float). s.steps) (real_step x distance) (real-count x distance) (real_first start) refl n

pub real-steps-are-the-start : (x distance : Float) (start : ℕ) → (real_steps x distance start).steps ≡ start
unfolding real_steps
real-steps-are-the-start x distance start = real-after x distance start start

complex-count : (z : Complex) (distance : Float) (s : Steps Complex) → (complex_step z distance s).steps ≡ s.steps + 1
unfolding complex_step
complex-count z distance s = refl

complex-after : (z : Complex) (distance : Float) (start n : ℕ) → (iterate n (complex_step z distance) (complex_first start)).steps ≡ n
unfolding complex_first
complex-after z distance start n = counted (λ (s : Steps Complex). s.steps) (complex_step z distance) (complex-count z distance) (complex_first start) refl n

pub complex-steps-are-the-start : (z : Complex) (distance : Float) (start : ℕ) → (complex_steps z distance start).steps ≡ start
unfolding complex_steps
complex-steps-are-the-start z distance start = complex-after z distance start start
