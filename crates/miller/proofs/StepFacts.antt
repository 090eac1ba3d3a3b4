-- The backward steps by the operations of either kind of number are the real ones at a real number, and the complex ones at a complex number. Assumes
-- nothing.
use mathlib.Core.Path.{◌≡◌, refl}
use Prim.Native.Nat.{ℕ, ◌+◌}
use lib.Ieee.{Float}
use Rattle.complex.specs.declared.number.Complex.{Complex}
use Rattle.miller.specs.declared.backward.Steps.{Steps}
use Rattle.miller.specs.Backward.{real_next, real_step, real_first, real_steps, complex_next, complex_step, on_real_line, complex_first, complex_steps}
use Rattle.miller.specs.shapes.Operations.{Operations, real_operations, complex_operations}
use Rattle.miller.specs.shapes.Steps.{next_of, step_of, first_of, steps_of}

pub real-step-is : (x distance : Float) (s : Steps Float) → step_of real_operations x distance s ≡ real_step x distance s
unfolding step_of next_of real_step real_next
real-step-is x distance s = refl

pub complex-step-is : (z : Complex) (distance : Float) (s : Steps Complex) → step_of complex_operations z distance s ≡ complex_step z distance s
unfolding step_of next_of complex_step complex_next
complex-step-is z distance s = refl

pub complex-first-is : (start : ℕ) → first_of complex_operations start ≡ complex_first start
unfolding first_of complex_first on_real_line
complex-first-is start = refl

pub real-steps-are : (x distance : Float) (start : ℕ) → steps_of real_operations x distance start ≡ real_steps x distance start
unfolding steps_of step_of next_of first_of real_steps real_step real_next real_first
real-steps-are x distance start = refl

pub complex-steps-are : (z : Complex) (distance : Float) (start : ℕ) → steps_of complex_operations z distance start ≡ complex_steps z distance start
unfolding steps_of step_of next_of first_of complex_steps complex_step complex_next complex_first on_real_line
complex-steps-are z distance start = refl

-- whatever the numbers, a step counts itself, from none
module _ {A : Type 0} (does : Operations A) where
  pub step-counts : (z : A) (distance : Float) (s : Steps A) → (step_of does z distance s).steps ≡ s.steps + 1
  unfolding step_of
  step-counts z distance s = refl

  pub none-counted : (start : ℕ) → (first_of does start).steps ≡ 0
  unfolding first_of
  none-counted start = refl
