-- How it is computed, not what: Miller's backward steps by the operations of either kind of number. They are those of specs/Backward.antt,
-- proofs/StepFacts.antt. Definitions only.
use Rattle.std.specs.Prelude.{ℕ, ◌+◌, Float}
use Rattle.laws.specs.Iterate.{iterate}
use Rattle.laws.specs.Operators.{◌⊕◌, ◌⊖◌, ◌⊗◌}
use Rattle.machine.specs.Constants.{tolerance}
use Rattle.machine.specs.Small.{nothing, one, two}
use Rattle.miller.specs.declared.backward.Steps.{Steps}
use Rattle.miller.specs.shapes.Operations.{Operations}
use Rattle.miller.specs.Trials.{whole}
use Rattle.miller.specs.Backward.{share_of}

module _ {A : Type 0} (does : Operations A) where
  unfoldable pub next_of : A → Float → Steps A → A
  next_of z distance s =
      let k = s.k in
      does.times_real
      (does.minus (does.product s.newer (does.times_real (does.plus_real z k) (two ⊗ k))) (does.times_real s.older (k ⊗ k ⊕ k)))
      (share_of distance k)

  unfoldable pub step_of : A → Float → Steps A → Steps A
  step_of z distance s =
      let next = next_of z distance s in
      record { older = s.newer; newer = next; sum = does.plus s.sum next; k = s.k ⊖ one; steps = s.steps + 1 }

  unfoldable pub first_of : ℕ → Steps A
  first_of start =
      record {
        older = does.from_real nothing;
        newer = does.from_real tolerance;
        sum = does.from_real tolerance;
        k = whole start;
        steps = 0;
      }

  unfoldable pub steps_of : A → Float → ℕ → Steps A
  steps_of z distance start = iterate start (step_of z distance) (first_of start)
