-- `miller::backward::last_step` meets its contract: one step is left, or none. Assumes nothing.
use mathlib.Core.Path.{◌≡◌, refl, ◌∙◌}
use Prim.Native.Nat.{◌+◌, ◌-◌}
use native.Mathlib.Omega.{arith}
use Rattle.miller.proofs.StepFacts.{complex-step-is}
use Rattle.miller.proofs.BackwardFacts.{at_none, one_more}
use Rattle.miller.proofs.backward.last_step.Goals as goal

pub returns-then-s-start : goal.returns-then-s-start
returns-then-s-start c =
    let args = c.args in
    let one : args.start - args.s.steps ≡ 0 + 1 = omega arith in
    one_more _ _ _ _ 0 _ (at_none _ _ _ _ refl refl) (c.step.ensures ∙ complex-step-is _ _ _) one

pub returns : goal.returns
returns c =
    let args = c.args in
    let none : args.start - args.s.steps ≡ 0 = omega arith in
    at_none _ _ _ _ refl none
