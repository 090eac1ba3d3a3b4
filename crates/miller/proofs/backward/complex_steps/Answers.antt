-- `miller::backward::complex_steps` meets its contract. The invariant: the state is that of as many steps as it counts. Assumes nothing.
use mathlib.Core.Path.{◌≡◌, ap, ◌∙◌}
use Prim.Native.Nat.{◌+◌}
use native.Mathlib.Omega.{arith}
use Rattle.complex.specs.declared.number.Complex.{Complex}
use Rattle.miller.specs.declared.backward.Steps.{Steps}
use Rattle.miller.specs.Backward.{complex_first, complex_step, complex_steps}
use Rattle.miller.proofs.StepFacts.{complex-first-is, complex-steps-are}
use Rattle.miller.proofs.BackwardFacts.{at_none, one_more, rest-whole}
use Rattle.miller.proofs.backward.complex_steps.Goals as goal

pub loop-s-init : goal.loop-s-init
unfolding complex_first
loop-s-init c =
    let first = c.first-s.ensures ∙ complex-first-is _ in
    let e : c.first-s.result.steps ≡ 0 = ap (λ (s : Steps Complex). s.steps) first in
    (omega arith, at_none _ _ _ _ first e)

pub overflow_sub-start : goal.overflow_sub-start
overflow_sub-start c = omega arith

pub returns-then-sum_re : goal.returns-then-sum_re
returns-then-sum_re c = c.all_steps.ensures ∙ complex-steps-are _ _ _

pub with_real_part-t-requires : goal.with_real_part-t-requires
with_real_part-t-requires c = (omega arith, c.real_part-re.ensures)

pub returns-then-next_sum_re : goal.returns-then-next_sum_re
returns-then-next_sum_re c = c.all_steps-then-next_sum_re.ensures ∙ complex-steps-are _ _ _

pub with_real_part-s-requires : goal.with_real_part-s-requires
unfolding complex_step
with_real_part-s-requires c =
    let d = c in
    let t = c.with_real_part-t in
    let e : t.result.steps ≡ d.loop-s.s.steps + 1 = ap (λ (s : Steps Complex). s.steps) t.ensures in
    (omega (arith, d.loop-s-test.true, d.ranges.start), c.real_part-next_re.ensures)

pub loop-s-smaller : goal.loop-s-smaller
unfolding complex_step
loop-s-smaller c =
    let d = c in
    let t = c.with_real_part-t in
    let u = c.with_real_part-s in
    let e : t.result.steps ≡ d.loop-s.s.steps + 1 = ap (λ (s : Steps Complex). s.steps) t.ensures in
    let f : u.result.steps ≡ t.result.steps + 1 = ap (λ (s : Steps Complex). s.steps) u.ensures in
    omega (arith, d.loop-s-test.true)

pub loop-s-preserved : goal.loop-s-preserved
unfolding complex_step
loop-s-preserved c =
    let d = c in
    let loop = d.loop-s in
    let t = c.with_real_part-t in
    let u = c.with_real_part-s in
    let e : t.result.steps ≡ loop.s.steps + 1 = ap (λ (s : Steps Complex). s.steps) t.ensures in
    let f : u.result.steps ≡ t.result.steps + 1 = ap (λ (s : Steps Complex). s.steps) u.ensures in
    (omega (arith, d.loop-s-test.true), one_more _ _ _ _ _ _ (one_more _ _ _ _ _ _ loop.invariant.1 t.ensures e) u.ensures f)

pub last_step-requires : goal.last_step-requires
last_step-requires c = (c.loop-s.invariant.0, omega arith)

pub returns : goal.returns
unfolding complex_steps
returns c = let loop = c.loop-s in c.last_step.ensures ∙ rest-whole _ _ _ _ _ loop.invariant.1 loop.invariant.0
