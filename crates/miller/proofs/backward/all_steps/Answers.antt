-- `miller::backward::all_steps` meets its contract. The invariant: the state is that of as many steps as the loop has counted. Assumes nothing.
use mathlib.Core.Path.{◌≡◌, refl, ap, ◌∙◌}
use Prim.Native.Nat.{ℕ, ◌+◌}
use native.Mathlib.Omega.{arith}
use Rattle.laws.specs.Iterate.{iterate}
use Rattle.miller.specs.shapes.Steps.{step_of, first_of, steps_of}
use Rattle.miller.proofs.StepFacts.{step-counts, none-counted}
use Rattle.miller.proofs.BackwardFacts.{at_none, one_more}
use Rattle.miller.proofs.backward.all_steps.Goals as goal

pub loop-init : goal.loop-init
loop-init g c = let n = ap (λ s. s.steps) c.first-s.ensures ∙ none-counted _ _ in record { state = at_none _ _ _ _ c.first-s.ensures refl; count = n }

pub step-s-requires : goal.step-s-requires
step-s-requires g c = omega (arith, c.loop.invariant.count, c.ranges.start.fits)

pub loop-preserved : goal.loop-preserved
loop-preserved g c =
    let n = ap (λ s. s.steps) c.step-s.ensures ∙ step-counts _ _ _ _ in
    record { state = one_more _ _ _ _ _ _ c.loop.invariant.state c.step-s.ensures refl; count = n ∙ ap (λ (k : ℕ). k + 1) c.loop.invariant.count }

pub returns : goal.returns
unfolding steps_of
returns g c =
    let e : c.loop.counter ≡ c.args.start = omega arith in
    c.loop.invariant.state ∙ ap (λ (n : ℕ). iterate n (step_of g.T.Amount.does c.args.z c.args.distance) (first_of g.T.Amount.does c.args.start)) e
