use mathlib.Core.Path.{◌≡◌}
use Rattle.laws.specs.Iterate.{iterate}
use Rattle.miller.specs.shapes.Steps.{step_of, first_of}
use Rattle.miller.proofs.backward.all_steps.Given as goal

abbrev pub invariant-loop : goal.invariant-loop
invariant-loop g l = record {
  state : l.s ≡ iterate l.counter (step_of g.T.Amount.does l.z l.distance) (first_of g.T.Amount.does l.start);
  count : l.s.steps ≡ l.counter;
}
