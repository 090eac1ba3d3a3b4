use mathlib.Core.Path.{◌≡◌}
use Rattle.gamma_ln.specs.declared.factors.Multiplied.{Multiplied}
use Rattle.gamma_ln.specs.Factors.{factors_of}
use Rattle.gamma_ln.proofs.factors.factors.Given as goal

abbrev pub invariant-loop-count : goal.invariant-loop-count
invariant-loop-count l = ◌≡◌ {A = Multiplied} (record { product = l.product; count = l.count }) (factors_of l.z l.count)
