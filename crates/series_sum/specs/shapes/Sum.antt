-- How it is computed, not what: a sum under way, for the loops that take two turns at a time. Definitions only.
use Rattle.std.specs.Prelude.{◌-◌, Float}
use Rattle.laws.specs.Run.{run}
use Rattle.complex.specs.declared.number.Complex.{Complex}
use Rattle.series_sum.specs.declared.sum.Partial.{Partial}
use Rattle.series_sum.specs.Sum.{next_sum, is_summed}

-- what is left of a sum under way, within the same bound
abbrev pub sum_rest : Complex → Float → Float → Partial → Partial
sum_rest w x atol s = run (λ i p. is_summed atol p) (λ i p. next_sum w x p) (19 - s.terms) s.terms s
