-- The call that a frame asks for, and the line of what it gives. Definitions only.
use Rattle.std.specs.Prelude.{List, ℕ, ◌*◌}
use Rattle.call.specs.declared.kind.Kind.{Kind}
use Rattle.call.specs.declared.kind.Kind.TheVariants.{K, I}
use Rattle.frame.specs.declared.asking.Asking.{Asking}
use Rattle.frame.specs.Writing.{line_of}
use Rattle.bessel.specs.Outcome.{Outcome}
use Rattle.bessel.specs.I.{i_outcome}
use Rattle.bessel.specs.K.{k_outcome}

-- into so many cells
unfoldable pub called_as : Kind → Asking → ℕ → Outcome
called_as K a length = k_outcome a.scaled a.v a.re a.im length
called_as I a length = i_outcome a.scaled a.v a.re a.im length

unfoldable pub called_of : Asking → ℕ → Outcome
called_of a length = called_as a.kind a length

unfoldable pub outcome_line : Outcome → List ℕ
outcome_line o = line_of o.answer o.cells

-- n pairs are 2n cells, for any n that a frame can say: the call itself refuses 0 and what is above 512
abbrev pub called_line : Asking → List ℕ
called_line a = outcome_line (called_of a (a.count * 2))
