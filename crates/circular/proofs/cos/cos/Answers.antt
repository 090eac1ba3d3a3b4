-- `circular::cos::cos` meets its contract: by the parts of x. Assumes nothing.
use mathlib.Core.Path.{sym, ◌∙◌, subst}
use Prim.Native.Nat.{◌<◌}
use native.Mathlib.Omega.{arith}
use Rattle.circular.specs.declared.reduce.Reduced.{Reduced}
use Rattle.circular.proofs.Parts.{quarter-lt, cos-left, cos-at}
use Rattle.circular.proofs.cos.cos.Goals as goal

pub returns-in_default : goal.returns-in_default
returns-in_default c = c.not_a_number.ensures ∙ sym (cos-left c.args.x c.in_default.ensures)

pub overflow_add-angle : goal.overflow_add-angle
overflow_add-angle c = omega (arith, subst (λ (r : Reduced). r.quarter < 4) (sym c.reduce-angle.ensures) (quarter-lt c.in-Some.parts.size))

pub returns : goal.returns
returns c = c.sine_at.ensures ∙ cos-at c.args.x c.in-Some.parts c.in-Some.ensures c.reduce-angle.result c.reduce-angle.ensures
