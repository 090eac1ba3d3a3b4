-- `circular::cos_pi::cos_pi` meets its contract: by the parts of x. Assumes nothing.
use mathlib.Core.Path.{sym, ◌∙◌, subst}
use Prim.Native.Nat.{◌<◌}
use native.Mathlib.Omega.{arith}
use Rattle.circular.specs.declared.reduce.Reduced.{Reduced}
use Rattle.circular.proofs.Parts.{quarter-pi-lt, cos_pi-left, cos_pi-at}
use Rattle.circular.proofs.cos_pi.cos_pi.Goals as goal

pub returns-in_default : goal.returns-in_default
returns-in_default c = c.not_a_number.ensures ∙ sym (cos_pi-left c.args.x c.in_default.ensures)

pub overflow_add-angle : goal.overflow_add-angle
overflow_add-angle c = omega (arith, subst (λ (r : Reduced). r.quarter < 4) (sym c.reduce_pi-angle.ensures) (quarter-pi-lt c.in-Some.parts.size))

pub returns : goal.returns
returns c = c.sine_pi_at.ensures ∙ cos_pi-at c.args.x c.in-Some.parts c.in-Some.ensures c.reduce_pi-angle.result c.reduce_pi-angle.ensures
