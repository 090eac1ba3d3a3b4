-- `circular::sin_pi::sin_pi` meets its contract: by the parts of x. Assumes nothing.
use mathlib.Core.Path.{sym, ◌∙◌, subst}
use Prim.Native.Nat.{◌<◌}
use native.Mathlib.Omega.{arith}
use Rattle.circular.specs.declared.reduce.Reduced.{Reduced}
use Rattle.circular.proofs.Parts.{quarter-pi-lt, few-turns, sin_pi-left, sin_pi-at}
use Rattle.circular.proofs.sin_pi.sin_pi.Goals as goal

pub returns-in_default : goal.returns-in_default
returns-in_default c = c.not_a_number.ensures ∙ sym (sin_pi-left c.args.x c.in_default.ensures)

pub overflow_add-angle : goal.overflow_add-angle
overflow_add-angle c = omega (arith, subst (λ (r : Reduced). r.quarter < 4) (sym c.reduce_pi-angle.ensures) (quarter-pi-lt c.in-Some.parts.size), few-turns c.args.x c.in-Some.parts c.in-Some.ensures)

pub returns : goal.returns
returns c = c.sine_pi_at.ensures ∙ sin_pi-at c.args.x c.in-Some.parts c.in-Some.ensures c.reduce_pi-angle.result c.reduce_pi-angle.ensures
