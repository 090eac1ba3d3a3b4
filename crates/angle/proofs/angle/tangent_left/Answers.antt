-- `angle::angle::tangent_left` meets its contract: the same steps around three cuts to the leading digits; what is cut is finite. Assumes nothing.
use mathlib.Core.Path.{sym, subst}
use Rattle.laws.proofs.Value.{finite-no-nan}
use Rattle.angle.proofs.Step.{long-finite}
use Rattle.angle.proofs.Arc.{Operands, operands, unit-between, value-size, denominator-size}
use Rattle.angle.specs.Angle.{leading, tangent_of}
use Rattle.angle.proofs.angle.tangent_left.Goals as goal

pub leading_digits-a_high-requires : goal.leading_digits-a_high-requires
leading_digits-a_high-requires c = finite-no-nan _ (long-finite c.args.s c.requires.ranged)

pub leading_digits-high-requires : goal.leading_digits-high-requires
unfolding leading
leading_digits-high-requires c = let r = c.requires.ranged in let i = unit-between c.args.t c.requires.t in let s = c.args.s in let t = c.args.t in let o = subst (λ h. Operands s.long s.short t h) (sym c.leading_digits-a_high.ensures) (operands s r t i) in finite-no-nan _ (value-size s.long s.short t c.leading_digits-a_high.result o).fine

pub leading_digits-d_high-requires : goal.leading_digits-d_high-requires
unfolding leading
leading_digits-d_high-requires c = let r = c.requires.ranged in let i = unit-between c.args.t c.requires.t in let s = c.args.s in let t = c.args.t in let o = subst (λ h. Operands s.long s.short t h) (sym c.leading_digits-a_high.ensures) (operands s r t i) in finite-no-nan _ (denominator-size s.long s.short t c.leading_digits-a_high.result o).fine

pub returns : goal.returns
unfolding tangent_of leading
returns c = simp (c.leading_digits-d_high.ensures, c.leading_digits-high.ensures, c.leading_digits-a_high.ensures)
