-- `frame::digits::Digits::short` meets its contract: four digits are below 65,536. Assumes nothing.
use mathlib.Core.Path.{sym, subst}
use Prim.Native.Nat.{ℕ, ◌<◌}
use native.Mathlib.Omega.{arith}
use Rattle.frame.proofs.FieldFacts.{short_below}
use Rattle.frame.proofs.digits.Digits.short.Goals as goal

pub overflow_cast-result : goal.overflow_cast-result
overflow_cast-result c = let a = c.args in omega (arith, c.field.ensures, short_below a.at a.width a.self.now.line.now c.requires.1 a.self.now.digits c.requires.0)

pub returns : goal.returns
returns c =
    let a = c.args in
    (c.field.ensures, subst (λ (k : ℕ). k < 65536) (sym c.field.ensures) (short_below a.at a.width a.self.now.line.now c.requires.1 a.self.now.digits c.requires.0))
