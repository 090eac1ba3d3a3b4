-- `complex::functions::exp_cosh_sinh` meets its contract: at 0 the values are facts by computation. Assumes nothing.
use mathlib.Core.Path.{sym}
use Rattle.complex.proofs.AtZero.{AtZero, at_zero}
use Rattle.complex.proofs.functions.exp_cosh_sinh.Goals as goal

pub returns-then-z-2 : goal.returns-then-z-2
returns-then-z-2 c =
    let d = c in
    let z : AtZero d.args.z = at_zero d.args.z c.struct_known-1.given.0 c.struct_known-1.given.1.0 c.if-z.true c.if-z-2.true in
    (sym z.exp, sym z.cosh, sym z.sinh)
