-- `cells::all_finite::stays_zero` meets its contract: at each cell passed, the product and what is left of the cells decide. Assumes nothing.
use mathlib.Core.Path.{sym, ◌∙◌}
use native.Mathlib.Omega.{arith}
use lib.Ieee.{nan}
use lib.Ieee.Scale.{finite}
use Rattle.cells.proofs.AllFiniteFacts.{all-next, all_end}
use Rattle.cells.proofs.NoughtFacts.{nought-times, equals-zero}
use Rattle.cells.proofs.all_finite.stays_zero.Goals as goal

pub loop-x-preserved : goal.loop-x-preserved
loop-x-preserved c =
    let l = c.loop-x in
    (nought-times l.z _ l.invariant.0, l.invariant.1 ∙ all-next _ l.x-index nan l.z c.loop-x-test.true l.invariant.0)

pub returns : goal.returns
returns c =
    let l = c.loop-x in
    equals-zero l.z l.invariant.0 ∙ sym (l.invariant.1 ∙ all_end c.args.cells.now l.x-index (finite l.z) (omega (arith, c.loop-x-test.false)))
