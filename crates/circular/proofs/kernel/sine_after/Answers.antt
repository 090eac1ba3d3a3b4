-- `circular::kernel::sine_after` meets its contract: by the parity of the quarter turns, then by the half. Assumes nothing.
use mathlib.Core.Path.{◌∙◌}
use borrow.Author.Tests.{eq-eqb, ne_eqb}
use Rattle.circular.specs.Kernel.{turned}
use Rattle.circular.proofs.kernel.sine_after.Goals as goal
use Rattle.circular.proofs.kernel.sine_after.Goals.{then-quarter-eq0, else-quarter-eq0}

pub returns-then-quarter-eq0-2 : goal.returns-then-quarter-eq0-2
unfolding turned
returns-then-quarter-eq0-2 g c m h =
    elim c.if-quarter-eq0.branch [
      | then-quarter-eq0 w ↦ simp (eq-eqb _ _ w.if-quarter-eq0.true, eq-eqb _ _ c.if-quarter-eq0-2.true, w.y-is, w.sine-y.ensures)
      | else-quarter-eq0 w ↦ simp (ne_eqb _ _ w.if-quarter-eq0.false, eq-eqb _ _ c.if-quarter-eq0-2.true, w.y-is, w.cosine-y.ensures)
    ]

pub returns : goal.returns
unfolding turned
returns g c m h =
    h _ _ c.minus.ensures
    ∙ elim c.if-quarter-eq0.branch [
      | then-quarter-eq0 w ↦ simp (eq-eqb _ _ w.if-quarter-eq0.true, ne_eqb _ _ c.if-quarter-eq0-2.false, w.y-is, w.sine-y.ensures)
      | else-quarter-eq0 w ↦ simp (ne_eqb _ _ w.if-quarter-eq0.false, ne_eqb _ _ c.if-quarter-eq0-2.false, w.y-is, w.cosine-y.ensures)
    ]
