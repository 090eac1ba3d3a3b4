-- `power_series::tiny::tiny` meets its contract: a fill, and the first cell. Assumes nothing.
use mathlib.Core.Path.{ap, ◌∙◌}
use mathlib.Core.List.{List}
use Prim.Native.Nat.{◌-◌, ◌*◌, ◌/◌}
use native.Mathlib.Omega.{arith}
use lib.Ieee.{Float}
use lib.ListN.{length, set}
use Rattle.machine.specs.Small.{nothing}
use Rattle.cells.proofs.FillFacts.{replicate-first}
use Rattle.power_series.specs.Tiny.{tiny_of}
use Rattle.power_series.proofs.tiny.tiny.Goals as goal

pub returns-clause-visit : goal.returns-clause-visit
unfolding tiny_of
returns-clause-visit c =
    let e = c.args.out.now in
    let n = length e.cells.now in
    let l = c.lowest in (
      simp (c.zeros.ensures, c.len-n.ensures),
      rw (← l.ensures)
          (ap (λ (cells : List Float). set cells 0 l.result) c.fill.ensures ∙ replicate-first n (n / 2 * 2 - 1) nothing l.result (omega (arith, c.requires, e.even)) (omega (arith, c.requires))),
    )
