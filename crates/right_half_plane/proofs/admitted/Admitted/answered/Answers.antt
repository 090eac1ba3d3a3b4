-- `Admitted::answered` meets its contract: the zeros, and then the rest. Assumes nothing.
use mathlib.Core.Path.{ap}
use Prim.Native.Nat.{ℕ}
use Rattle.std.specs.Prelude.{Ok}
use Rattle.right_half_plane.specs.Kernel.{lead_kernel}
use Rattle.right_half_plane.proofs.CellFacts.{delivered-cells, delivered-rungs}
use Rattle.right_half_plane.proofs.admitted.Admitted.answered.Goals as goal

pub returns : goal.returns
unfolding lead_kernel
returns c =
    let a = c.args in
    let g = a.self.prepared in
    let r = c.rest-rungs.ensures in
    let e = delivered-rungs g a.lead a.out.now _ c.requires.1 c.requires.0.zeros c.fill.ensures _ r.0 in
    (ap (λ (k : ℕ). Ok (record { zeros = a.lead.zeros; longest_sum = a.s.terms; rungs = k; backward = a.s.backward })) e, delivered-cells g a.lead a.out.now _ c.requires.1 c.requires.0.zeros c.fill.ensures _ r.1)
