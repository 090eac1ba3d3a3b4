-- `sweep::answer::answer` meets its contract: by the result. Assumes nothing.
use mathlib.Core.Path.{sym, ap}
use Prim.Native.Nat.{◌≤◌}
use native.Mathlib.Omega.{arith}
use lib.ListN.{length}
use lib.Seq.{length-take-le}
use Rattle.sweeping.specs.Sweep.{Swept}
use Rattle.sweep.proofs.TextFacts.{frames-room, frames-are}
use Rattle.sweep.proofs.answer.answer.Goals as goal

pub slice_bounds-accept-end : goal.slice_bounds-accept-end
slice_bounds-accept-end c =
    let a = c.args in
    omega (arith, frames-room a.line.now a.out.now a.out.now c.in-Ok.needed (ap (λ (x : Swept). x.needed) c.in-Ok.ensures.0) c.requires, c.sweep_line.auto.out)

pub slice_bounds-accept-end-in-Ok : goal.slice_bounds-accept-end-in-Ok
slice_bounds-accept-end-in-Ok c =
    let a = c.args in
    let room : c.in-Ok.needed ≤ length c.sweep_line.new.out =
    omega (arith, frames-room a.line.now a.out.now a.out.now c.in-Ok.needed (ap (λ (x : Swept). x.needed) c.in-Ok.ensures.0) c.requires, c.sweep_line.auto.out) in
    sym (length-take-le c.in-Ok.needed c.sweep_line.new.out room)

pub accept-requires : goal.accept-requires
accept-requires c =
    let a = c.args in
    let e = c.in-Ok.ensures in (
      frames-are a.line.now a.out.now c.sweep_line.new.out c.in-Ok.needed (ap (λ (x : Swept). x.needed) e.0) c.requires e.1,
      sym (ap (λ (x : Swept). x.number) e.0),
    )
