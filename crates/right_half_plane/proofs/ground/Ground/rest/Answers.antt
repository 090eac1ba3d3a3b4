-- `Ground::rest` meets its contract: no cell, two, or more. Assumes nothing.
use mathlib.Core.Path.{ap}
use Prim.Native.Nat.{ℕ, ◌/◌}
use Rattle.right_half_plane.proofs.CellFacts.{many, only, rest-empty, rest-one, left_over, rest_more, rungs-more}
use Rattle.right_half_plane.proofs.ground.Ground.rest.Goals as goal

pub returns-then-part-eq0 : goal.returns-then-part-eq0
returns-then-part-eq0 c = let a = c.args in rest-empty a.self a.lead a.part.now c.if-part-eq0.true

pub returns-then-part-eq2 : goal.returns-then-part-eq2
returns-then-part-eq2 c = let a = c.args in rest-one a.self a.lead a.part.now (only a.part.now _ _ c.if-part-eq2.true)

pub returns : goal.returns
returns c =
    let a = c.args in
    let h = many a.part.now a.lead.first.re a.lead.first.im c.requires.0 c.if-part-eq0.false c.if-part-eq2.false in
    let k = ap (λ (n : ℕ). n / 2) (left_over a.self a.lead a.part.now) in
    (rungs-more a.self a.lead a.part.now _ h k _ c.fill-top.ensures.0, rest_more a.self a.lead a.part.now _ h k _ c.fill-top.ensures.1)
