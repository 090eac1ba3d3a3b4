-- `power_series::pair::paired` meets its contract: the two entries, and what is left of the visit. Assumes nothing.
use mathlib.Core.Path.{◌≡◌, sym, ap, ◌∙◌, subst}
use Prim.Native.Nat.{ℕ, ◌-◌, ◌*◌, ◌/◌}
use native.Mathlib.Omega.{arith}
use lib.ListN.{drop}
use Rattle.power_series.specs.Entries.{orders}
use Rattle.power_series.specs.Visit.{Walk, walk_of}
use Rattle.power_series.specs.shapes.Pair.{Begun, walk_from}
use Rattle.power_series.proofs.WalkFacts.{walking-whole}
use Rattle.power_series.proofs.PairFacts.{paired-walk}
use Rattle.power_series.proofs.pair.paired.Goals as goal

pub returns-clause-visit : goal.returns-clause-visit
returns-clause-visit c =
    let g = c.args.g in
    let p = c.args.p in
    let begin = c.args.out.now in
    let n = c.len-left.result in
    let is = c.len-left.ensures in
    let b = subst (λ (q : ℕ). Begun g q p) (sym is) c.requires.1 in
    let w = paired-walk g n p b begin.cells.now (omega (arith, is, begin.even)) (omega (arith, is, c.requires)) _ c.put.ensures.cells _ c.put-2.ensures.cells in
    let e = c.evened-r in
    let r = e.result in
    let t = c.two_by_two.ensures.visit in
    let middle = c.put-2.new.self in
    let last = e.new.out in
    let before : n ≡ orders middle = is ∙ ap (λ (k : ℕ). k / 2) (sym (c.put-2.ensures.kept.1 ∙ c.put.ensures.kept.1)) in
    let after : orders middle ≡ orders last = ap (λ (k : ℕ). k / 2) (sym e.ensures.kept.1) in
    let whole : walk_of g (orders begin) ≡ walk_from g (orders last) r.left r.state (drop (r.left * 2) last.cells.now) =
    ap (walk_of g) (sym is)
    ∙ walking-whole _ _ _ w
    ∙ ap (λ (q : ℕ). walk_from g q (n - 1 - 1) p.lower (drop ((n - 1 - 1) * 2) middle.cells.now)) before
    ∙ e.ensures.visit.2
    ∙ ap (λ (q : ℕ). walk_from g q r.left r.state (drop (r.left * 2) last.cells.now)) after in
    (t.0 ∙ ap (λ (q : Walk). q.standing) (sym whole), t.1 ∙ ap (λ (q : Walk). q.cells) (sym whole))
