-- `power_series::visit::descend` meets its contract: before each order the run that is left, from the state and the cells as they are, ends
-- as the whole run does. Assumes nothing.
use mathlib.Core.Path.{◌≡◌, refl, sym, ◌∙◌, subst}
use Prim.Native.Nat.{ℕ}
use native.Mathlib.Omega.{arith}
use Rattle.power_series.specs.Entries.{orders}
use Rattle.power_series.specs.Visit.{walk_of}
use Rattle.power_series.proofs.WalkFacts.{Walking, walking_start, walking-put, walking-stop, walking-end, walking-answer}
use Rattle.power_series.proofs.visit.descend.Goals as goal

pub loop-k-init : goal.loop-k-init
loop-k-init c =
    let e = c.args.out.now in
    let n = orders e in
    let w = walking_start c.args.g e.cells.now n (omega (arith, e.even)) _ c.start-state.ensures in
    ((refl, refl), subst (λ (q : ℕ). Walking c.args.g (walk_of c.args.g n) e.cells.now n q c.start-state.result e.cells.now) (sym c.len-n.ensures) w)

pub returns-then-state-clause-visit : goal.returns-then-state-clause-visit
returns-then-state-clause-visit c =
    let w = c.loop-k.invariant.1 in
    walking-answer _ _ _ w (walking-stop _ _ _ w c.if-state.true) _ (omega arith)

pub loop-k-preserved : goal.loop-k-preserved
loop-k-preserved c =
    let l = c.loop-k.invariant in
    let p = c.put.ensures in (
      (p.kept.0 ∙ l.0.0, p.kept.1 ∙ l.0.1),
      walking-put _ _ _ l.1 c.step-state.result c.step-state.ensures (omega arith) c.if-state.false _ p.cells,
    )

pub returns-clause-visit : goal.returns-clause-visit
returns-clause-visit c =
    let w = c.loop-k.invariant.1 in
    let e : c.loop-k.k ≡ 0 = omega arith in
    walking-answer _ _ _ w (walking-end _ _ _ w e) 0 e
