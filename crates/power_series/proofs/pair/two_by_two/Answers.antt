-- `power_series::pair::two_by_two` meets its contract: before each pair of orders the run that is left, from the state and the cells as
-- they are, ends as it did at first. Assumes nothing.
use mathlib.Core.Path.{◌≡◌, refl, sym, ◌∙◌, subst}
use Prim.Native.Nat.{ℕ, ◌+◌, ◌-◌, ◌*◌, ◌/◌, ◌<◌}
use native.Mathlib.Omega.{arith}
use lib.ListN.{drop}
use Rattle.series_step.specs.declared.setting.Setting.{Setting}
use Rattle.series_step.specs.declared.descent.Descent.{Descent}
use Rattle.series_step.specs.Recurred.{recurred_of}
use Rattle.power_series.specs.Entries.{orders}
use Rattle.power_series.specs.shapes.Pair.{Settled, walk_from}
use Rattle.power_series.proofs.WalkFacts.{Walking, walking-from, walking-at, walking-end, walking-answer}
use Rattle.power_series.proofs.PairFacts.{settled-step, settled-next}
use Rattle.power_series.proofs.pair.two_by_two.Goals as goal

-- after one order, that of the index k
settled :
    (g : Setting) {n left : ℕ} {state next : Descent} → Settled n left state → (k : ℕ) → k + 1 ≡ left → next ≡ recurred_of g k state → Settled n k next
settled g {n} {left} {state} {next} t k e f =
    let at-k : left - 1 ≡ k = omega arith in
    let more : 0 < left = omega arith in
    subst (λ (q : ℕ). Settled n q next) at-k (subst (λ (q : Descent). Settled n (left - 1) q) (sym f) (settled-next g k state t more))

pub loop-pair-init : goal.loop-pair-init
loop-pair-init c =
    let a = c.args in
    let d = a.out.now.cells.now in
    let n = orders a.out.now in
    let even : a.most ≡ a.most / 2 * 2 = omega (arith, c.requires) in
    let w = walking-from a.g d n a.most a.settled (omega (arith, a.out.now.even)) c.requires.1 in (
      (refl, refl),
      subst (λ (q : ℕ). Settled n q a.settled) even c.requires.1,
      subst (λ (q : ℕ). Walking a.g (walk_from a.g n a.most a.settled (drop (a.most * 2) d)) d n q a.settled d) even w,
    )

pub recurred-state-requires : goal.recurred-state-requires
recurred-state-requires c =
    let l = c.loop-pair in
    let few = c.args.out.now.few in
    let t = settled _ l.invariant.1 ((l.pair - 1) * 2 + 1) (omega arith) c.recurred-s.ensures in
    (omega (arith, few, t.low), omega (arith, few, t.rungs))

pub loop-pair-preserved : goal.loop-pair-preserved
loop-pair-preserved c =
    let l = c.loop-pair in
    let kept = l.invariant.0 in
    let ready = l.invariant.1 in
    let k = (l.pair - 1) * 2 in
    let a = c.recurred-s in
    let b = c.recurred-state in
    let p = c.put.ensures in
    let q = c.put-in-loop-pair.ensures in
    let t = settled _ ready (k + 1) (omega arith) a.ensures in
    let first = walking-at _ _ _ l.invariant.2 (k + 1) (omega arith) a.result (a.ensures ∙ sym (settled-step _ (k + 1) l.state ready.seeded)) ready.goes _ p.cells in
    let second = walking-at _ _ _ first k refl b.result (b.ensures ∙ sym (settled-step _ k a.result t.seeded)) t.goes _ q.cells in
    ((q.kept.0 ∙ p.kept.0 ∙ kept.0, q.kept.1 ∙ p.kept.1 ∙ kept.1), settled _ t k refl b.ensures, second)

pub returns-clause-visit : goal.returns-clause-visit
returns-clause-visit c =
    let w = c.loop-pair.invariant.2 in
    let e : c.loop-pair.pair * 2 ≡ 0 = omega arith in
    walking-answer _ _ _ w (walking-end _ _ _ w e) 0 e
