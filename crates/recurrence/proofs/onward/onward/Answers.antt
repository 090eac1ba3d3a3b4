-- `recurrence::onward::onward` meets its contract: one rung more than the stretch, unless that was all. Assumes nothing.
use mathlib.Core.Path.{◌≡◌, refl, sym, ap, ◌∙◌, subst}
use mathlib.Core.Bool.{true, true≢false}
use Prim.Native.Nat.{ℕ, ◌+◌, ◌-◌, ◌*◌, ◌<◌, ◌≤◌}
use native.Mathlib.Omega.{arith}
use denote.Param.{number}
use Rattle.recurrence.specs.contracts.onward.onward.{WRITES-type}
use Rattle.recurrence.specs.declared.state.Rung.{Rung}
use Rattle.recurrence.proofs.ClimbFacts.{rung-counted}
use Rattle.recurrence.proofs.StretchFacts.{partway-rung}
use Rattle.recurrence.proofs.FillFacts.{writing-rung}
use Rattle.recurrence.proofs.OffScaleFacts.{same-spreads}
use Rattle.recurrence.proofs.onward.onward.Goals.{then-this-ne0, else-this-ne0}
use Rattle.recurrence.proofs.onward.onward.Goals as goal

twice : (place k : ℕ) → place + 2 * k ≡ place + k * 2
twice place k = omega arith

-- where there is room for the rungs that are left, there is room for a pair

room : (place k from to l : ℕ) → k < to - from → place + (to - from) * 2 ≤ l → place + 2 * k + 1 < l
room place k from to l h g = omega arith

ahead : (k from to : ℕ) → k < to - from → from + k < to
ahead k from to h = omega arith

pub returns-then-climbed-to : goal.returns-then-climbed-to
returns-then-climbed-to g c =
    let p = c.requires in
    let f = c.entries-c.ensures in
    let r = c.rung-r in
    let h = ahead _ _ _ c.if-climbed-to.true in
    let m = f.part.counted in
    let n = ap (λ (k : Rung). k.climb.rungs) r.ensures ∙ rung-counted _ _ _ c.entries-c.result in
    let part = partway-rung _ _ _ r.result.climb refl h (ap (λ (k : Rung). k.climb) r.ensures) f.part in
    elim c.if-this-ne0.branch [
      | then-this-ne0 w ↦ (
        record {
          part = part;
          filled = λ t.
              (writing-rung _ _ same-spreads _ _ _ r.result r.result.entry refl refl h (room _ _ c.args.from c.args.to _ c.if-climbed-to.true (p.3 t)) r.ensures refl (w.out-is ∙ w.put.ensures)
              (record { index = refl; reached = twice _ _; filled = f.filled t })).filled;
        },
        omega arith,
      )
      | else-this-ne0 w ↦ (record { part = part; filled = λ t. absurd (true≢false (sym (subst (λ (n : ℕ). WRITES-type (number n) ≡ true) w.if-this-ne0.false t))) }, omega arith)
    ]
