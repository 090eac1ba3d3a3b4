-- `power_series::series::power_series` meets its contract: below the underflow limit, order 0 alone, and the visit. The cells that came back
-- are those of the entries. Assumes nothing.
use mathlib.Core.Path.{◌≡◌, sym, ap, ◌∙◌}
use mathlib.Core.Bool.{Bool, false}
use mathlib.Core.List.{List}
use Prim.Native.Nat.{◌/◌}
use lib.Ieee.{Float}
use lib.ListN.{length}
use Rattle.std.proofs.Common.{rules}
use Rattle.machine.specs.Constants.{underflow_limit}
use Rattle.series_step.specs.Setting.{setting_of}
use Rattle.power_series.specs.Visit.{Visited, visit_of}
use Rattle.power_series.specs.Tiny.{tiny_of}
use Rattle.power_series.specs.Series.{power_series_if, power_series_of}
use Rattle.power_series.proofs.series.power_series.Goals as goal

pub returns-then-modulus : goal.returns-then-modulus
unfolding underflow_limit power_series_if power_series_of
returns-then-modulus c =
    let a = c.args in
    let t = c.tiny.ensures.visit in
    let same = ap (λ (l : List Float). tiny_of a.order a.modulus (length l / 2)) c.of-entries.ensures.cells in
    rw c.if-modulus.true (t.0 ∙ ap (λ (v : Visited). v.visit) same, search (rules, t.1 ∙ ap (λ (v : Visited). v.cells) same))

pub returns-then-is_alone : goal.returns-then-is_alone
unfolding underflow_limit power_series_if power_series_of
returns-then-is_alone c =
    let a = c.args in
    let t = c.alone.ensures.visit in
    let h = c.is_alone.ensures c.if-is_alone.true in
    let n : 1 ≡ length a.out.now / 2 = sym h.2 ∙ c.len.ensures ∙ ap (λ (l : List Float). length l / 2) c.of-entries.ensures.cells in
    let same =
    ap (visit_of (setting_of false a.turned a.order a.z a.modulus)) n
    ∙ ap (λ (b : Bool). visit_of (setting_of b a.turned a.order a.z a.modulus) (length a.out.now / 2)) (sym h.0) in
    rw c.if-modulus.false (t.0 ∙ ap (λ (v : Visited). v.visit) same, search (rules, t.1 ∙ ap (λ (v : Visited). v.cells) same))

pub returns : goal.returns
unfolding underflow_limit power_series_if power_series_of
returns c =
    let t = c.downward.ensures.visit in
    let same = ap (λ (l : List Float). visit_of c.prepare.result (length l / 2)) c.of-entries.ensures.cells in
    rw (c.if-modulus.false, ← c.prepare.ensures) (t.0 ∙ ap (λ (v : Visited). v.visit) same, search (rules, t.1 ∙ ap (λ (v : Visited). v.cells) same))
