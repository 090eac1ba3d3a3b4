-- `gamma_ln::series::further` meets its contract: before each turn the run that is left, from the state as it is, ends as the whole run
-- does. Assumes nothing.
use mathlib.Core.Path.{◌≡◌, refl, sym, ◌∙◌, subst}
use mathlib.Core.Bool.{true, false}
use Prim.Native.Nat.{ℕ, ◌-◌, ◌≤◌, ◌<◌}
use native.Mathlib.Omega.{arith}
use Rattle.laws.proofs.Run.{run-next, run-stop, run_end}
use Rattle.gamma_ln.specs.Coefficients.{coefficients}
use Rattle.gamma_ln.specs.declared.series.Terms.{Terms}
use Rattle.gamma_ln.specs.Series.{next_power, next_term, with_next, is_done, first_of, further_of}
use Rattle.gamma_ln.proofs.series.further.Goals as goal

pub loop-count-init : goal.loop-count-init
unfolding further_of first_of
loop-count-init c = refl

pub offset_bounds-coefficients-count : goal.offset_bounds-coefficients-count
offset_bounds-coefficients-count c = omega arith

pub bounds-coefficients-count : goal.bounds-coefficients-count
bounds-coefficients-count c = omega arith

pub returns-then-is_below : goal.returns-then-is_below
unfolding is_done next_term next_power coefficients
returns-then-is_below c =
    let d = c in
    let l = d.loop-count in
    let a = d.args in
    let stop = is_done a.square a.bound in
    let n = l.count in
    let s : Terms = record { power = l.power; sum = l.sum; count = n } in
    let e : stop n s ≡ true = simp (← c.is_below.ensures, c.if-is_below.true) in
    sym (l.invariant ∙ run-stop stop (with_next a.square) (22 - n) n s e)

pub loop-count-preserved : goal.loop-count-preserved
unfolding is_done with_next next_term next_power coefficients
loop-count-preserved c =
    let d = c in
    let l = d.loop-count in
    let a = d.args in
    let stop = is_done a.square a.bound in
    let n = l.count in
    let s : Terms = record { power = l.power; sum = l.sum; count = n } in
    let e : stop n s ≡ false = simp (← c.is_below.ensures, c.if-is_below.false) in
    let h : n < 22 = omega arith in
    l.invariant ∙ run-next stop (with_next a.square) 22 n s h e

pub returns : goal.returns
returns c =
    let l = c.loop-count in
    let a = c.args in
    let n = l.count in
    let s : Terms = record { power = l.power; sum = l.sum; count = n } in
    let e : n ≡ 22 = omega arith in
    let h : 22 ≤ n = omega arith in
    subst (λ (k : ℕ). ◌≡◌ {A = Terms} (record { power = l.power; sum = l.sum; count = k }) (further_of a.start a.first a.square a.bound)) e
    (sym (l.invariant ∙ run_end (is_done a.square a.bound) (with_next a.square) 22 n s h))
