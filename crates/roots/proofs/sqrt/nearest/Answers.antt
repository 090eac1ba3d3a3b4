-- `roots::sqrt::nearest` meets its contract: at every turn of the loop what is left is the number less the square so far, and below the next digit's step. Assumes nothing.
use mathlib.Core.Path.{sym, ap, ◌∙◌, subst}
use Prim.Native.Nat.{ℕ, ◌+◌, ◌/◌, ◌≤◌}
use native.Mathlib.Omega.{arith}
use Rattle.roots.proofs.Digits.{first, sizes, next, ended, at_most_one}
use Rattle.roots.proofs.sqrt.nearest.Goals as goal

pub overflow_sub-left : goal.overflow_sub-left
overflow_sub-left c = omega arith

pub loop-unit-init : goal.loop-unit-init
loop-unit-init c = first _ _ c.requires.0 c.requires.1 (omega arith)

-- no number of a turn leaves 64 bits
pub overflow_add-trial : goal.overflow_add-trial
overflow_add-trial c = let l = c.loop-unit in omega (arith, sizes _ l.left l.twice l.unit l.invariant)

pub overflow_add-trial-in-loop-unit : goal.overflow_add-trial-in-loop-unit
overflow_add-trial-in-loop-unit c = let l = c.loop-unit in omega (arith, sizes _ l.left l.twice l.unit l.invariant)

pub overflow_add-trial-in-loop-unit-2 : goal.overflow_add-trial-in-loop-unit-2
overflow_add-trial-in-loop-unit-2 c = let l = c.loop-unit in omega (arith, sizes _ l.left l.twice l.unit l.invariant)

pub overflow_add-left : goal.overflow_add-left
overflow_add-left c = let l = c.loop-unit in omega (arith, sizes _ l.left l.twice l.unit l.invariant)

pub overflow_sub-left-in-loop-unit : goal.overflow_sub-left-in-loop-unit
overflow_sub-left-in-loop-unit c =
    let l = c.loop-unit in
    subst (λ (o : ℕ). o ≤ l.left + l.left) (sym c.chosen-off.ensures) (next _ l.left l.twice l.unit l.invariant (omega (arith, c.loop-unit-test.true))).0

pub loop-unit-smaller : goal.loop-unit-smaller
loop-unit-smaller c = omega (arith, c.loop-unit-test.true)

pub loop-unit-preserved : goal.loop-unit-preserved
loop-unit-preserved c =
    let l = c.loop-unit in
    rw (c.chosen-off.ensures, c.chosen-twice.ensures) (next _ l.left l.twice l.unit l.invariant (omega (arith, c.loop-unit-test.true))).1

pub overflow_add-result : goal.overflow_add-result
overflow_add-result c =
    let l = c.loop-unit in
    omega (arith, at_most_one _ l.twice l.left c.chosen.ensures, sizes _ l.left l.twice l.unit l.invariant)

pub returns : goal.returns
returns c =
    let l = c.loop-unit in
    ap (λ (v : ℕ). l.twice / 2 + v) c.chosen.ensures ∙ ended c.args.n l.left l.twice l.unit (omega (arith, c.requires.0)) c.requires.1 l.invariant (omega (arith, c.loop-unit-test.false))
