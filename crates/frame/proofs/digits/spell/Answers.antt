-- `frame::digits::spell` meets its contract: the digits from the last down to the first. Assumes nothing.
use mathlib.Core.Path.{sym, subst}
use Prim.Native.Nat.{ℕ, ◌+◌, ◌-◌, ◌/◌}
use lib.ListN.{set}
use Rattle.frame.proofs.SpellFacts.{Spelling, spelling-start, spelling-next, spelling-end}
use Rattle.frame.proofs.digits.spell.Goals as goal

pub loop-i-init : goal.loop-i-init
loop-i-init c = spelling-start _ _ _ _ c.requires

pub loop-i-preserved : goal.loop-i-preserved
loop-i-preserved c =
    let d = c.loop-i in
    let a = c.args in
    subst (λ (k : ℕ). Spelling a.n a.width a.at a.out.now (set d.out (a.at + (d.i - 1)) k) (d.rest / 16) (d.i - 1)) (sym c.digit.ensures)
    (spelling-next a.n a.width a.at a.out.now d.out d.rest d.i c.loop-i-test.true d.invariant)

pub returns : goal.returns
returns c = spelling-end _ _ _ _ _ _ _ c.loop-i-test.false c.loop-i.invariant
