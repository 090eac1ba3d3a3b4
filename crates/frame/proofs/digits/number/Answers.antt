-- `frame::digits::number` meets its contract: the number so far goes on with what is left of the digits. Assumes nothing.
use mathlib.Core.Path.{sym, ap, ◌∙◌}
use Prim.Native.Nat.{ℕ, ◌+◌, ◌*◌, ◌<◌}
use native.Mathlib.Omega.{arith}
use lib.ListN.{drop}
use Rattle.frame.specs.Digits.{number_from, number_of}
use Rattle.frame.proofs.DigitFacts.{digits-at, number-next, number-end, digits-below, digits-fit}
use Rattle.frame.proofs.digits.number.Goals as goal

pub overflow_mul-n : goal.overflow_mul-n
overflow_mul-n c = let d = c.loop-c in let h : d.c-index < 16 = omega (arith, c.requires.0) in omega (arith, digits-fit d.c-index d.n 0 h d.invariant.0 (omega arith))

pub worth-requires : goal.worth-requires
worth-requires c = digits-at _ c.loop-c.c-index c.requires.1 c.loop-c-test.true

pub overflow_add-n : goal.overflow_add-n
overflow_add-n c = let d = c.loop-c in let h : d.c-index < 16 = omega (arith, c.requires.0) in omega (arith, digits-fit d.c-index d.n c.worth.result h d.invariant.0 c.worth.ensures.1)

pub loop-c-preserved : goal.loop-c-preserved
loop-c-preserved c =
    let d = c.loop-c in
    let l = c.args.digits.now in (
      digits-below d.c-index d.n c.worth.result d.invariant.0 c.worth.ensures.1,
      d.invariant.1 ∙ number-next l d.c-index d.n c.loop-c-test.true ∙ ap (λ (k : ℕ). number_from (d.n * 16 + k) (drop (d.c-index + 1) l)) (sym c.worth.ensures.0),
    )

pub returns : goal.returns
unfolding number_of
returns c = sym (c.loop-c.invariant.1 ∙ number-end _ c.loop-c.c-index c.loop-c.n c.loop-c-test.false)
