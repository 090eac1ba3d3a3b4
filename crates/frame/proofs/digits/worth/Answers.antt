-- `frame::digits::worth` meets its contract: the formula is the worth of every digit. Assumes nothing.
use Prim.Native.Nat.{ℕ, ◌+◌, ◌*◌, ◌/◌, ◌%◌, ◌<◌}
use mathlib.Core.Path.{◌≡◌, sym, ap, ◌∙◌, subst}
use Rattle.frame.specs.Digits.{worth_of}
use Rattle.frame.proofs.DigitFacts.{digit-worth}
use Rattle.frame.proofs.digits.worth.Goals as goal

pub returns : goal.returns
returns c =
    let w = digit-worth c.args.c c.ranges.c.fits c.requires in
    let b = c.from-byte.result in
    let is : b % 16 + b / 64 * 9 ≡ worth_of c.args.c = ap (λ (k : ℕ). k % 16 + k / 64 * 9) c.from-byte.ensures ∙ w.0 in
    (is, subst (λ (k : ℕ). k < 16) (sym is) w.1)
