-- `circular::reduce::halves` meets its contract: the code is the definition, operation by operation; the digits of no number are those of the fixed one.
-- Assumes nothing.
use mathlib.Core.Path.{◌≡◌, refl, sym, ap, ◌∙◌, subst}
use mathlib.Core.Bool.{true}
use lib.Dec.{T}
use lib.Ieee.{Float, nan, binary64, of_bits, to_bits, add, sub, mul, ne}
use lib.Ieee.Compare.{differs_from_itself}
use Rattle.machine.proofs.NotANumber.{equals_itself}
use Rattle.circular.specs.Reduce.{halves_of, leading}
use Rattle.circular.proofs.reduce.halves.Goals as goal
use Rattle.circular.proofs.reduce.halves.Goals.{then-r, else-r}

nan-leading : nan ≡ leading nan
unfolding leading of_bits to_bits
nan-leading = refl

of-none : (r h : Float) → ne r r ≡ true → h ≡ r → h ≡ leading r
of-none r h t e = let n = differs_from_itself r (subst T (sym t) tt) in e ∙ n ∙ nan-leading ∙ ap leading (sym n)

pub leading_digits-h-requires : goal.leading_digits-h-requires
leading_digits-h-requires c = equals_itself _ c.if-r.false

pub returns : goal.returns
unfolding halves_of leading
returns c =
    let a = c.args.a in
    let shift = of_bits binary64 0x4330000000000000 in
    let t = add binary64 (mul binary64 (of_bits binary64 0x4000000000000000) a) shift in
    let r = sub binary64 a (mul binary64 (of_bits binary64 0x3FE0000000000000) (sub binary64 t shift)) in
    let digits : c.if-r.h ≡ leading r =
    elim c.if-r.branch [
      | then-r w ↦ of-none r c.if-r.h w.if-r.true w.h-is
      | else-r w ↦ w.h-is ∙ w.leading_digits-h.ensures
    ]
    in
    simp (c.pattern-quarter.ensures, digits)
