-- `exponential::sinh::sinh` meets its contract: by the magnitude, and by the sign. Assumes nothing.
use mathlib.Core.Path.{◌≡◌, sym, ap, ◌∙◌, subst}
use lib.Dec.{T}
use lib.Ieee.{neg}
use lib.Ieee.Compare.{differs_from_itself}
use Rattle.std.proofs.Common.{rules}
use Rattle.laws.proofs.Value.{bare}
use Rattle.machine.proofs.NotANumber.{equals_itself}
use Rattle.machine.proofs.MagnitudeFacts.{bare-is, negative_sign}
use Rattle.exponential.specs.Sinh.{sinh_small, half_difference, sinh_magnitude, sinh_of}
use Rattle.exponential.proofs.Signs.{sinh-by-sign}
use Rattle.exponential.proofs.sinh.sinh.Goals as goal

pub returns-then-x : goal.returns-then-x
unfolding sinh_of
returns-then-x c = c.not_a_number.ensures ∙ ap sinh_of (sym (differs_from_itself c.args.x (subst T (sym c.if-x.true) tt)))

pub is_sign_negative-minus-requires : goal.is_sign_negative-minus-requires
is_sign_negative-minus-requires c = equals_itself c.args.x c.if-x.false

pub returns-then-minus : goal.returns-then-minus
unfolding sinh_magnitude
returns-then-minus c =
    let x = c.args.x in
    let m : c.by_magnitude-r.result ≡ sinh_magnitude c.magnitude.result = c.by_magnitude-r.ensures sinh_small half_difference (λ y z p. search rules) (λ y z p. search rules) in
    let r : c.by_magnitude-r.result ≡ sinh_magnitude (bare x) = m ∙ ap sinh_magnitude (c.magnitude.ensures ∙ sym (bare-is x)) in
    let s = sym (negative_sign x (equals_itself x c.if-x.false)) ∙ sym c.is_sign_negative-minus.ensures ∙ c.if-minus.true in
    ap neg r ∙ sym (sinh-by-sign x ∙ simp s)

pub returns-else-minus : goal.returns-else-minus
unfolding sinh_magnitude
returns-else-minus c =
    let x = c.args.x in
    let m : c.by_magnitude-r.result ≡ sinh_magnitude c.magnitude.result = c.by_magnitude-r.ensures sinh_small half_difference (λ y z p. search rules) (λ y z p. search rules) in
    let r : c.by_magnitude-r.result ≡ sinh_magnitude (bare x) = m ∙ ap sinh_magnitude (c.magnitude.ensures ∙ sym (bare-is x)) in
    let s = sym (negative_sign x (equals_itself x c.if-x.false)) ∙ sym c.is_sign_negative-minus.ensures ∙ c.if-minus.false in
    r ∙ sym (sinh-by-sign x ∙ simp s)
