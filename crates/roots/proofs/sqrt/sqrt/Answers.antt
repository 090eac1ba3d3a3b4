-- `roots::sqrt::sqrt` meets its contract: the pattern tells the cases of the definition apart. Assumes nothing.
use mathlib.Core.Path.{◌≡◌, sym, ap, ◌∙◌, subst}
use mathlib.Core.Bool.{true}
use Prim.Native.Nat.{ℕ, ◌+◌, ◌*◌, ◌%◌, ◌^◌, ◌≤◌, ◌<◌}
use native.Mathlib.Omega.{arith}
use lib.Dec.{T}
use lib.Arith.{lt_of_le-ne}
use lib.Ieee.{Float, binary64, of_bits, to_bits, fits}
use lib.Ieee.Bits.{of_bits-to_bits}
use Rattle.laws.proofs.Bits.{inf_bits, bits-no-nan}
use Rattle.roots.specs.Sqrt.{nearest_root, sqrt_of}
use Rattle.roots.proofs.RootPattern.{normal_digits, normal_field, digits_lt, sqrt-normal}
use Rattle.roots.proofs.SqrtCases.{sqrt-zero, sqrt-infinite, sqrt-minus-zero, sqrt-nan}
use Rattle.roots.proofs.sqrt.sqrt.Goals as goal

-- the argument is its pattern's value
again : (x : Float) (u : ℕ) → fits binary64 x ≡ true → u ≡ to_bits binary64 x → of_bits binary64 u ≡ x
again x u h e = ap (of_bits binary64) e ∙ of_bits-to_bits binary64 x (subst T (sym h) tt)

few : (r u : ℕ) → r ≡ nearest_root 53 (normal_digits u) → r < 2 ^ 53
few r u e = subst (λ (t : ℕ). t < 2 ^ 53) (sym e) (digits_lt u)

above : (u : ℕ) → inf_bits ≤ u → (u ≡ inf_bits → ⊥) → inf_bits < u
above u l h = lt_of_le-ne l (λ k. h (sym k))

pub overflow_add-result-then-u-ge4503599627370496 : goal.overflow_add-result-then-u-ge4503599627370496
overflow_add-result-then-u-ge4503599627370496 c = omega (arith, few c.digits.result _ c.digits.ensures)

pub float_from_bits-result : goal.float_from_bits-result
float_from_bits-result c = bits-no-nan _ (omega (arith, few c.digits.result _ c.digits.ensures))

pub returns-then-u-ge4503599627370496 : goal.returns-then-u-ge4503599627370496
returns-then-u-ge4503599627370496 c =
    let u = c.pattern-u.result in
    let r = c.digits.result in
    let e : r + normal_field u * 2 ^ 52 % 2 ^ 64 ≡ r + normal_field u * 2 ^ 52 = omega (arith, c.if-u-lt9218868437227405312.true) in
    ap (of_bits binary64) e ∙ ap (λ (t : ℕ). of_bits binary64 (t + normal_field u * 2 ^ 52)) c.digits.ensures ∙ sym (sqrt-normal u c.if-u-ge4503599627370496.true c.if-u-lt9218868437227405312.true) ∙ ap sqrt_of (again c.args.x c.pattern-u.result c.well_formed.0.1 c.pattern-u.ensures)

pub returns-then-u-eq0 : goal.returns-then-u-eq0
returns-then-u-eq0 c = sqrt-zero _ _ (again c.args.x c.pattern-u.result c.well_formed.0.1 c.pattern-u.ensures) c.if-u-eq0.true

pub returns-then-u-lt9218868437227405312 : goal.returns-then-u-lt9218868437227405312
returns-then-u-lt9218868437227405312 c = c.subnormal.ensures ∙ ap sqrt_of (again c.args.x c.pattern-u.result c.well_formed.0.1 c.pattern-u.ensures)

pub returns-then-u-eq9218868437227405312 : goal.returns-then-u-eq9218868437227405312
returns-then-u-eq9218868437227405312 c = sqrt-infinite _ _ (again c.args.x c.pattern-u.result c.well_formed.0.1 c.pattern-u.ensures) c.if-u-eq9218868437227405312.true

pub returns-then-u : goal.returns-then-u
returns-then-u c = sqrt-minus-zero _ _ (again c.args.x c.pattern-u.result c.well_formed.0.1 c.pattern-u.ensures) c.if-u.true

pub returns : goal.returns
returns c =
    let e = c.pattern-u.ensures in
    c.not_a_number.ensures
    ∙ sym
    (sqrt-nan _ (subst T (sym c.well_formed.0.1) tt)
    (subst (λ (t : ℕ). inf_bits < t) e (above c.pattern-u.result c.if-u-lt9218868437227405312.false c.if-u-eq9218868437227405312.false))
    (λ h. c.if-u.false (e ∙ h)))
