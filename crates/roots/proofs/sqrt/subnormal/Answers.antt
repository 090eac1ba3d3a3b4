-- `roots::sqrt::subnormal` meets its contract: the shift brings the pattern to 53 digits, none of which is lost, and the root's digits and field are those of the definition. Assumes nothing.
use mathlib.Core.Path.{◌≡◌, sym, ap, ◌∙◌, subst}
use Prim.Native.Nat.{ℕ, ◌+◌, ◌-◌, ◌*◌, ◌/◌, ◌%◌, ◌^◌, ◌<◌}
use native.Mathlib.Nat.{mod-eq_of_lt, lt_trans}
use native.Mathlib.Omega.{arith}
use lib.Dec.{lit<}
use lib.Ieee.{binary64, of_bits}
use Rattle.laws.proofs.Bits.{bits-no-nan}
use Rattle.roots.specs.Sqrt.{nearest_root}
use Rattle.roots.proofs.RootPattern.{shift, brought, normal_digits, shift-range, brought-most, digits_lt, sqrt-subnormal}
use Rattle.roots.proofs.sqrt.subnormal.Goals as goal

-- nothing is shifted out
whole : (u : ℕ) → 0 < u → u < 2 ^ 52 → (u * 2 ^ shift u) % 2 ^ 64 ≡ u * 2 ^ shift u
whole u h l = mod-eq_of_lt (lt_trans (brought-most u h l) (lit< tt))

-- what the code brings the pattern to
made : (u : ℕ) → 0 < u → u < 2 ^ 52 → u * 2 ^ shift u % 2 ^ 64 + shift u * 2 ^ 63 % 2 ^ 64 / 2 ^ 11 ≡ brought u
made u h l = omega (arith, whole u h l)

-- the digits of the root
found : (u r v : ℕ) → 0 < u → u < 2 ^ 52 → v ≡ u * 2 ^ shift u % 2 ^ 64 + shift u * 2 ^ 63 % 2 ^ 64 / 2 ^ 11 → r ≡ nearest_root 53 (normal_digits v) → r ≡ nearest_root 53 (normal_digits (brought u))
found u r v h l a e = e ∙ ap (λ (t : ℕ). nearest_root 53 (normal_digits t)) (a ∙ made u h l)

few : (r v : ℕ) → r ≡ nearest_root 53 (normal_digits v) → r < 2 ^ 53
few r v e = subst (λ (t : ℕ). t < 2 ^ 53) (sym e) (digits_lt v)

-- nothing of the exponent is shifted out
field : (r s : ℕ) → r + (511 - (s + 1) / 2) * 2 ^ 52 % 2 ^ 64 ≡ r + (511 - (s + 1) / 2) * 2 ^ 52
field r s = omega arith

pub overflow_sub-s : goal.overflow_sub-s
overflow_sub-s c = omega (arith, shift-range c.args.u c.requires.0 c.requires.1)

pub overflow_shl-v : goal.overflow_shl-v
overflow_shl-v c = omega (arith, shift-range c.args.u c.requires.0 c.requires.1)

pub overflow_add-v : goal.overflow_add-v
overflow_add-v c = rw c.from-s.ensures (omega (arith, whole c.args.u c.requires.0 c.requires.1, brought-most c.args.u c.requires.0 c.requires.1))

pub digits-requires : goal.digits-requires
digits-requires c = rw c.from-s.ensures (omega (arith, whole c.args.u c.requires.0 c.requires.1, brought-most c.args.u c.requires.0 c.requires.1))

pub overflow_add-result : goal.overflow_add-result
overflow_add-result c = omega (arith, shift-range c.args.u c.requires.0 c.requires.1)

pub overflow_sub-result : goal.overflow_sub-result
overflow_sub-result c = omega (arith, shift-range c.args.u c.requires.0 c.requires.1)

pub overflow_add-result-2 : goal.overflow_add-result-2
overflow_add-result-2 c = omega (arith, few c.digits.result _ c.digits.ensures, shift-range c.args.u c.requires.0 c.requires.1)

pub float_from_bits-result : goal.float_from_bits-result
float_from_bits-result c = bits-no-nan _ (omega (arith, few c.digits.result _ c.digits.ensures, shift-range c.args.u c.requires.0 c.requires.1))

pub returns : goal.returns
returns c =
    let brought-by = ap (λ (s : ℕ). c.args.u * 2 ^ (s - 11) % 2 ^ 64 + (s - 11) * 2 ^ 63 % 2 ^ 64 / 2 ^ 11) c.from-s.ensures in
    ap (of_bits binary64) (field c.digits.result (c.from-s.result - 11))
    ∙ ap (λ (s : ℕ). of_bits binary64 (c.digits.result + (511 - (s - 11 + 1) / 2) * 2 ^ 52)) c.from-s.ensures
    ∙ ap (λ (t : ℕ). of_bits binary64 (t + (511 - (shift c.args.u + 1) / 2) * 2 ^ 52)) (found c.args.u c.digits.result _ c.requires.0 c.requires.1 brought-by c.digits.ensures)
    ∙ sym (sqrt-subnormal c.args.u c.requires.0 c.requires.1)
