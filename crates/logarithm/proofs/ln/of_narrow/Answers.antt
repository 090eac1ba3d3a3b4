-- `logarithm::ln::of_narrow` meets its contract: the shift is from 1 to 52 and loses no digit. Assumes nothing.
use mathlib.Core.Path.{◌≡◌, ap, ◌∙◌}
use Prim.Native.Nat.{ℕ, ◌-◌, ◌*◌, ◌%◌, ◌^◌}
use native.Mathlib.Nat.{lt_of_lt_of_le, mod-eq_of_lt}
use native.Mathlib.Omega.{arith}
use lib.Dec.{lit≤}
use lib.IntN.{pos}
use lib.Count.{count_leading_zeros}
use lib.Ieee.{Float, binary64, add, of_bits, of_int}
use Rattle.logarithm.specs.Ln.{ln_wide, ln_narrow}
use Rattle.logarithm.proofs.Width.{Shifted, shifted}
use Rattle.logarithm.proofs.ln.of_narrow.Goals as goal

-- the shift's result is below 2^64, so it is the product
kept : (bits : ℕ) → Shifted bits → bits * 2 ^ (count_leading_zeros 64 bits - 11) % 2 ^ 64 ≡ bits * 2 ^ (count_leading_zeros 64 bits - 11)
kept bits s = mod-eq_of_lt (lt_of_lt_of_le s.high (lit≤ tt))

pub overflow_sub-shift : goal.overflow_sub-shift
overflow_sub-shift c = omega (arith, (shifted c.args.bits c.requires.0 c.requires.1).some)

pub overflow_cast-shift : goal.overflow_cast-shift
overflow_cast-shift c = omega (arith, (shifted c.args.bits c.requires.0 c.requires.1).few)

pub overflow_shl-bits : goal.overflow_shl-bits
overflow_shl-bits c = omega (arith, (shifted c.args.bits c.requires.0 c.requires.1).few)

pub of_wide-requires : goal.of_wide-requires
of_wide-requires c =
    let s = shifted c.args.bits c.requires.0 c.requires.1 in
    rw (kept c.args.bits s) (lt_of_lt_of_le s.high (lit≤ tt))

pub returns : goal.returns
unfolding ln_narrow
returns c =
    let bits = c.args.bits in
    c.of_wide.ensures
    ∙ ap (λ (x : Float). ln_wide (bits * 2 ^ (count_leading_zeros 64 bits - 11) % 2 ^ 64) (add binary64 (of_bits binary64 0x408FF80000000000) x)) c.from.ensures
    ∙ ap (λ (n : ℕ). ln_wide n (add binary64 (of_bits binary64 0x408FF80000000000) (of_int binary64 (pos (count_leading_zeros 64 bits - 11)))))
    (kept bits (shifted bits c.requires.0 c.requires.1))
