-- The two ways of the series, shifted and not, in one: from 7 on the shift is 0, which leaves the argument and takes no factor. Assumes
-- nothing.
use mathlib.Core.Path.{◌≡◌, refl, sym, subst}
use mathlib.Core.Bool.{Bool, true, false, cond}
use lib.Dec.{T, eqb}
use lib.Ieee.{Float, binary64, of_bits, to_unsigned, in_unsigned, whole, le, lt}
use Rattle.laws.specs.Operators.{◌⊕◌, ◌⊖◌}
use Rattle.machine.specs.Constants.{gamma_ln_minimum}
use Rattle.machine.specs.Small.{nothing}
use Rattle.logarithm.specs.Ln.{ln_of}
use Rattle.gamma_ln.specs.declared.gamma_ln.Computed.{Computed}
use Rattle.gamma_ln.specs.Factors.{factors_of}
use Rattle.gamma_ln.specs.GammaLn.{stirling_of, shift_of, shifted_of}
use Rattle.gamma_ln.proofs.Arguments.{below-positive, shift-cast}

-- b says that the argument is below 7
abbrev shift_if : Bool → Float → Float
shift_if b x = cond b (shift_of x) nothing

abbrev pub one_way : Bool → Float → Computed
one_way b x =
    let above = stirling_of (cond b (x ⊕ shift_of x) x) in
    let n = to_unsigned 32 (shift_if b x) in
    let below = factors_of x n in
    cond (eqb n 0) above (record { value = above.value ⊖ ln_of below.product; factors = below.count; terms = above.terms })

pub both_ways : (b : Bool) (x : Float) → one_way b x ≡ cond b (shifted_of x) (stirling_of x)
unfolding shifted_of to_unsigned of_bits
both_ways true x = refl
both_ways false x = refl

pub shift_fits : (x : Float) → le x nothing ≡ false → T (in_unsigned binary64 32 (cond (lt x gamma_ln_minimum) (shift_of x) nothing))
unfolding of_bits in_unsigned whole
shift_fits x n = by (lt x gamma_ln_minimum) refl
  where
    by : (b : Bool) → lt x gamma_ln_minimum ≡ b → T (in_unsigned binary64 32 (shift_if b x))
    by true e = let t = subst T (sym e) tt in shift-cast x (below-positive x n t) t
    by false e = tt
