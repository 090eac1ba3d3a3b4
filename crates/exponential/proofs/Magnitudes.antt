-- What sinh and cosh share: the magnitude of an x from -705 to 705 is in the same range and not below 0, and what is by one formula below 1
-- and by exp's pair from 1 on is finite there where both formulas are. Assumes nothing.
use mathlib.Core.Path.{◌≡◌, refl, subst}
use mathlib.Core.Bool.{Bool, true, false, cond}
use native.Mathlib.Omega.{arith}
use lib.Dec.{T, lit<}
use lib.Ieee.{Float, nan, inf, fin, binary64, of_bits, neg, lt, le}
use lib.Ieee.Bits.{is_true}
use lib.Ieee.Order.{le_of_values}
use lib.Ieee.Positive.{num, den, den_pos}
use lib.Ieee.Scale.{finite}
use Rattle.laws.proofs.Order.{neg-anti, lt→le}
use Rattle.laws.proofs.Value.{bare}
use Rattle.machine.specs.declared.pair.Pair.{Pair}
use Rattle.exponential.specs.Exp.{limit, lower_limit, exp_pair, half_exp_far}
use Rattle.exponential.proofs.Ranges.{Parts}
use Rattle.exponential.proofs.ExpFacts.{pair_parts}

pub bare-not-below-zero : (x : Float) → T (le lower_limit x) → T (le (of_bits binary64 0) (bare x))
unfolding le lt lower_limit limit of_bits neg
bare-not-below-zero nan l = l
bare-not-below-zero (inf s) l = tt
bare-not-below-zero (fin s m e) l = le_of_values (of_bits binary64 0) (fin false m e) 0 1 (num (fin false m e)) (den (fin false m e)) (lit< tt) (den_pos (fin false m e)) (refl, refl) (refl, refl) (omega arith)

turned : neg lower_limit ≡ limit
unfolding lower_limit limit of_bits neg
turned = refl

pub bare-within : (x : Float) → T (le lower_limit x) → T (le x limit) → T (le lower_limit (bare x)) × T (le (bare x) limit)
unfolding le lt lower_limit limit of_bits neg
bare-within nan l h = (l, h)
bare-within (inf false) l h = (l, h)
bare-within (inf true) l h = absurd l
bare-within (fin false m e) l h = (l, h)
bare-within (fin true m e) l h = (neg-anti (fin true m e) limit h, subst (λ (z : Float). T (le (fin false m e) z)) turned (neg-anti lower_limit (fin true m e) l))

module _ (small : Float → Float) (wide : Pair → Float)
    (below_one : (a : Float) → T (le (of_bits binary64 0) a) → T (le a (of_bits binary64 0x3FF0000000000000)) → T (finite (small a)))
    (from_one : (p : Pair) → Parts p → T (finite (wide p))) where
  pub split-finite : (a : Float) → T (le (of_bits binary64 0) a) → T (le lower_limit a) → T (le a limit)
      → T (finite (cond (lt a (of_bits binary64 0x3FF0000000000000)) (small a) (cond (le a limit) (wide (exp_pair a)) (half_exp_far a))))
  split-finite a z l h = go (lt a (of_bits binary64 0x3FF0000000000000)) (λ (t : T (lt a (of_bits binary64 0x3FF0000000000000))). t)
    where
      go : (b : Bool) → (T b → T (lt a (of_bits binary64 0x3FF0000000000000))) → T (finite (cond b (small a) (cond (le a limit) (wide (exp_pair a)) (half_exp_far a))))
      go true k = below_one a z (lt→le a (of_bits binary64 0x3FF0000000000000) (k tt))
      go false k = simp (is_true (le a limit) h) (from_one (exp_pair a) (pair_parts a l h))
