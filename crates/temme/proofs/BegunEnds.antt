-- What Temme's seeds begin at a fraction from -1/2 to 1/2 and |z| ≤ 2 ends by its own test. Assumes nothing.
use mathlib.Core.Path.{refl, sym, subst}
use lib.Dec.{T}
use lib.Ieee.{Float, binary64, of_bits, neg, add, le}
use lib.Ieee.Positive.{positive, between}
use Rattle.laws.proofs.Interval.{iv, add_i, checked, add-in, in-literals}
use Rattle.machine.specs.Small.{half, one, two}
use Rattle.complex.specs.declared.number.Complex.{Complex}
use Rattle.gamma_ln.proofs.Counts.{series-ends}
use Rattle.temme.specs.Difference.{fraction_square}
use Rattle.temme.specs.Gammas.{difference_quotient, gammas_of}
use Rattle.temme.specs.Seeds.{seeds_of}
use Rattle.temme.specs.Begun.{total_of, is_begun, takes_difference, gamma_asked, MadeOf, EndByTests}
use Rattle.temme.proofs.TemmeBound.{temme-ends}
use Rattle.temme.proofs.DifferenceBound.{difference-ends}

pub made_of : (z : Complex) (m : Float) (l : Complex) (v w : Float) → MadeOf z m l v w
unfolding seeds_of total_of gammas_of gamma_asked takes_difference difference_quotient
made_of z m l v w = record { first = refl; second = refl; terms = refl; plus = refl; difference = λ e. rw e }

-- 1 + ν lies between 1/2 and 3/2
above_zero : (v : Float) → T (le (neg half) v) → T (le v half) → T (positive (gamma_asked v))
unfolding gamma_asked of_bits neg add add_i checked le
above_zero v a b =
    let r = add-in binary64 (iv one one) (iv (neg half) half) one v (in-literals one one one tt tt tt) (in-literals (neg half) half v tt a b) tt in
    between half (add binary64 one v) (of_bits binary64 0x3FF8000000000000) tt tt r.2 r.3

pub begun-end : (z : Complex) (m : Float) (l : Complex) (v : Float) → T (le m two) → T (le (neg half) v) → T (le v half) → EndByTests z m l v (fraction_square v)
unfolding total_of is_begun takes_difference
begun-end z m l v h a b =
    let p = above_zero v a b in
    record {
      sum = λ e. temme-ends z m v (fraction_square v) h _ _ _ _ (subst T (sym e) tt);
      difference = λ e. difference-ends v (subst T (sym e) tt);
      above = p;
      log-gamma = series-ends (gamma_asked v) p;
    }
