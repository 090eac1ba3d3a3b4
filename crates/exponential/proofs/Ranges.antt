-- Where the parts of e^x lie once the reduced argument is from 0 to 1/32: no term is below 0, so the sum is above 0, and it is finite.
-- Each range is one test on literals, of the definition's own expression as data. Assumes nothing.
use mathlib.Core.Bool.{◌&&◌}
use mathlib.Core.List.{List, [], ◌∷◌}
use lib.Dec.{T}
use lib.Ieee.{Float, binary64, of_bits, neg}
use lib.Ieee.Scale.{finite}
use Rattle.laws.proofs.Interval.{Interval, iv, In, Expr, var, lit, sum, difference, product, quotient, share, eval, passes, Inside, Between, bounded, in-literals}
use Rattle.machine.specs.declared.pair.Pair.{Pair}
use Rattle.exponential.specs.Exp as exp
use Rattle.exponential.specs.Sinh.{half_difference}
use Rattle.exponential.specs.Cosh.{half_sum}
use Rattle.exponential.proofs.Entries.{coarse_highs, coarse_lows, fine_highs, fine_lows}

-- a bounded value, as the next step's variable
in_bounds : (l h z : Float) → Between l h z → T (finite l && finite h) → In (iv l h) z
in_bounds l h z b t = in-literals l h z t b.1 b.2

-- ---- the polynomial: from 0 to 1/16
abbrev pub reduced : Interval
reduced = iv (of_bits binary64 0) (of_bits binary64 0x3FA0000000000000)

abbrev growths : Interval
growths = iv (of_bits binary64 0) (of_bits binary64 0x3FB0000000000000)

growth-expr : Expr
growth-expr =
    let c2 = lit (of_bits binary64 0x3FE0000000000D62) in
    let c3 = lit (of_bits binary64 0x3FC55555551163E3) in
    let c4 = lit (of_bits binary64 0x3FA55555D21BA739) in
    let c5 = lit (of_bits binary64 0x3F8110A6CC0B647D) in
    let c6 = lit (of_bits binary64 0x3F5716B86F603ABE) in
    let z = var 0 in
    let g = var 1 in
    share (product (var 0) (var 0))
    (sum g (product z (sum (sum c2 (product g c3)) (product z (sum (sum c4 (product g c5)) (product z c6))))))

growth-test : T (passes binary64 (reduced ∷ []) growth-expr (of_bits binary64 0) (of_bits binary64 0x3FB0000000000000))
unfolding passes growth-expr
growth-test = tt

growth-in : (g : Float) → In reduced g → In growths (exp.growth g)
unfolding eval growth-expr exp.growth of_bits
growth-in g p =
    in_bounds (of_bits binary64 0) (of_bits binary64 0x3FB0000000000000) (exp.growth g)
    (bounded binary64 (reduced ∷ []) (g ∷ []) growth-expr (of_bits binary64 0) (of_bits binary64 0x3FB0000000000000) (p, tt) growth-test) tt

-- ---- the pair: hi from 1.375 * 2^-1022 to 1.5 * 2^1021, lo from 0 to 2^1018
abbrev pub highs : Interval
highs = iv (of_bits binary64 0x0016000000000000) (of_bits binary64 0x7FC8000000000000)

abbrev pub lows : Interval
lows = iv (of_bits binary64 0) (of_bits binary64 0x7F90000000000000)

abbrev factors : List Interval
factors = coarse_highs ∷ coarse_lows ∷ fine_highs ∷ fine_lows ∷ growths ∷ []

high-expr : Expr
high-expr = product (var 0) (var 2)

low-expr : Expr
low-expr =
    share (product (var 0) (var 2))
    (share (sum (product (var 1) (var 4)) (product (var 2) (sum (var 3) (var 4))))
    (sum (var 0) (product (sum (var 1) (var 0)) (var 6))))

high-test : T (passes binary64 factors high-expr (of_bits binary64 0x0016000000000000) (of_bits binary64 0x7FC8000000000000))
unfolding passes high-expr
high-test = tt

low-test : T (passes binary64 factors low-expr (of_bits binary64 0) (of_bits binary64 0x7F90000000000000))
unfolding passes low-expr
low-test = tt

pub record Parts (p : Pair) : Type 0 where
  pub high : In highs p.hi
  pub low : In lows p.lo

-- two powers from the tables
pub record Powers (e f : Pair) : Type 0 where
  pub coarse-high : In coarse_highs e.hi
  pub coarse-low : In coarse_lows e.lo
  pub fine-high : In fine_highs f.hi
  pub fine-low : In fine_lows f.lo

pub product-parts : (e f : Pair) (g : Float) → Powers e f → In reduced g → Parts (exp.product e f (exp.growth g))
unfolding eval high-expr low-expr exp.product of_bits
product-parts e f g w r =
    let p = exp.product e f (exp.growth g) in
    let ρ = e.hi ∷ e.lo ∷ f.hi ∷ f.lo ∷ exp.growth g ∷ [] in
    let i : Inside factors ρ = (w.coarse-high, (w.coarse-low, (w.fine-high, (w.fine-low, (growth-in g r, tt))))) in
    record {
      high = in_bounds (of_bits binary64 0x0016000000000000) (of_bits binary64 0x7FC8000000000000) p.hi (bounded binary64 factors ρ high-expr (of_bits binary64 0x0016000000000000) (of_bits binary64 0x7FC8000000000000) i high-test) tt;
      low = in_bounds (of_bits binary64 0) (of_bits binary64 0x7F90000000000000) p.lo (bounded binary64 factors ρ low-expr (of_bits binary64 0) (of_bits binary64 0x7F90000000000000) i low-test) tt;
    }

-- ---- what is made of a pair
module _ (p : Pair) (w : Parts p) where
  pub total-between : Between (of_bits binary64 0x0016000000000000) (of_bits binary64 0x7FD0000000000000) (exp.total p)
  unfolding eval exp.total passes
  total-between =
      bounded binary64 (highs ∷ lows ∷ []) (p.hi ∷ p.lo ∷ []) (sum (var 0) (var 1)) (of_bits binary64 0x0016000000000000) (of_bits binary64 0x7FD0000000000000) (w.high, (w.low, tt)) tt

  pub difference-finite : T (finite (half_difference p))
  unfolding eval half_difference passes
  difference-finite =
      (bounded binary64 (highs ∷ lows ∷ []) (p.hi ∷ p.lo ∷ [])
      (product (lit (of_bits binary64 0x3FE0000000000000)) (sum (var 0) (difference (var 1) (quotient (lit (of_bits binary64 0x3FF0000000000000)) (sum (var 0) (var 1))))))
      (neg (of_bits binary64 0x7FD0000000000000)) (of_bits binary64 0x7FD0000000000000) (w.high, (w.low, tt)) tt).0

  pub sum-finite : T (finite (half_sum p))
  unfolding eval half_sum passes
  sum-finite =
      (bounded binary64 (highs ∷ lows ∷ []) (p.hi ∷ p.lo ∷ [])
      (product (lit (of_bits binary64 0x3FE0000000000000)) (sum (var 0) (sum (var 1) (quotient (lit (of_bits binary64 0x3FF0000000000000)) (sum (var 0) (var 1))))))
      (of_bits binary64 0) (of_bits binary64 0x7FD0000000000000) (w.high, (w.low, tt)) tt).0
