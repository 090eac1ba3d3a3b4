-- `roots::hypot::hypot` meets its contract: a sum of squares within the range has finite parts, so that only their zeros are left to tell apart. Assumes nothing.
use mathlib.Core.Path.{◌≡◌, sym, subst, ◌∙◌}
use mathlib.Core.Bool.{true}
use lib.Dec.{T}
use lib.Ieee.{Float, of_bits, le}
use lib.Ieee.Scale.{finite}
use Rattle.laws.proofs.Value.{finite-no-nan}
use Rattle.roots.specs.Hypot.{sum_of_squares, least_sum, greatest_sum}
use Rattle.roots.proofs.HypotCases.{within-range, zero_left, zero_right, full, full-within}
use Rattle.roots.proofs.hypot.hypot.Goals as goal

-- the finite parts, by the two tests
inside : (x y : Float) → le least_sum (sum_of_squares x y) ≡ true → le (sum_of_squares x y) greatest_sum ≡ true → T (finite (sum_of_squares x y)) × T (finite x) × T (finite y)
inside x y l u = within-range x y (subst T (sym l) tt) (subst T (sym u) tt)

pub returns-then-x : goal.returns-then-x
unfolding of_bits sum_of_squares least_sum greatest_sum
returns-then-x c = let i = inside c.args.x c.args.y c.if-s.true c.if-s-2.true in c.magnitude.ensures ∙ sym (zero_left _ _ i.1 i.2 c.if-x.true)

pub returns-then-y : goal.returns-then-y
unfolding of_bits sum_of_squares least_sum greatest_sum
returns-then-y c = let i = inside c.args.x c.args.y c.if-s.true c.if-s-2.true in c.magnitude-then-y.ensures ∙ sym (zero_right _ _ i.1 i.2 c.if-x.false c.if-y.true)

pub float_to_bits-u : goal.float_to_bits-u
unfolding sum_of_squares least_sum greatest_sum
float_to_bits-u c = finite-no-nan _ (inside c.args.x c.args.y c.if-s.true c.if-s-2.true).0

-- between the two tests of the range the full length is the root of the sum itself
pub returns-then-s-2 : goal.returns-then-s-2
unfolding of_bits sum_of_squares least_sum greatest_sum
returns-then-s-2 c =
    let i = inside c.args.x c.args.y c.if-s.true c.if-s-2.true in
    rw c.root.ensures
    (sym
    (full _ _ i.1 i.2 c.if-x.false c.if-y.false
    ∙ full-within _ _ c.if-s.true c.if-s-2.true))

pub outside-requires : goal.outside-requires
unfolding sum_of_squares least_sum greatest_sum
outside-requires c = simp (c.if-s.true, c.if-s-2.false)

pub outside-requires-2 : goal.outside-requires-2
unfolding sum_of_squares least_sum greatest_sum
outside-requires-2 c = simp c.if-s.false
