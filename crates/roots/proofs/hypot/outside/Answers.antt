-- `roots::hypot::outside` meets its contract: its tests follow the definition's cases, and a sum not below the range is above it. Assumes nothing.
use mathlib.Core.Path.{◌≡◌, sym, ◌∙◌}
use mathlib.Core.Bool.{Bool, true, false, ◌&&◌}
use lib.Dec.{T}
use lib.Ieee.{Float, of_bits, div, ne}
use lib.Ieee.Scale.{finite}
use Rattle.machine.proofs.NotANumber.{equals_itself}
use Rattle.roots.specs.Hypot.{sum_of_squares, least_sum, larger, smaller, infinite}
use Rattle.std.specs.Float.{float_is_infinite}
use Rattle.roots.proofs.HypotCases.{infinite-is, infinite-left, infinite-right, nan_left, nan_right, finite-of, zero_left, zero_right, full, full-above, full-below}
use Rattle.roots.proofs.hypot.outside.Goals as goal
use Rattle.roots.proofs.hypot.outside.Goals.{then-is_infinite-via-then-is_infinite, then-is_infinite-via-else-is_infinite+then-is_infinite-2, then-x-via-then-x, then-x-via-else-x+then-y}

test : {b : Bool} (x : Float) (i : Bool) → i ≡ float_is_infinite x → i ≡ b → infinite x ≡ b
test x i e f = sym (infinite-is x) ∙ sym e ∙ f

-- a part that is neither infinite nor a not-a-number
number : (x : Float) (i : Bool) → i ≡ float_is_infinite x → i ≡ false → ne x x ≡ false → T (finite x)
number x i e f h = finite-of x (test x i e f) (equals_itself x h)

second : (a b : Bool) → (a && b) ≡ false → a ≡ true → b ≡ false
second a b e h = rw h at e

pub returns-then-is_infinite : goal.returns-then-is_infinite
unfolding of_bits div
returns-then-is_infinite c =
    sym
    (elim c.then-is_infinite.branch [
      | then-is_infinite-via-then-is_infinite w ↦ infinite-left _ _ (test c.args.x _ c.is_infinite.ensures.value w.if-is_infinite.true)
      | then-is_infinite-via-else-is_infinite+then-is_infinite-2 w ↦ infinite-right _ _ (test c.args.y _ w.is_infinite-else-is_infinite.ensures.value w.if-is_infinite-2.true)
    ])

pub returns-then-x : goal.returns-then-x
returns-then-x c =
    c.not_a_number.ensures
    ∙ sym
    (elim c.then-x.branch [
      | then-x-via-then-x w ↦ nan_left _ _ w.if-x.true (test c.args.y _ c.is_infinite-else-is_infinite.ensures.value c.if-is_infinite-2.false)
      | then-x-via-else-x+then-y w ↦ nan_right _ _ w.if-y.true (test c.args.x _ c.is_infinite.ensures.value c.if-is_infinite.false)
    ])

pub returns-then-x-2 : goal.returns-then-x-2
unfolding of_bits
returns-then-x-2 c = c.magnitude.ensures ∙ sym (zero_left _ _ (number c.args.x _ c.is_infinite.ensures.value c.if-is_infinite.false c.if-x.false) (number c.args.y _ c.is_infinite-else-is_infinite.ensures.value c.if-is_infinite-2.false c.if-y.false) c.if-x-2.true)

pub returns-then-y-2 : goal.returns-then-y-2
unfolding of_bits
returns-then-y-2 c = c.magnitude-then-y-2.ensures ∙ sym (zero_right _ _ (number c.args.x _ c.is_infinite.ensures.value c.if-is_infinite.false c.if-x.false) (number c.args.y _ c.is_infinite-else-is_infinite.ensures.value c.if-is_infinite-2.false c.if-y.false) c.if-x-2.false c.if-y-2.true)

pub returns-then-x-y : goal.returns-then-x-y
unfolding of_bits sum_of_squares least_sum smaller larger
returns-then-x-y c = c.scaled.ensures ∙ sym (full _ _ (number c.args.x _ c.is_infinite.ensures.value c.if-is_infinite.false c.if-x.false) (number c.args.y _ c.is_infinite-else-is_infinite.ensures.value c.if-is_infinite-2.false c.if-y.false) c.if-x-2.false c.if-y-2.false ∙ full-above _ _ c.if-x-y.true (second _ _ c.requires c.if-x-y.true))

pub returns : goal.returns
unfolding of_bits sum_of_squares least_sum smaller larger
returns c = c.scaled-2.ensures ∙ sym (full _ _ (number c.args.x _ c.is_infinite.ensures.value c.if-is_infinite.false c.if-x.false) (number c.args.y _ c.is_infinite-else-is_infinite.ensures.value c.if-is_infinite-2.false c.if-y.false) c.if-x-2.false c.if-y-2.false ∙ full-below _ _ c.if-x-y.false)
