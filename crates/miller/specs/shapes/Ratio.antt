-- How it is computed, not what: the ratio of the two seeds is worked out before the first of them, and the second is their product; where
-- one value alone is asked for, neither is worked out. By the operations of either kind of number. The seeds themselves are those of
-- specs/Seeds.antt, proofs/RatioFacts.antt. Definitions only.
use Rattle.std.specs.Prelude.{Bool, cond, Float}
use Rattle.machine.specs.Small.{nothing, half, one}
use Rattle.miller.specs.declared.backward.Steps.{Steps}
use Rattle.miller.specs.shapes.Operations.{Operations}

module _ {A : Type 0} (does : Operations A) where
  -- label 200 (specs/Seeds.antt)
  unfoldable pub ratio_of : A → Float → Steps A → A
  ratio_of z fraction s =
      let length = does.modulus s.newer in
      let ratio = does.product (does.over_real s.older length) (does.over_real (does.conjugate s.newer) length) in
      does.plus_real (does.quotient (does.plus_real (does.plus_real (does.opposite ratio) fraction) half) z) one

  unfoldable pub ratio_unless : Bool → A → Float → Steps A → A
  ratio_unless alone z fraction s = cond alone (does.from_real nothing) (ratio_of z fraction s)

  unfoldable pub product_unless : Bool → A → A → A
  product_unless alone ratio first = cond alone (does.from_real nothing) (does.product ratio first)
