-- The limit of a state: it is above zero, and a value of which no part is above it does not end the state. Assumes nothing.
use mathlib.Core.Path.{◌≡◌, refl, sym, ap, ◌∙◌, subst}
use mathlib.Core.Bool.{Bool, true, false, true≢false, ◌||◌}
use mathlib.Core.Logic.{◌⊎◌, inl, inr}
use Prim.Native.Nat.{◌+◌, ◌*◌}
use native.Mathlib.Omega.{arith}
use borrow.Author.Tests.{le-ltb}
use lib.Dec.{T}
use lib.Ieee.{Float, nan, inf, fin, binary64, of_bits, up, down, neg, lt, le, mul, div, round, size}
use lib.Ieee.Scale.{finite}
use Rattle.laws.proofs.Order.{nought, le→Le, not-lt→le, mul-mono-pos}
use Rattle.machine.specs.Constants.{tolerance, inverse_tolerance, absolute_approximation_limit}
use Rattle.complex.specs.declared.number.Complex.{Complex}
use Rattle.complex.specs.Arithmetic.{times_real}
use Rattle.machine.specs.Magnitude.{magnitude_of}
use Rattle.recurrence.specs.State.{reciprocal_of, boundary_of, limit_of}
use Rattle.recurrence.specs.Rung.{exceeds, passes}
use Rattle.recurrence.specs.declared.state.OverflowState.{OverflowState}
use Rattle.recurrence.specs.declared.state.OverflowState.TheVariants.{NearUnder, None, NearOver}
use Rattle.machine.proofs.MagnitudeFacts.{above-magnitude}

pub limit-positive : (s : OverflowState) → T (lt (of_bits binary64 0) (limit_of s))
unfolding limit_of absolute_approximation_limit inverse_tolerance of_bits lt mul div round size
limit-positive NearUnder = tt
limit-positive None = tt
limit-positive NearOver = tt

le-not-above : (x y : Float) → T (le x y) → lt y x ≡ false
unfolding le lt
le-not-above nan y h = absurd h
le-not-above (inf s) nan h = absurd h
le-not-above (inf true) (inf true) h = refl
le-not-above (inf true) (inf false) h = refl
le-not-above (inf false) (inf true) h = absurd h
le-not-above (inf false) (inf false) h = refl
le-not-above (inf true) (fin t n d) h = refl
le-not-above (inf false) (fin t n d) h = absurd h
le-not-above (fin s m e) nan h = absurd h
le-not-above (fin s m e) (inf true) h = absurd h
le-not-above (fin s m e) (inf false) h = refl
le-not-above (fin false m e) (fin false n d) h =
    let k = le→Le (fin false m e) (fin false n d) tt tt h in
    le-ltb (n * up d * down e) (m * up e * down d) (omega arith)
le-not-above (fin false m e) (fin true n d) h =
    let k = le→Le (fin false m e) (fin true n d) tt tt h in
    le-ltb 0 (n * up d * down e + m * up e * down d) (omega arith)
le-not-above (fin true m e) (fin false n d) h = refl
le-not-above (fin true m e) (fin true n d) h =
    let k = le→Le (fin true m e) (fin true n d) tt tt h in
    le-ltb (m * up e * down d) (n * up d * down e) (omega arith)

not-above-nan : (x : Float) → lt x nan ≡ false
unfolding lt
not-above-nan nan = refl
not-above-nan (inf s) = refl
not-above-nan (fin s m e) = refl

-- of a finite bound: what is neither above it nor below its negative is finite or no number
bounded : (l x : Float) → T (finite l) → lt l x ≡ false → lt x (neg l) ≡ false → T (finite x) ⊎ (x ≡ nan)
unfolding lt neg
bounded nan x p a b = absurd p
bounded (inf s) x p a b = absurd p
bounded (fin s m e) nan p a b = inr refl
bounded (fin s m e) (inf true) p a b = absurd (true≢false b)
bounded (fin s m e) (inf false) p a b = absurd (true≢false a)
bounded (fin s m e) (fin t n d) p a b = inl tt

or_l : (a b : Bool) → a || b ≡ false → a ≡ false
or_l true b h = h
or_l false b h = refl

or_r : (a b : Bool) → a || b ≡ false → b ≡ false
or_r true b h = absurd (true≢false h)
or_r false b h = h

neither : (a b : Bool) → a ≡ false → b ≡ false → a || b ≡ false
neither a b p q = rw (p, q)

-- a bound l, times r, is the bound b: so a value within the one is within the other after the product
module _ (l b r : Float) (above : T (lt (of_bits binary64 0) l)) (above' : T (lt (of_bits binary64 0) b)) (p : T (finite l)) (n : T (finite (neg l))) (q : T (finite r)) (s : T (le nought r))
    (up-end : mul binary64 l r ≡ b) (down-end : mul binary64 (neg l) r ≡ neg b) where
  product-within : (x : Float) → lt l (magnitude_of x) ≡ false → lt b (magnitude_of (mul binary64 x r)) ≡ false
  unfolding lt mul
  product-within x h = above-magnitude b (mul binary64 x r) above' ∙ both (bounded l x p over under)
    where
      parts : lt l x || lt x (neg l) ≡ false
      parts = sym (above-magnitude l x above) ∙ h

      over : lt l x ≡ false
      over = or_l (lt l x) (lt x (neg l)) parts

      under : lt x (neg l) ≡ false
      under = or_r (lt l x) (lt x (neg l)) parts

      both : T (finite x) ⊎ (x ≡ nan) → lt b (mul binary64 x r) || lt (mul binary64 x r) (neg b) ≡ false
      both (inl f) =
          neither (lt b (mul binary64 x r)) (lt (mul binary64 x r) (neg b))
          (le-not-above (mul binary64 x r) b (subst (λ (t : Float). T (le (mul binary64 x r) t)) up-end (mul-mono-pos binary64 x l r f p q s (not-lt→le l x p f over))))
          (le-not-above (neg b) (mul binary64 x r) (subst (λ (t : Float). T (le t (mul binary64 x r))) down-end (mul-mono-pos binary64 (neg l) x r n f q s (not-lt→le x (neg l) f n under))))
      both (inr e) = ap (λ (t : Float). lt b (mul binary64 t r) || lt (mul binary64 t r) (neg b)) e ∙ neither (lt b nan) (lt nan (neg b)) (not-above-nan b) refl

under_stays : (x : Float) → lt (limit_of NearUnder) (magnitude_of x) ≡ false → lt (boundary_of NearUnder) (magnitude_of (mul binary64 x (reciprocal_of NearUnder))) ≡ false
unfolding limit_of boundary_of reciprocal_of tolerance inverse_tolerance absolute_approximation_limit of_bits neg lt le mul div round size
under_stays = product-within (limit_of NearUnder) (boundary_of NearUnder) (reciprocal_of NearUnder) tt tt tt tt tt tt refl refl

-- 1/A
over_limit : Float
over_limit = of_bits binary64 0x7BF0624DD2F1A9FC

none-limit : limit_of None ≡ over_limit
unfolding limit_of over_limit absolute_approximation_limit of_bits div round size
none-limit = refl

same-bound : limit_of None ≡ boundary_of None
unfolding limit_of boundary_of
same-bound = refl

over-stays : (x : Float) → lt over_limit (magnitude_of x) ≡ false → lt over_limit (magnitude_of (mul binary64 x (reciprocal_of None))) ≡ false
unfolding over_limit reciprocal_of of_bits neg lt le mul round size
over-stays = product-within over_limit over_limit (reciprocal_of None) tt tt tt tt tt tt refl refl

none_stays : (x : Float) → lt (limit_of None) (magnitude_of x) ≡ false → lt (boundary_of None) (magnitude_of (mul binary64 x (reciprocal_of None))) ≡ false
none_stays x h =
    subst (λ (b : Float). lt b (magnitude_of (mul binary64 x (reciprocal_of None))) ≡ false) (sym none-limit ∙ same-bound)
    (over-stays x (subst (λ (b : Float). lt b (magnitude_of x) ≡ false) none-limit h))

pub limit-stays : (s : OverflowState) (w : Complex) → exceeds (limit_of s) w ≡ false → passes s (times_real w (reciprocal_of s)) ≡ false
unfolding exceeds passes times_real
limit-stays s w h = each s (or_l (lt (limit_of s) (magnitude_of w.re)) (lt (limit_of s) (magnitude_of w.im)) h) (or_r (lt (limit_of s) (magnitude_of w.re)) (lt (limit_of s) (magnitude_of w.im)) h)
  where
    each : (s : OverflowState) → lt (limit_of s) (magnitude_of w.re) ≡ false → lt (limit_of s) (magnitude_of w.im) ≡ false → passes s (times_real w (reciprocal_of s)) ≡ false
    each NearUnder a b = neither _ _ (under_stays w.re a) (under_stays w.im b)
    each None a b = neither _ _ (none_stays w.re a) (none_stays w.im b)
    each NearOver a b = refl
