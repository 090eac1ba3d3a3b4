-- What the place of the rounded sum says of the squares a / c and b / d themselves: at least 2^-1000 together within the range, at most 2^-798 each below it, at least 2^998 together above it. Assumes nothing.
use mathlib.Core.Path.{◌≡◌, refl, sym, ap, ◌∙◌, subst}
use mathlib.Core.Logic.{◌⊎◌, inl, inr}
use mathlib.Core.Bool.{false}
use Prim.Native.Nat.{ℕ, ◌+◌, ◌*◌, ◌^◌, ◌≤◌, ◌<◌, zero-le}
use native.Mathlib.Nat.{le_trans, le_of_eq, le_of_lt, zero-mul, mul-one, one-mul, mul_assoc, mul_comm, mul_right_comm, add_comm, le-add_right, mul-le-mul_left, mul-le-mul_right, le_of_mul-le-mul_right}
use lib.Dec.{T, lit≤}
use lib.Pow.{pow_pos}
use lib.Ieee.{Float, nan, inf, fin, binary64, size, round, add, le, of_bits}
use lib.Ieee.Order.{round_mono, le_of_values}
use lib.Ieee.Positive.{num, den, den_pos}
use lib.Ieee.Scale.{finite}
use Rattle.laws.proofs.Order.{le-trans-float, add-mono}
use Rattle.laws.proofs.Relative.{largest, nonnegative, round-shape, round-finite, round-nonnegative, nonnegative-value}
use Rattle.roots.specs.Hypot.{least_sum, greatest_sum}
use Rattle.roots.proofs.WholeRoot.{which}
use Rattle.roots.proofs.HypotCases.{nought}

-- 2^-1000, 2^-798 and 2^998
abbrev small : Float
small = round binary64 false 1 (2 ^ 1000)

abbrev lesser : Float
lesser = round binary64 false 1 (2 ^ 798)

abbrev great : Float
great = round binary64 false (2 ^ 998) 1

-- computed
small-below : T (le least_sum (add binary64 small small)) → ⊥
unfolding least_sum add round size le of_bits
small-below h = h

lesser-within : T (le least_sum (add binary64 lesser nought)) × T (le least_sum (add binary64 nought lesser))
unfolding least_sum add round size le of_bits
lesser-within = (tt, tt)

great-within : T (le (add binary64 great great) greatest_sum)
unfolding greatest_sum add round size le of_bits
great-within = tt

infinite-within : T (le least_sum (inf false))
unfolding least_sum le of_bits
infinite-within = tt

pub nought-below : (z : Float) → T (nonnegative z) → T (le nought z)
nought-below z h = le_of_values nought z 0 1 (num z) (den z) (pow_pos 0) (den_pos z) (refl, refl) (nonnegative-value z h) (le_trans (le_of_eq (zero-mul (den z))) zero-le)

module _ (a c b d : ℕ) (C : 0 < c) (D : 0 < d) where
  -- one part of a small sum
  first : (k : ℕ) → (a * d + b * c) * k ≤ c * d → a * k ≤ c
  first k h =
      le_of_mul-le-mul_right
      (le_trans (le_of_eq (mul_right_comm a k d)) (le_trans (mul-le-mul_right k (le-add_right (a * d) (b * c))) h))
      D

  second : (k : ℕ) → (a * d + b * c) * k ≤ c * d → b * k ≤ d
  second k h =
      le_of_mul-le-mul_right
      (le_trans (le_of_eq (mul_right_comm b k c)) (le_trans (mul-le-mul_right k (le_trans (le-add_right (b * c) (a * d)) (le_of_eq (add_comm (b * c) (a * d))))) (le_trans h (le_of_eq (mul_comm c d)))))
      C

  pub within-floor : T (le least_sum (add binary64 (round binary64 false a c) (round binary64 false b d))) → c * d ≤ (a * d + b * c) * 2 ^ 1000
  within-floor h =
      elim (which ((a * d + b * c) * 2 ^ 1000) (c * d)) [
        | inr g ↦ g
        | inl g ↦
            let p : a * 2 ^ 1000 ≤ 1 * c = le_trans (first (2 ^ 1000) (le_of_lt g)) (le_of_eq (sym (one-mul c))) in
            let q : b * 2 ^ 1000 ≤ 1 * d = le_trans (second (2 ^ 1000) (le_of_lt g)) (le_of_eq (sym (one-mul d))) in
            let fs : T (finite small) = round-finite binary64 1 (2 ^ 1000) (pow_pos 1000) (lit≤ tt) in
            let fa : T (finite (round binary64 false a c)) = round-finite binary64 a c C (tiny a c (first (2 ^ 1000) (le_of_lt g))) in
            let fb : T (finite (round binary64 false b d)) = round-finite binary64 b d D (tiny b d (second (2 ^ 1000) (le_of_lt g))) in
            absurd (small-below (le-trans-float least_sum (add binary64 (round binary64 false a c) (round binary64 false b d)) (add binary64 small small) h
            (add-mono binary64 (round binary64 false a c) small (round binary64 false b d) small fa fs fb fs (round_mono binary64 a c 1 (2 ^ 1000) C (pow_pos 1000) p) (round_mono binary64 b d 1 (2 ^ 1000) D (pow_pos 1000) q))))
      ]
    where
      tiny : (x y : ℕ) → x * 2 ^ 1000 ≤ y → x ≤ largest binary64 * y
      tiny x y k = le_trans (le_trans (le_of_eq (sym (mul-one x))) (le_trans (mul-le-mul_left x (lit≤ {m = 1} {n = 2 ^ 1000} tt)) k)) (le_trans (le_of_eq (sym (one-mul y))) (mul-le-mul_right y (lit≤ tt)))

  -- one part of a sum below 2 ^ k
  first_under : (k : ℕ) → a * d + b * c ≤ c * d * k → a ≤ k * c
  first_under k h = le_of_mul-le-mul_right (le_trans (le-add_right (a * d) (b * c)) (le_trans h (le_of_eq (mul_comm (c * d) k ∙ sym (mul_assoc k c d))))) D

  second-under : (k : ℕ) → a * d + b * c ≤ c * d * k → b ≤ k * d
  second-under k h =
      le_of_mul-le-mul_right
      (le_trans (le_trans (le-add_right (b * c) (a * d)) (le_of_eq (add_comm (b * c) (a * d)))) (le_trans h (le_of_eq (mul_comm (c * d) k ∙ ap (λ (t : ℕ). k * t) (mul_comm c d) ∙ sym (mul_assoc k d c)))))
      C

  pub above_floor : le (add binary64 (round binary64 false a c) (round binary64 false b d)) greatest_sum ≡ false → c * d * 2 ^ 998 ≤ a * d + b * c
  above_floor h =
      elim (which (a * d + b * c) (c * d * 2 ^ 998)) [
        | inr g ↦ g
        | inl g ↦
            let p : a ≤ 2 ^ 998 * c = first_under (2 ^ 998) (le_of_lt g) in
            let q : b ≤ 2 ^ 998 * d = second-under (2 ^ 998) (le_of_lt g) in
            let fg : T (finite great) = round-finite binary64 (2 ^ 998) 1 (pow_pos 0) (lit≤ tt) in
            let fa : T (finite (round binary64 false a c)) = round-finite binary64 a c C (le_trans p (mul-le-mul_right c (lit≤ tt))) in
            let fb : T (finite (round binary64 false b d)) = round-finite binary64 b d D (le_trans q (mul-le-mul_right d (lit≤ tt))) in
            let s : T (le (add binary64 (round binary64 false a c) (round binary64 false b d)) greatest_sum) =
            le-trans-float (add binary64 (round binary64 false a c) (round binary64 false b d)) (add binary64 great great) greatest_sum
            (add-mono binary64 (round binary64 false a c) great (round binary64 false b d) great fa fg fb fg (round_mono binary64 a c (2 ^ 998) 1 C (pow_pos 0) (le_trans (le_of_eq (mul-one a)) p)) (round_mono binary64 b d (2 ^ 998) 1 D (pow_pos 0) (le_trans (le_of_eq (mul-one b)) q)))
            great-within in
            absurd (subst T h s)
      ]

  -- a sum with an infinite part is not below the range
  not-infinite-first : (w : Float) → (w ≡ inf false) ⊎ T (finite w) → T (le least_sum (add binary64 (inf false) w))
  not-infinite-first w (inl e) = subst (λ (z : Float). T (le least_sum (add binary64 (inf false) z))) (sym e) (unfold add in infinite-within)
  not-infinite-first nan (inr f) = absurd f
  not-infinite-first (inf s) (inr f) = absurd f
  not-infinite-first (fin s m e) (inr f) = unfold add in infinite-within

  not-infinite-second : (w : Float) → T (finite w) → T (le least_sum (add binary64 w (inf false)))
  not-infinite-second nan f = absurd f
  not-infinite-second (inf s) f = absurd f
  not-infinite-second (fin s m e) f = unfold add in infinite-within

  finite-parts : le least_sum (add binary64 (round binary64 false a c) (round binary64 false b d)) ≡ false → T (finite (round binary64 false a c)) × T (finite (round binary64 false b d))
  finite-parts h =
      elim (round-shape binary64 a c) [
        | inl e ↦ absurd (subst T (sym (ap (λ (z : Float). le least_sum (add binary64 z (round binary64 false b d))) e) ∙ h) (not-infinite-first (round binary64 false b d) (round-shape binary64 b d)))
        | inr f ↦
            elim (round-shape binary64 b d) [
              | inl e ↦ absurd (subst T (sym (ap (λ (z : Float). le least_sum (add binary64 (round binary64 false a c) z)) e) ∙ h) (not-infinite-second (round binary64 false a c) f))
              | inr g ↦ (f, g)
            ]
      ]

  pub below-ceiling : le least_sum (add binary64 (round binary64 false a c) (round binary64 false b d)) ≡ false → (a * 2 ^ 798 ≤ c) × (b * 2 ^ 798 ≤ d)
  below-ceiling h =
      let x = round binary64 false a c in
      let y = round binary64 false b d in
      let f = finite-parts h in
      let fl : T (finite lesser) = round-finite binary64 1 (2 ^ 798) (pow_pos 798) (lit≤ tt) in (
        elim (which c (a * 2 ^ 798)) [
          | inr g ↦ g
          | inl g ↦
              absurd
              (subst T h
              (le-trans-float least_sum (add binary64 lesser nought) (add binary64 x y) lesser-within.0
              (add-mono binary64 lesser x nought y fl f.0 tt f.1 (round_mono binary64 1 (2 ^ 798) a c (pow_pos 798) C (le_trans (le_of_eq (one-mul c)) (le_of_lt g))) (nought-below y (round-nonnegative binary64 b d y refl f.1)))))
        ],
        elim (which d (b * 2 ^ 798)) [
          | inr g ↦ g
          | inl g ↦
              absurd
              (subst T h
              (le-trans-float least_sum (add binary64 nought lesser) (add binary64 x y) lesser-within.1
              (add-mono binary64 nought x lesser y tt f.0 fl f.1 (nought-below x (round-nonnegative binary64 a c x refl f.0)) (round_mono binary64 1 (2 ^ 798) b d (pow_pos 798) D (le_trans (le_of_eq (one-mul d)) (le_of_lt g))))))
        ],
      )
