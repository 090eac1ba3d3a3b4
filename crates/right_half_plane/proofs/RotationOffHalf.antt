-- Off ±1/2 the rotation |cos(π fraction)| of Miller's search is not zero. To a quarter it is a cosine near 1. From there it is the sine of π times what is left to a half, in 104
-- pieces of half a binade, on each of which the formulas are bounded by the same operations on the ends. Assumes nothing.
use mathlib.Core.Path.{◌≡◌, refl, sym, ap, ◌∙◌, subst}
use mathlib.Core.Bool.{Bool, true, false, ◌&&◌, not, cond}
use mathlib.Core.List.{[], ◌∷◌}
use Prim.Native.Nat.{ℕ, suc, ◌+◌, ◌-◌, ◌*◌, ◌/◌, ◌%◌, ◌^◌, ◌≤◌, ◌<◌, zero-le}
use native.Mathlib.Omega.{arith}
use lib.Dec.{T, leb, leb→le, nleb→lt, lit<}
use lib.Ieee.{Float, nan, inf, fin, binary64, fits, of_bits, to_bits, neg, sub, mul, add, rem, lt, le, eq}
use lib.Ieee.Bits.{of_bits-to_bits}
use lib.Ieee.Fits.{and_l, and_r, add-fits, sub-fits, neg-fits}
use lib.Ieee.Positive.{positive, positive-finite, between}
use lib.Ieee.Scale.{finite}
use Rattle.laws.specs.Operators.{◌⊕◌, ◌⊖◌, ◌⊗◌}
use Rattle.laws.proofs.Value.{sign, bare}
use Rattle.laws.proofs.Order.{nought, neg-anti, le-trans-float, lt→le, finite-between}
use Rattle.laws.proofs.Sign.{neg-neg}
use Rattle.laws.proofs.Bound.{every, every-at}
use Rattle.laws.proofs.Interval.{iv, In, Expr, var, lit, sum, difference, product, share, eval, passes, bounded, in-literals}
use Rattle.laws.proofs.Bits.{inf_bits, bits-le, bits-between}
use Rattle.circular.specs.declared.reduce.Reduced.{Reduced}
use Rattle.circular.specs.Kernel.{sine_kernel, cosine_kernel, turned}
use Rattle.circular.specs.Reduce.{leading, within_two, halves_of, reduce_pi_of}
use Rattle.circular.specs.SinPi.{from_zero}
use Rattle.circular.specs.CosPi.{cos_pi_of}
use Rattle.circular.proofs.Parts.{at, cos_pi-is}
use Rattle.circular.proofs.Zeros.{cos_pi-zero}
use Rattle.machine.specs.Small.{nothing, quarter, half, two}
use Rattle.machine.specs.Magnitude.{magnitude_of}
use Rattle.machine.proofs.MagnitudeFacts.{bare-is}
use Rattle.right_half_plane.specs.ByMiller.{is_half, rotation_of}
use Rattle.right_half_plane.proofs.OffHalf.{below_half, magnitude-bits, not-zero}
use Rattle.right_half_plane.proofs.LeadingDigits.{steps, leading-between, leading-opposite, left_over, left-under}

-- ---- what the reduction makes of the leading digits h and of what they leave over, d
abbrev high_of : Float → Float → Float
high_of h d = h ⊗ of_bits binary64 0x400921FB58000000 ⊕ (h ⊗ of_bits binary64 0xBE5DDE973DCB3B3A ⊕ d ⊗ of_bits binary64 0x400921FB54442D18)

abbrev low_of : Float → Float → Float
low_of h d =
    h ⊗ of_bits binary64 0x400921FB58000000 ⊖ high_of h d ⊕ (h ⊗ of_bits binary64 0xBE5DDE973DCB3B3A ⊕ d ⊗ of_bits binary64 0x400921FB54442D18)

halves-expr : Expr → Expr
halves-expr last =
    share (product (var 0) (lit (of_bits binary64 0x400921FB58000000)))
    (share (sum (product (var 1) (lit (of_bits binary64 0xBE5DDE973DCB3B3A))) (product (var 2) (lit (of_bits binary64 0x400921FB54442D18))))
    (share (sum (var 1) (var 0)) (share (sum (difference (var 2) (var 0)) (var 1)) last)))

-- minus the sine, and the cosine, of hi and lo, which are the variables 1 and 0
sine-expr : Expr
unfolding halves-expr
sine-expr =
    halves-expr
    (share (product (var 1) (var 1))
    (share (product (var 0) (var 2))
    (share
    (sum
    (sum (lit (of_bits binary64 0x3F8111111110F8A6)) (product (var 1) (sum (lit (of_bits binary64 0xBF2A01A019C161D5)) (product (var 1) (lit (of_bits binary64 0x3EC71DE357B1FE7D))))))
    (product (product (var 1) (product (var 1) (var 1))) (sum (lit (of_bits binary64 0xBE5AE5E68A2B9CEB)) (product (var 1) (lit (of_bits binary64 0x3DE5D93A5ACFD57C))))))
    (difference (lit (of_bits binary64 0))
    (difference (var 4)
    (difference
    (difference (product (var 2) (difference (product (lit (of_bits binary64 0x3FE0000000000000)) (var 3)) (product (var 1) (var 0)))) (var 3))
    (product (var 1) (lit (of_bits binary64 0xBFC5555555555549)))))))))

cosine-expr : Expr
unfolding halves-expr
cosine-expr =
    halves-expr
    (share (product (var 1) (var 1))
    (share (product (var 0) (var 0))
    (share
    (sum
    (product (var 1) (sum (lit (of_bits binary64 0x3FA555555555554C)) (product (var 1) (sum (lit (of_bits binary64 0xBF56C16C16C15177)) (product (var 1) (lit (of_bits binary64 0x3EFA01A019CB1590)))))))
    (product (product (var 0) (var 0)) (sum (lit (of_bits binary64 0xBE927E4F809C52AD)) (product (var 1) (sum (lit (of_bits binary64 0x3E21EE9EBDB4B1C4)) (product (var 1) (lit (of_bits binary64 0xBDA8FAE9BE8838D4))))))))
    (share (product (lit (of_bits binary64 0x3FE0000000000000)) (var 2))
    (share (difference (lit (of_bits binary64 0x3FF0000000000000)) (var 0))
    (sum (var 0)
    (sum
    (difference (difference (lit (of_bits binary64 0x3FF0000000000000)) (var 0)) (var 1))
    (difference (product (var 4) (var 2)) (product (var 6) (var 5))))))))))

sine-is : (h d : Float) → eval binary64 (h ∷ d ∷ []) sine-expr ≡ from_zero (sine_kernel (high_of h d) (low_of h d))
unfolding eval sine-expr from_zero sine_kernel
sine-is h d = refl

cosine-is : (h d : Float) → eval binary64 (h ∷ d ∷ []) cosine-expr ≡ cosine_kernel (high_of h d) (low_of h d)
unfolding eval cosine-expr cosine_kernel
cosine-is h d = refl

-- ---- the pieces of the sine: the patterns from that of 2^-54 on, half a binade each
abbrev piece_bits : ℕ → ℕ
piece_bits j = 969 * 2 ^ 52 + j * 2 ^ 51

abbrev left : ℕ → Float
left j = steps (943 + j / 2)

piece_test : ℕ → Bool
unfolding sine-expr
piece_test j =
    let l = neg (of_bits binary64 (piece_bits j + 2 ^ 51)) in
    let h = neg (of_bits binary64 (piece_bits j)) in
    let m = nought ⊖ left j in
    let n = nought ⊖ nought in
    (finite l && finite h) && ((finite m && finite n) && passes binary64 (iv l h ∷ iv m n ∷ []) sine-expr (of_bits binary64 0x3B90000000000000) (of_bits binary64 0x4010000000000000))

pieces : T (every piece_test 104)
unfolding piece_test passes
pieces = tt

module _ (x : Float) (F : T (fits binary64 x)) (f : T (finite x)) (s : sign x ≡ false) where
  abbrev b : ℕ
  b = to_bits binary64 x

  -- of -x, for an x from 2^-54 to below 1/4
  sine-away : 969 * 2 ^ 52 ≤ b → b < 1021 * 2 ^ 52 → let h = neg (leading x) in let d = neg x ⊖ neg (leading x) in T (positive (from_zero (sine_kernel (high_of h d) (low_of h d))))
  unfolding piece_test
  sine-away l u =
      let j = (b - 969 * 2 ^ 52) / 2 ^ 51 in
      let c = piece_bits j in
      let t = every-at piece_test 104 pieces j (index b u) in
      let k = leading-between x F f s c (c + 2 ^ 51) (round-bits j) (from b l) (to b l) (small b l u) in
      let d = left-under x F f s (943 + j / 2) (field b l) (few b u) in
      let lo = neg (of_bits binary64 (c + 2 ^ 51)) in
      let hi = neg (of_bits binary64 c) in
      let m = nought ⊖ left j in
      let n = nought ⊖ nought in
      let e = passes binary64 (iv lo hi ∷ iv m n ∷ []) sine-expr (of_bits binary64 0x3B90000000000000) (of_bits binary64 0x4010000000000000) in
      let t₁ = and_l (finite lo && finite hi) ((finite m && finite n) && e) t in
      let t₂ = and_r (finite lo && finite hi) ((finite m && finite n) && e) t in
      let t₃ = and_l (finite m && finite n) e t₂ in
      let w =
      bounded binary64 (iv lo hi ∷ iv m n ∷ []) (neg (leading x) ∷ (neg x ⊖ neg (leading x)) ∷ []) sine-expr (of_bits binary64 0x3B90000000000000) (of_bits binary64 0x4010000000000000) (
        (and_l (finite lo) (finite hi) t₁, and_r (finite lo) (finite hi) t₁, neg-anti (leading x) (of_bits binary64 (c + 2 ^ 51)) k.1, neg-anti (of_bits binary64 c) (leading x) k.0),
        ((and_l (finite m) (finite n) t₃, and_r (finite m) (finite n) t₃, d.0, d.1), tt),
      ) (and_r (finite m && finite n) e t₂) in
      subst (λ (y : Float). T (positive y)) (sine-is (neg (leading x)) (neg x ⊖ neg (leading x)))
      (between (of_bits binary64 0x3B90000000000000) _ (of_bits binary64 0x4010000000000000) (unfold of_bits in tt) (unfold of_bits in tt) w.1 w.2)
    where
      index : (b : ℕ) → b < 1021 * 2 ^ 52 → (b - 969 * 2 ^ 52) / 2 ^ 51 < 104
      index b u = omega arith

      round-bits : (j : ℕ) → (969 * 2 ^ 52 + j * 2 ^ 51) % 2 ^ 27 ≡ 0
      round-bits j = omega arith

      from : (b : ℕ) → 969 * 2 ^ 52 ≤ b → 969 * 2 ^ 52 + (b - 969 * 2 ^ 52) / 2 ^ 51 * 2 ^ 51 ≤ b
      from b l = omega arith

      to : (b : ℕ) → 969 * 2 ^ 52 ≤ b → b ≤ 969 * 2 ^ 52 + (b - 969 * 2 ^ 52) / 2 ^ 51 * 2 ^ 51 + 2 ^ 51
      to b l = omega arith

      small : (b : ℕ) → 969 * 2 ^ 52 ≤ b → b < 1021 * 2 ^ 52 → 969 * 2 ^ 52 + (b - 969 * 2 ^ 52) / 2 ^ 51 * 2 ^ 51 + 2 ^ 51 < inf_bits
      small b l u = omega arith

      field : (b : ℕ) → 969 * 2 ^ 52 ≤ b → b / 2 ^ 52 ≤ suc (943 + (b - 969 * 2 ^ 52) / 2 ^ 51 / 2 + 25)
      field b l = omega arith

      few : (b : ℕ) → b < 1021 * 2 ^ 52 → suc (943 + (b - 969 * 2 ^ 52) / 2 ^ 51 / 2) < 2047
      few b u = omega arith

  -- of x, for an x to 1/4: by one of two pieces
  cosine-piece : (c e y : ℕ) →
      T ((finite (of_bits binary64 c) && finite (of_bits binary64 e)) && (finite (nought ⊖ nought) && finite (steps y ⊖ nought))) →
      T (passes binary64 (iv (of_bits binary64 c) (of_bits binary64 e) ∷ iv (nought ⊖ nought) (steps y ⊖ nought) ∷ []) cosine-expr (of_bits binary64 0x3FB0000000000000) (of_bits binary64 0x4010000000000000)) →
      c % 2 ^ 27 ≡ 0 → c ≤ b → b ≤ e → e < inf_bits → b / 2 ^ 52 ≤ suc (y + 25) → suc y < 2047 →
      let h = leading x in let d = x ⊖ leading x in T (positive (cosine_kernel (high_of h d) (low_of h d)))
  cosine-piece c e y t q p l u k m n =
      let lo = of_bits binary64 c in
      let hi = of_bits binary64 e in
      let o = nought ⊖ nought in
      let r = steps y ⊖ nought in
      let t₁ = and_l (finite lo && finite hi) (finite o && finite r) t in
      let t₂ = and_r (finite lo && finite hi) (finite o && finite r) t in
      let g = leading-between x F f s c e p l u k in
      let d = left_over x F f s y m n in
      let w =
      bounded binary64 (iv lo hi ∷ iv o r ∷ []) (leading x ∷ (x ⊖ leading x) ∷ []) cosine-expr (of_bits binary64 0x3FB0000000000000) (of_bits binary64 0x4010000000000000) (
        (and_l (finite lo) (finite hi) t₁, and_r (finite lo) (finite hi) t₁, g.0, g.1),
        ((and_l (finite o) (finite r) t₂, and_r (finite o) (finite r) t₂, d.0, d.1), tt),
      ) q in
      subst (λ (y : Float). T (positive y)) (cosine-is (leading x) (x ⊖ leading x))
      (between (of_bits binary64 0x3FB0000000000000) _ (of_bits binary64 0x4010000000000000) (unfold of_bits in tt) (unfold of_bits in tt) w.1 w.2)

  low-test : T (passes binary64 (iv (of_bits binary64 0) (of_bits binary64 0x3FC0000000000000) ∷ iv (nought ⊖ nought) (steps 994 ⊖ nought) ∷ []) cosine-expr (of_bits binary64 0x3FB0000000000000) (of_bits binary64 0x4010000000000000))
  unfolding passes cosine-expr
  low-test = tt

  high-test : T (passes binary64 (iv (of_bits binary64 0x3FC0000000000000) (of_bits binary64 0x3FD0000000000000) ∷ iv (nought ⊖ nought) (steps 995 ⊖ nought) ∷ []) cosine-expr (of_bits binary64 0x3FB0000000000000) (of_bits binary64 0x4010000000000000))
  unfolding passes cosine-expr
  high-test = tt

  cosine-away : b ≤ 0x3FD0000000000000 → let h = leading x in let d = x ⊖ leading x in T (positive (cosine_kernel (high_of h d) (low_of h d)))
  cosine-away u = go (leb b 0x3FC0000000000000) (leb→le b 0x3FC0000000000000) (nleb→lt b 0x3FC0000000000000)
    where
      low_field : (b : ℕ) → b ≤ 0x3FC0000000000000 → b / 2 ^ 52 ≤ suc (994 + 25)
      low_field b h = omega arith

      high-field : (b : ℕ) → b ≤ 0x3FD0000000000000 → b / 2 ^ 52 ≤ suc (995 + 25)
      high-field b h = omega arith

      weak : (b : ℕ) → 0x3FC0000000000000 < b → 0x3FC0000000000000 ≤ b
      weak b h = omega arith

      go : (t : Bool) → (T t → b ≤ 0x3FC0000000000000) → (T (not t) → 0x3FC0000000000000 < b) → let h = leading x in let d = x ⊖ leading x in T (positive (cosine_kernel (high_of h d) (low_of h d)))
      go true p q = cosine-piece 0 0x3FC0000000000000 994 (unfold of_bits sub add in tt) low-test refl zero-le (p tt) (lit< tt) (low_field b (p tt)) (lit< tt)
      go false p q = cosine-piece 0x3FC0000000000000 0x3FD0000000000000 995 (unfold of_bits sub add in tt) high-test refl (weak b (q tt)) u (lit< tt) (high-field b u) (lit< tt)

-- ---- the reduction: the sum with 2^52, whose unit is 1, is known by its pattern
abbrev sum_of : Float → Float
sum_of a = two ⊗ a ⊕ of_bits binary64 0x4330000000000000

abbrev rest_of : Float → Float → Float
rest_of a t = a ⊖ half ⊗ (t ⊖ of_bits binary64 0x4330000000000000)

abbrev reduced : Float → ℕ → Reduced
reduced r n = record { hi = high_of (leading r) (r ⊖ leading r); lo = low_of (leading r) (r ⊖ leading r); quarter = n % 4 }

sum-expr : Expr
sum-expr = sum (product (lit two) (var 0)) (lit (of_bits binary64 0x4330000000000000))

sum-bits : (l h a : Float) (c : ℕ) → 0 < c → c < inf_bits → In (iv l h) a → T (passes binary64 (iv l h ∷ []) sum-expr (of_bits binary64 c) (of_bits binary64 c)) → to_bits binary64 (sum_of a) ≡ c
unfolding eval sum-expr
sum-bits l h a c C k p t =
    let w = bounded binary64 (iv l h ∷ []) (a ∷ []) sum-expr (of_bits binary64 c) (of_bits binary64 c) (p, tt) t in
    let e = bits-between c c (sum_of a) C k k (add-fits binary64 _ _) w.1 w.2 in
    same (to_bits binary64 (sum_of a)) c e.0 e.1
  where
    same : (b c : ℕ) → c ≤ b → b ≤ c → b ≡ c
    same b c p q = omega arith

halves_are : (a : Float) (c : ℕ) → to_bits binary64 (sum_of a) ≡ c → halves_of a ≡ reduced (rest_of a (of_bits binary64 c)) c
unfolding halves_of
halves_are a c e =
    ap (λ (t : Float). reduced (rest_of a t) (to_bits binary64 (sum_of a))) (sym (of_bits-to_bits binary64 (sum_of a) (add-fits binary64 _ _)) ∙ ap (of_bits binary64) e)
    ∙ ap (reduced (rest_of a (of_bits binary64 c))) e

-- up to a half nothing is taken off before
within-is : (a : Float) → T (le a half) → within_two a ≡ a
unfolding within_two
within-is a h = go (lt (of_bits binary64 0x4130000000000000) a) refl
  where
    none : T (le (of_bits binary64 0x4130000000000000) half) → ⊥
    none t = unfold of_bits le in t

    go : (b : Bool) → lt (of_bits binary64 0x4130000000000000) a ≡ b → cond b (rem binary64 a two) a ≡ a
    go true e = absurd (none (le-trans-float (of_bits binary64 0x4130000000000000) a half (lt→le (of_bits binary64 0x4130000000000000) a (subst T (sym e) tt)) h))
    go false e = refl

reduction : (l h a : Float) (c : ℕ) → 0 < c → c < inf_bits → In (iv l h) a → T (le h half) → T (passes binary64 (iv l h ∷ []) sum-expr (of_bits binary64 c) (of_bits binary64 c)) → reduce_pi_of a ≡ reduced (rest_of a (of_bits binary64 c)) c
unfolding reduce_pi_of
reduction l h a c C k p q t = ap halves_of (within-is a (le-trans-float a h half p.3 q)) ∙ halves_are a c (sum-bits l h a c C k p t)

bare-positive : (x : Float) → T (positive x) → sign x ≡ false
bare-positive nan p = absurd p
bare-positive (inf s) p = absurd p
bare-positive (fin true m e) p = absurd p
bare-positive (fin false m e) p = refl

rest-expr : Float → Expr
rest-expr y = difference (var 0) (lit y)

-- ---- to a quarter
module _ (a : Float) (p : In (iv (of_bits binary64 1) quarter) a) where
  even_sum : T (passes binary64 (iv (of_bits binary64 1) quarter ∷ []) sum-expr (of_bits binary64 0x4330000000000000) (of_bits binary64 0x4330000000000000))
  unfolding passes sum-expr
  even_sum = tt

  even-rest : rest_of a (of_bits binary64 0x4330000000000000) ≡ a ⊖ nought
  even-rest = ap (λ (y : Float). a ⊖ y) (unfold of_bits sub add mul neg in refl)

  even-test : T (passes binary64 (iv (of_bits binary64 1) quarter ∷ []) (rest-expr nought) (of_bits binary64 1) quarter)
  unfolding passes rest-expr
  even-test = tt

  even-known : T (positive (a ⊖ nought)) × (to_bits binary64 (a ⊖ nought) ≤ 0x3FD0000000000000)
  unfolding eval rest-expr
  even-known =
      let w = bounded binary64 (iv (of_bits binary64 1) quarter ∷ []) (a ∷ []) (rest-expr nought) (of_bits binary64 1) quarter (p, tt) even-test in (
        between (of_bits binary64 1) (a ⊖ nought) quarter (unfold of_bits in tt) (unfold of_bits in tt) w.1 w.2,
        (bits-between 1 0x3FD0000000000000 (a ⊖ nought) (lit< tt) (lit< tt) (lit< tt) (sub-fits binary64 a nought) w.1 w.2).1,
      )

  even-at : at from_zero (reduced (a ⊖ nought) 0x4330000000000000) 1 ≡ cosine_kernel (high_of (leading (a ⊖ nought)) (a ⊖ nought ⊖ leading (a ⊖ nought))) (low_of (leading (a ⊖ nought)) (a ⊖ nought ⊖ leading (a ⊖ nought)))
  unfolding turned
  even-at = refl

  even-away : T (positive (at from_zero (reduce_pi_of a) 1))
  even-away =
      let r = a ⊖ nought in
      let k = even-known in
      subst (λ (y : Float). T (positive y))
      (sym (ap (λ (y : Reduced). at from_zero y 1) (reduction (of_bits binary64 1) quarter a 0x4330000000000000 (lit< tt) (lit< tt) p (unfold of_bits le in tt) even_sum ∙ ap (λ (y : Float). reduced y 0x4330000000000000) even-rest) ∙ even-at))
      (cosine-away r (sub-fits binary64 a nought) (positive-finite r k.0) (bare-positive r k.0) k.1)

-- ---- from a quarter to below a half
module _ (a : Float) (p : In (iv (of_bits binary64 0x3FD0000000000001) below_half) a) where
  odd-sum : T (passes binary64 (iv (of_bits binary64 0x3FD0000000000001) below_half ∷ []) sum-expr (of_bits binary64 0x4330000000000001) (of_bits binary64 0x4330000000000001))
  unfolding passes sum-expr
  odd-sum = tt

  odd-rest : rest_of a (of_bits binary64 0x4330000000000001) ≡ a ⊖ half
  odd-rest = ap (λ (y : Float). a ⊖ y) (unfold of_bits sub add mul neg in refl)

  odd-test : T (passes binary64 (iv (of_bits binary64 0x3FD0000000000001) below_half ∷ []) (rest-expr half) (neg (of_bits binary64 0x3FCFFFFFFFFFFFFE)) (neg (of_bits binary64 0x3C90000000000000)))
  unfolding passes rest-expr
  odd-test = tt

  -- what is left to a half
  abbrev x : Float
  x = neg (a ⊖ half)

  odd-known : T (positive x) × (0x3C90000000000000 ≤ to_bits binary64 x) × (to_bits binary64 x ≤ 0x3FCFFFFFFFFFFFFE)
  unfolding eval rest-expr
  odd-known =
      let l = neg (of_bits binary64 0x3FCFFFFFFFFFFFFE) in
      let h = neg (of_bits binary64 0x3C90000000000000) in
      let w = bounded binary64 (iv (of_bits binary64 0x3FD0000000000001) below_half ∷ []) (a ∷ []) (rest-expr half) l h (p, tt) odd-test in
      let u : T (le x (of_bits binary64 0x3FCFFFFFFFFFFFFE)) = subst (λ (y : Float). T (le x y)) (neg-neg (of_bits binary64 0x3FCFFFFFFFFFFFFE)) (neg-anti l (a ⊖ half) w.1) in
      let v : T (le (of_bits binary64 0x3C90000000000000) x) = subst (λ (y : Float). T (le y x)) (neg-neg (of_bits binary64 0x3C90000000000000)) (neg-anti (a ⊖ half) h w.2) in
      let b = bits-between 0x3C90000000000000 0x3FCFFFFFFFFFFFFE x (lit< tt) (lit< tt) (lit< tt) (neg-fits binary64 (a ⊖ half) (sub-fits binary64 a half)) v u in
      (between (of_bits binary64 0x3C90000000000000) x (of_bits binary64 0x3FCFFFFFFFFFFFFE) (unfold of_bits in tt) (unfold of_bits in tt) v u, b.0, b.1)

  odd-at : (r : Float) → at from_zero (reduced r 0x4330000000000001) 1 ≡ from_zero (sine_kernel (high_of (leading r) (r ⊖ leading r)) (low_of (leading r) (r ⊖ leading r)))
  unfolding turned
  odd-at r = refl

  odd-away : T (positive (at from_zero (reduce_pi_of a) 1))
  odd-away =
      let k = odd-known in
      let F = neg-fits binary64 (a ⊖ half) (sub-fits binary64 a half) in
      let f = positive-finite x k.0 in
      let s = bare-positive x k.0 in
      let e : reduce_pi_of a ≡ reduced (neg x) 0x4330000000000001 =
      reduction (of_bits binary64 0x3FD0000000000001) below_half a 0x4330000000000001 (lit< tt) (lit< tt) p (unfold of_bits le in tt) odd-sum ∙ ap (λ (y : Float). reduced y 0x4330000000000001) (odd-rest ∙ sym (neg-neg (a ⊖ half))) in
      subst (λ (y : Float). T (positive y))
      (sym (ap (λ (y : Reduced). at from_zero y 1) e ∙ odd-at (neg x) ∙ ap (λ (h : Float). from_zero (sine_kernel (high_of h (neg x ⊖ h)) (low_of h (neg x ⊖ h)))) (leading-opposite x F f s)))
      (sine-away x F f s k.1 (below (to_bits binary64 x) k.2))
    where
      below : (b : ℕ) → b ≤ 0x3FCFFFFFFFFFFFFE → b < 1021 * 2 ^ 52
      below b h = omega arith

-- ---- the rotation
cosine-above : (v m : Float) → bare v ≡ m → T (finite v) → T (fits binary64 m) → to_bits binary64 m ≤ 0x3FDFFFFFFFFFFFFF → T (positive (cos_pi_of v))
cosine-above v m e f F h =
    subst (λ (y : Float). T (positive y)) (sym (cos_pi-is v f ∙ ap (λ (y : Float). at from_zero (reduce_pi_of y) 1) e))
    (go (leb (to_bits binary64 m) 0) (leb (to_bits binary64 m) 0x3FD0000000000000) (leb→le (to_bits binary64 m) 0) (nleb→lt (to_bits binary64 m) 0) (leb→le (to_bits binary64 m) 0x3FD0000000000000) (nleb→lt (to_bits binary64 m) 0x3FD0000000000000))
  where
    n : ℕ
    n = to_bits binary64 m

    inside : (b c : ℕ) → b ≤ n → n ≤ c → n < inf_bits → c < inf_bits → T (le (of_bits binary64 b) m) × T (le m (of_bits binary64 c))
    inside b c l u k g = (subst (λ (y : Float). T (le (of_bits binary64 b) y)) (of_bits-to_bits binary64 m F) (bits-le b n l k), subst (λ (y : Float). T (le y (of_bits binary64 c))) (of_bits-to_bits binary64 m F) (bits-le n c u g))

    wide : (n : ℕ) → n ≤ 0x3FDFFFFFFFFFFFFF → n < inf_bits
    wide n h = omega arith

    none : (n : ℕ) → n ≤ 0 → n ≡ 0
    none n h = omega arith

    at_zero : m ≡ of_bits binary64 0 → T (positive (at from_zero (reduce_pi_of m) 1))
    at_zero z =
        subst (λ (y : Float). T (positive y)) (sym (ap (λ (y : Float). at from_zero (reduce_pi_of y) 1) z ∙ sym zero_is ∙ cos_pi-zero)) (unfold of_bits in tt)
      where
        zero_is : cos_pi_of (of_bits binary64 0) ≡ at from_zero (reduce_pi_of (of_bits binary64 0)) 1
        zero_is = unfold of_bits in cos_pi-is (of_bits binary64 0) tt

    go : (t u : Bool) → (T t → n ≤ 0) → (T (not t) → 0 < n) → (T u → n ≤ 0x3FD0000000000000) → (T (not u) → 0x3FD0000000000000 < n) → T (positive (at from_zero (reduce_pi_of m) 1))
    go true u p q r w = at_zero (sym (of_bits-to_bits binary64 m F) ∙ ap (of_bits binary64) (none n (p tt)))
    go false true p q r w = let i = inside 1 0x3FD0000000000000 (q tt) (r tt) (wide n h) (lit< tt) in even-away m (in-literals (of_bits binary64 1) quarter m (unfold of_bits in tt) i.0 i.1)
    go false false p q r w = let i = inside 0x3FD0000000000001 0x3FDFFFFFFFFFFFFF (w tt) h (wide n h) (lit< tt) in odd-away m (in-literals (of_bits binary64 0x3FD0000000000001) below_half m (unfold of_bits in tt) i.0 i.1)

pub rotation-not-zero : (v : Float) → T (fits binary64 v) → T (le (neg half) v) → T (le v half) → is_half v ≡ false → eq (rotation_of v) nothing ≡ false
unfolding rotation_of
rotation-not-zero v F a b e =
    let k = magnitude-bits v F a b e in
    not-zero (cos_pi_of v) (cosine-above v (magnitude_of v) (bare-is v) (finite-between (neg half) v half (unfold of_bits neg in tt) (unfold of_bits in tt) a b) k.0 k.1)
