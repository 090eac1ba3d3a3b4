-- At the fraction 0 of either sign the reciprocals of k² - ν², k - ν and k + ν are those of k² and of k. Assumes nothing.
use mathlib.Core.Path.{◌≡◌, refl, sym, ap, ◌∙◌}
use mathlib.Core.Bool.{Bool, true, false, ◌&&◌, true≢false}
use Prim.Native.Nat.{ℕ, ◌+◌, ◌-◌, ◌*◌, ◌^◌, ◌≤◌, zero-le}
use native.Mathlib.Nat.{le_trans, mul-le-mul}
use native.Mathlib.Omega.{arith}
use lib.Dec.{T, lit<, lit≤}
use lib.IntN.{pos}
use lib.Ieee.{Float, binary64, of_bits, fits, add, sub, neg, eq}
use lib.Ieee.Exact.{HasValue}
use lib.Ieee.Fits.{add-fits, sub-fits, mul-fits, of_int-fits}
use Rattle.laws.proofs.Power.{unique}
use Rattle.laws.proofs.Whole.{whole-value}
use Rattle.laws.specs.Operators.{◌⊗◌}
use Rattle.circular.proofs.Whole.{add-whole, sub-whole, mul-whole}
use Rattle.temme.specs.shapes.Shares.{term, is_whole, share_of, square_share_of, whole_shares_of, shares_of}
use Rattle.laws.proofs.Zero.{zero_of, zero_is}

-- ---- a whole number with a zero added or taken
module _ (x : Float) (a : ℕ) (F : T (fits binary64 x)) (v : HasValue x false a 1) (h : a ≤ 2 ^ 53) where
  plus-nothing : add binary64 x (zero_of false) ≡ x
  plus-nothing = unique binary64 (add binary64 x (zero_of false)) x false (a + 0) 1 a 1 (lit< tt) (lit< tt) (add-fits binary64 x (zero_of false)) F (add-whole x (zero_of false) a 0 v (refl, refl) (omega arith)) v (omega arith)

  less-nothing : sub binary64 x (zero_of false) ≡ x
  less-nothing = unique binary64 (sub binary64 x (zero_of false)) x false (a - 0) 1 a 1 (lit< tt) (lit< tt) (sub-fits binary64 x (zero_of false)) F (sub-whole x (zero_of false) a 0 v (refl, refl) zero-le h) v (omega arith)

  plus-zero : (s : Bool) → add binary64 x (zero_of s) ≡ x
  unfolding sub neg
  plus-zero false = plus-nothing
  plus-zero true = less-nothing

  less_zero : (s : Bool) → sub binary64 x (zero_of s) ≡ x
  unfolding sub neg
  less_zero false = less-nothing
  less_zero true = plus-nothing

module _ (k : ℕ) (h : k ≤ 999) where
  value : HasValue (term k) false k 1
  value = whole-value binary64 k (omega arith)

  signed : (s t : Bool) → shares_of (zero_of s) (zero_of t) k ≡ whole_shares_of k
  unfolding shares_of whole_shares_of share_of square_share_of
  signed s t =
      simp (
        less_zero (term k ⊗ term k) (k * k) (mul-fits binary64 (term k) (term k)) (mul-whole (term k) (term k) k k value value few) few t,
        less_zero (term k) k (of_int-fits binary64 (pos k)) value (omega arith) s,
        plus-zero (term k) k (of_int-fits binary64 (pos k)) value (omega arith) s,
      )
    where
      few : k * k ≤ 2 ^ 53
      few = le_trans (mul-le-mul h h) (lit≤ tt)

  pub shares-at-zero : (v w : Float) → T (fits binary64 v) → T (fits binary64 w) → is_whole v w ≡ true → shares_of v w k ≡ whole_shares_of k
  unfolding is_whole
  shares-at-zero v w F G e = go (eq v (of_bits binary64 0)) (eq w (of_bits binary64 0)) refl refl e
    where
      go : (b c : Bool) → eq v (of_bits binary64 0) ≡ b → eq w (of_bits binary64 0) ≡ c → b && c ≡ true → shares_of v w k ≡ whole_shares_of k
      go true true p q e =
          let a = zero_is v F p in
          let z = zero_is w G q in
          ap (λ (x : Float). shares_of x w k) a.1 ∙ ap (λ (x : Float). shares_of (zero_of a.0) x k) z.1 ∙ signed a.0 z.0
      go true false p q e = absurd (true≢false (sym e))
      go false c p q e = absurd (true≢false (sym e))
