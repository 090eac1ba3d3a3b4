-- A value that compares equal to 0 is one of the two zeros, and one that compares equal to 1 is 1. Assumes nothing.
use mathlib.Core.Path.{◌≡◌, refl, sym, ◌∙◌, subst}
use mathlib.Core.Bool.{Bool, true, false, ◌||◌, beq, true≢false}
use Prim.Native.Nat.{ℕ, ◌*◌, ◌<◌}
use native.Mathlib.Nat.{lt_irrefl, mul-pos}
use lib.IntN.{pos}
use lib.Dec.{T, eqb, eqb→eq, lit<}
use lib.Ieee.{Float, nan, inf, fin, binary64, of_bits, up, down, fits, eq}
use lib.Ieee.Bits.{of_bits-fits}
use lib.Ieee.Fits.{and_l, and_r, down_pos}
use Rattle.laws.proofs.Power.{unique}

abbrev pub zero_of : Bool → Float
zero_of s = fin s 0 (pos 0)

pub zero-fits : (s : Bool) → T (fits binary64 (zero_of s))
unfolding fits
zero-fits s = tt

pub zero_is : (x : Float) → T (fits binary64 x) → eq x (of_bits binary64 0) ≡ true → (s : Bool) × (x ≡ zero_of s)
unfolding of_bits eq
zero_is nan F h = absurd (true≢false (sym h))
zero_is (inf s) F h = absurd (true≢false (sym h))
zero_is (fin s m e) F h =
    let v : m * up e * 1 ≡ 0 * 1 * down e = eqb→eq (m * up e * 1) (0 * 1 * down e) (and_l (eqb (m * up e * 1) (0 * 1 * down e)) (beq s false || eqb (m * up e * 1) 0) (subst T (sym h) tt)) in
    (s, unique binary64 (fin s m e) (zero_of s) s 0 1 0 1 (lit< tt) (lit< tt) F (zero-fits s) (refl, v) (refl, refl) refl)

abbrev pub unit : Float
unit = of_bits binary64 0x3FF0000000000000

pub one-is : (x : Float) → T (fits binary64 x) → eq x unit ≡ true → x ≡ unit
unfolding of_bits eq
one-is nan F h = absurd (true≢false (sym h))
one-is (inf s) F h = absurd (true≢false (sym h))
one-is (fin true m e) F h =
    let a = m * up e * 1 in
    let b = 1 * 1 * down e in
    let t = subst T (sym h) tt in
    let v : a ≡ b = eqb→eq a b (and_l (eqb a b) (eqb a 0) t) in
    let n : a ≡ 0 = eqb→eq a 0 (and_r (eqb a b) (eqb a 0) t) in
    absurd (lt_irrefl 0 (subst (λ (x : ℕ). 0 < x) (sym v ∙ n) (mul-pos (lit< tt) (down_pos e))))
one-is (fin false m e) F h =
    let v : m * up e * 1 ≡ 1 * 1 * down e = eqb→eq (m * up e * 1) (1 * 1 * down e) (and_l (eqb (m * up e * 1) (1 * 1 * down e)) true (subst T (sym h) tt)) in
    unique binary64 (fin false m e) unit false 1 1 1 1 (lit< tt) (lit< tt) F (of_bits-fits binary64 0x3FF0000000000000) (refl, v) (refl, refl) refl
