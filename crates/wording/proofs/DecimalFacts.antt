-- A number in decimal: below 2^64 it has at most 20 digits, and one text. Assumes nothing.
use mathlib.Core.Path.{◌≡◌, refl, sym, ap, ◌∙◌, subst}
use mathlib.Core.Bool.{Bool, true, false}
use mathlib.Core.List.{List, ◌++◌}
use Prim.Native.Nat.{ℕ, zero, suc, ◌+◌, ◌*◌, ◌-◌, ◌/◌, ◌^◌, ◌≤◌, ◌<◌}
use native.Mathlib.Nat.{pow-suc}
use native.Mathlib.Omega.{arith}
use borrow.Author.Tests.{ltb-true, ltb-false}
use lib.Dec.{ltb}
use Rattle.io.specs.Digits.{last_digits, IsDigitCount}
use Rattle.wording.specs.Decimal.{Decimal, Numbered, places_if, places_from, decimal_of}

-- ---- a number below 2^64 has at most 20 decimal digits
tens : (k : ℕ) → 100000000000000000000 ≤ 10 ^ (k + 20)
tens zero = omega arith
tens (suc k) =
    let more : suc k + 20 ≡ suc (k + 20) = omega arith in
    let e : 10 ^ (suc k + 20) ≡ 10 ^ (k + 20) * 10 = ap (λ (n : ℕ). 10 ^ n) more ∙ pow-suc 10 (k + 20) in
    let h = tens k in
    omega arith

places-by : (n r k : ℕ) → n < 18446744073709551616 → IsDigitCount 10 1 n r → k ≡ r - 20 → r ≤ 20
places-by n r zero h f e = omega arith
places-by n r (suc k) h f e =
    let less : r - 1 ≡ k + 20 = omega arith in
    let g : 10 ^ (k + 20) ≤ n = subst (λ (m : ℕ). 10 ^ m ≤ n) less (f.2 (omega arith)) in
    absurd (omega (arith, tens k, g, h))

pub few-places : (n r : ℕ) → n < 18446744073709551616 → IsDigitCount 10 1 n r → r ≤ 20
few-places n r h f = places-by n r (r - 20) h f refl

-- ---- one number of digits is the fewest
power-up : (j k : ℕ) → 10 ^ j ≤ 10 ^ (j + k)
power-up j zero = let e : j + 0 ≡ j = omega arith in subst (λ (n : ℕ). 10 ^ j ≤ 10 ^ n) (sym e) (omega arith)
power-up j (suc k) =
    let h = power-up j k in
    let e : j + suc k ≡ suc (j + k) = omega arith in
    let p : 10 ^ (j + suc k) ≡ 10 ^ (j + k) * 10 = ap (λ (n : ℕ). 10 ^ n) e ∙ pow-suc 10 (j + k) in
    omega arith

not-less : (n j k : ℕ) → IsDigitCount 10 1 n j → IsDigitCount 10 1 n k → j < k → ⊥
not-less n j k f g h =
    let e : j + (k - 1 - j) ≡ k - 1 = omega arith in
    let p : 10 ^ j ≤ 10 ^ (k - 1) = subst (λ (m : ℕ). 10 ^ j ≤ 10 ^ m) e (power-up j (k - 1 - j)) in
    omega (arith, f.1, g.2 (omega (arith, f.0)), p)

one-fewest : (n j k : ℕ) → IsDigitCount 10 1 n j → IsDigitCount 10 1 n k → j ≡ k
one-fewest n j k f g = go (ltb j k) refl (ltb k j) refl
  where
    go : (b : Bool) → ltb j k ≡ b → (c : Bool) → ltb k j ≡ c → j ≡ k
    go true e c d = absurd (not-less n j k f g (ltb-true j k e))
    go false e true d = absurd (not-less n k j g f (ltb-true k j d))
    go false e false d = let h = ltb-false j k e in let i = ltb-false k j d in omega arith

-- ---- and the definition finds it
one_place : (n : ℕ) → n < 10 → IsDigitCount 10 1 n 1
one_place n h = (omega arith, omega arith, λ k. absurd (omega arith))

one_more : (n k : ℕ) → 10 ≤ n → IsDigitCount 10 1 (n / 10) k → IsDigitCount 10 1 n (suc k)
one_more n k h f =
    let p : 10 ^ suc k ≡ 10 ^ k * 10 = pow-suc 10 k in
    let below : n < 10 ^ suc k = omega (arith, f.1) in
    (omega arith, below, λ g. lower k f.0 f.2)
  where
    lower : (j : ℕ) → 1 ≤ j → (1 < j → 10 ^ (j - 1) ≤ n / 10) → 10 ^ (suc j - 1) ≤ n
    lower zero l e = absurd (omega arith)
    lower (suc zero) l e = omega arith
    lower (suc (suc j)) l e =
        let low : suc (suc j) - 1 ≡ suc j = omega arith in
        let high : suc (suc (suc j)) - 1 ≡ suc (suc j) = omega arith in
        let q : 10 ^ suc j ≤ n / 10 = subst (λ (m : ℕ). 10 ^ m ≤ n / 10) low (e (omega arith)) in
        let r : 10 ^ suc (suc j) ≡ 10 ^ suc j * 10 = pow-suc 10 (suc j) in
        let top : 10 ^ suc (suc j) ≤ n = omega arith in
        subst (λ (m : ℕ). 10 ^ m ≤ n) (sym high) top

found : (fuel n : ℕ) → n < 10 ^ suc fuel → IsDigitCount 10 1 n (places_from fuel n)
unfolding places_from places_if
found zero n h = one_place n (omega arith)
found (suc fuel) n h = go (ltb n 10) refl (found fuel (n / 10))
  where
    go : (b : Bool) → ltb n 10 ≡ b → (n / 10 < 10 ^ suc fuel → IsDigitCount 10 1 (n / 10) (places_from fuel (n / 10))) → IsDigitCount 10 1 n (places_if b (places_from fuel (n / 10)))
    go true e on = one_place n (ltb-true n 10 e)
    go false e on =
        let p : 10 ^ suc (suc fuel) ≡ 10 ^ suc fuel * 10 = pow-suc 10 (suc fuel) in
        one_more n (places_from fuel (n / 10)) (ltb-false n 10 e) (on (omega arith))

pub decimal-is : (n : ℕ) (text : List ℕ) → n < 18446744073709551616 → Decimal n text → text ≡ decimal_of n
unfolding decimal_of
decimal-is n text h d =
    d.spelled ∙ ap (λ (k : ℕ). last_digits 10 k n) (one-fewest n d.places (places_from 20 n) d.fewest (found 20 n (omega arith)))

pub numbered_is : (n : ℕ) (before after : List ℕ) → n < 18446744073709551616 → Numbered n before after → after ≡ before ++ decimal_of n
numbered_is n before after h w = w.spelled ∙ ap (λ (l : List ℕ). before ++ l) (decimal-is n w.number h w.decimal)
