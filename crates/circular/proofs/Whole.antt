-- Sums, differences and products of whole numbers up to 2^53 are exact, and so is half of an even one. Assumes nothing.
use mathlib.Core.Path.{◌≡◌, refl, sym, ap, ◌∙◌, subst}
use mathlib.Core.Bool.{Bool, true, false, cond, true≢false}
use Prim.Native.Nat.{ℕ, ◌+◌, ◌-◌, ◌*◌, ◌^◌, ◌≤◌, ◌<◌}
use native.Mathlib.Nat.{mul-pos, mul_comm, mul-le-mul_right, sub-add_cancel, zero-lt-suc}
use native.Mathlib.Omega.{arith}
use borrow.Author.Tests.{le-ltb}
use lib.Dec.{ltb}
use lib.Ieee.{Float, nan, inf, fin, binary64, up, down, round, add, sub, mul, neg}
use lib.Ieee.Back.{round_whole}
use lib.Ieee.Exact.{HasValue}
use lib.Ieee.Fits.{down_pos}
use lib.Ieee.Scale.{round_same}
use Rattle.laws.proofs.Power.{mul-value}

-- what rounds a fraction of the size n
rounded : (z : Float) (a c n : ℕ) → 0 < c → a * 1 ≡ n * c → n ≤ 2 ^ 53 → z ≡ round binary64 false a c → HasValue z false n 1
rounded z a c n C h l e = subst (λ (y : Float). HasValue y false n 1) (sym (e ∙ round_same binary64 false a c n 1 C (zero-lt-suc 0) h)) (round_whole binary64 false n l)

pub add-whole : (x y : Float) (a b : ℕ) → HasValue x false a 1 → HasValue y false b 1 → a + b ≤ 2 ^ 53 → HasValue (add binary64 x y) false (a + b) 1
unfolding add
add-whole nan y a b p q h = absurd p
add-whole (inf s) y a b p q h = absurd p
add-whole (fin s m e) nan a b p q h = absurd q
add-whole (fin s m e) (inf t) a b p q h = absurd q
add-whole (fin true m e) (fin t n d) a b p q h = absurd (true≢false p.0)
add-whole (fin false m e) (fin true n d) a b p q h = absurd (true≢false q.0)
add-whole (fin false m e) (fin false n d) a b p q h =
    rounded _ (m * up e * down d + n * up d * down e) (down e * down d) (a + b) (mul-pos (down_pos e) (down_pos d)) (cross (m * up e) (n * up d) (down e) (down d) p.1 q.1) h refl
  where
    cross : (x y u v : ℕ) → x * 1 ≡ a * u → y * 1 ≡ b * v → (x * v + y * u) * 1 ≡ (a + b) * (u * v)
    cross x y u v i j =
        let k : x * 1 * v ≡ a * u * v = ap (λ (z : ℕ). z * v) i in
        let l : y * 1 * u ≡ b * v * u = ap (λ (z : ℕ). z * u) j in
        omega arith

pub sub-whole : (x y : Float) (a b : ℕ) → HasValue x false a 1 → HasValue y false b 1 → b ≤ a → a ≤ 2 ^ 53 → HasValue (sub binary64 x y) false (a - b) 1
unfolding sub add neg
sub-whole nan y a b p q h l = absurd p
sub-whole (inf s) y a b p q h l = absurd p
sub-whole (fin s m e) nan a b p q h l = absurd q
sub-whole (fin s m e) (inf t) a b p q h l = absurd q
sub-whole (fin true m e) (fin t n d) a b p q h l = absurd (true≢false p.0)
sub-whole (fin false m e) (fin true n d) a b p q h l = absurd (true≢false q.0)
sub-whole (fin false m e) (fin false n d) a b p q h l =
    let x = m * up e * down d in
    let y = n * up d * down e in
    let c = down e * down d in
    let X : x ≡ a * c = cross (m * up e) a (down e) (down d) p.1 in
    let Y : y ≡ b * c = cross (n * up d) b (down d) (down e) q.1 ∙ ap (λ (z : ℕ). b * z) (mul_comm (down d) (down e)) in
    let g : (a - b + b) * c ≡ a * c = ap (λ (z : ℕ). z * c) (sub-add_cancel h) in
    let k : b * c ≤ a * c = mul-le-mul_right c h in
    let w : y ≤ x = omega arith in
    rounded (cond (ltb x y) (round binary64 true (y - x) c) (round binary64 false (x - y) c)) (x - y) c (a - b) (mul-pos (down_pos e) (down_pos d)) (omega arith) (omega arith)
    (ap (λ (t : Bool). cond t (round binary64 true (y - x) c) (round binary64 false (x - y) c)) (le-ltb x y w))
  where
    cross : (x a u v : ℕ) → x * 1 ≡ a * u → x * v ≡ a * (u * v)
    cross x a u v i = let k : x * 1 * v ≡ a * u * v = ap (λ (z : ℕ). z * v) i in omega arith

pub mul-whole : (x y : Float) (a b : ℕ) → HasValue x false a 1 → HasValue y false b 1 → a * b ≤ 2 ^ 53 → HasValue (mul binary64 x y) false (a * b) 1
mul-whole x y a b p q h = rounded (mul binary64 x y) (a * b) (1 * 1) (a * b) (zero-lt-suc 0) refl h (mul-value binary64 x y false false a 1 b 1 (zero-lt-suc 0) (zero-lt-suc 0) p q)

pub half-whole : (x y : Float) (n : ℕ) → HasValue x false 1 2 → HasValue y false (2 * n) 1 → n ≤ 2 ^ 53 → HasValue (mul binary64 x y) false n 1
half-whole x y n p q h = rounded (mul binary64 x y) (1 * (2 * n)) (2 * 1) n (zero-lt-suc 1) (twice n) h (mul-value binary64 x y false false 1 2 (2 * n) 1 (zero-lt-suc 1) (zero-lt-suc 0) p q)
  where
    twice : (n : ℕ) → 1 * (2 * n) * 1 ≡ n * (2 * 1)
    twice n = omega arith
