-- sin is odd, at the zeros too, and cos and cos(πx) are even: only the magnitude and the sign enter. Assumes nothing.
use mathlib.Core.Path.{◌≡◌, refl, sym, ap, ap₂, ◌∙◌}
use mathlib.Core.Bool.{true, false, cond}
use Prim.Native.Nat.{ℕ, zero, suc, ◌+◌, ◌/◌, ◌%◌, ◌<◌}
use native.Mathlib.Omega.{arith}
use lib.Dec.{eqb}
use lib.Ieee.{Float, nan, inf, fin, neg}
use Rattle.laws.proofs.Sign.{neg-neg}
use Rattle.circular.specs.Kernel.{sine_kernel, cosine_kernel, turned}
use Rattle.circular.specs.Reduce.{reduce_of}
use Rattle.circular.specs.Sin.{sin_of}
use Rattle.circular.specs.Cos.{cos_of}
use Rattle.circular.specs.CosPi.{cos_pi_of}

-- two quarter turns more change the sign
by : Float → Float → ℕ → ℕ → Float
by s c p h = let y = cond (eqb p 0) s c in cond (eqb h 0) y (neg y)

half-on : (q : ℕ) (s c : Float) → turned neg (q + 2) s c ≡ neg (turned neg (q + 0) s c)
unfolding turned by
half-on q s c =
    ap₂ (by s c) (parity q) (half q) ∙ go (q / 2 % 2) (less q) ∙ ap (λ (n : ℕ). neg (by s c (n % 2) (n / 2 % 2))) (none q)
  where
    parity : (q : ℕ) → (q + 2) % 2 ≡ q % 2
    parity q = omega arith

    half : (q : ℕ) → (q + 2) / 2 % 2 ≡ (q / 2 % 2 + 1) % 2
    half q = omega arith

    less : (q : ℕ) → q / 2 % 2 < 2
    less q = omega arith

    none : (q : ℕ) → q ≡ q + 0
    none q = omega arith

    more : (h : ℕ) → suc (suc h) < 2 → ⊥
    more h k = omega arith

    go : (h : ℕ) → h < 2 → by s c (q % 2) ((h + 1) % 2) ≡ neg (by s c (q % 2) h)
    go zero k = refl
    go (suc zero) k = sym (neg-neg (cond (eqb (q % 2) 0) s c))
    go (suc (suc h)) k = absurd (more h k)

pub sin-odd : (x : Float) → sin_of (neg x) ≡ neg (sin_of x)
unfolding sin_of neg
sin-odd nan = refl
sin-odd (inf s) = refl
sin-odd (fin false m e) = let r = reduce_of (fin false m e) in half-on r.quarter (sine_kernel r.hi r.lo) (cosine_kernel r.hi r.lo)
sin-odd (fin true m e) =
    let r = reduce_of (fin false m e) in
    let s = sine_kernel r.hi r.lo in
    let c = cosine_kernel r.hi r.lo in
    sym (neg-neg (turned neg (r.quarter + 0) s c)) ∙ ap neg (sym (half-on r.quarter s c))

pub cos-even : (x : Float) → cos_of (neg x) ≡ cos_of x
unfolding cos_of neg
cos-even nan = refl
cos-even (inf s) = refl
cos-even (fin s m e) = refl

pub cos_pi-even : (x : Float) → cos_pi_of (neg x) ≡ cos_pi_of x
unfolding cos_pi_of neg
cos_pi-even nan = refl
cos_pi-even (inf s) = refl
cos_pi-even (fin s m e) = refl
