-- What the bits of a value say of its size and its sign: finite below 7FF0000000000000, the value without its sign, and half a turn for a minus. Assumes nothing.
use mathlib.Core.Path.{◌≡◌, ap, ◌∙◌}
use mathlib.Core.Bool.{Bool, true, false, not, cond}
use Prim.Native.Nat.{ℕ, ◌+◌, ◌*◌, ◌/◌, ◌%◌, ◌^◌, ◌≤◌, ◌<◌}
use native.Mathlib.Omega.{arith}
use lib.Dec.{T}
use lib.Ieee.{Float, nan, inf, fin, binary64, of_bits, to_bits, fits}
use lib.Ieee.Bits.{of_bits-to_bits}
use lib.Ieee.Scale.{finite}
use Rattle.laws.proofs.Value.{sign, bare, finite-no-nan}
use Rattle.laws.proofs.Bits.{inf_bits, of_bits-bare, to_bits-bare, to_bits-sign, to_bits-finite, bare-fits, bare-finite, bare-sign}

pub size-bare : (x : Float) → T (fits binary64 x) → of_bits binary64 (to_bits binary64 x % 2 ^ 63) ≡ bare x
size-bare x F = of_bits-bare (to_bits binary64 x) ∙ ap bare (of_bits-to_bits binary64 x F)

pub size-finite : (x : Float) → T (fits binary64 x) → to_bits binary64 x % 2 ^ 63 < inf_bits → T (finite x)
unfolding to_bits
size-finite nan F h = absurd (omega arith)
size-finite (inf true) F h = absurd (omega arith)
size-finite (inf false) F h = absurd (omega arith)
size-finite (fin s m e) F h = tt

below : (x : Float) → T (fits binary64 x) → T (finite x) → to_bits binary64 (bare x) < inf_bits
below x F f = to_bits-finite (bare x) (bare-fits x F) (bare-finite x f) (bare-sign x)

pub size-large : (x : Float) → T (fits binary64 x) → inf_bits ≤ to_bits binary64 x % 2 ^ 63 → T (not (finite x))
size-large nan F h = tt
size-large (inf s) F h = tt
size-large (fin s m e) F h = absurd (go (to_bits-bare (fin s m e) F (finite-no-nan (fin s m e) tt)) (below (fin s m e) F tt))
  where
    go : to_bits binary64 (fin s m e) % 2 ^ 63 ≡ to_bits binary64 (fin false m e) → to_bits binary64 (fin false m e) < inf_bits → ⊥
    go p q = omega arith

pub half-turn : (x : Float) → T (fits binary64 x) → T (finite x) → to_bits binary64 x / 2 ^ 63 * 2 ≡ cond (sign x) 2 0
half-turn x F f = ap (λ (b : ℕ). b / 2 ^ 63 * 2) (to_bits-sign x (finite-no-nan x f)) ∙ go (sign x) (to_bits binary64 (bare x)) (below x F f)
  where
    go : (s : Bool) (b : ℕ) → b < inf_bits → (cond s (2 ^ 63) 0 + b) / 2 ^ 63 * 2 ≡ cond s 2 0
    go true b h = set b h
      where
        set : (b : ℕ) → b < inf_bits → (2 ^ 63 + b) / 2 ^ 63 * 2 ≡ 2
        set b h = omega arith
    go false b h = unset b h
      where
        unset : (b : ℕ) → b < inf_bits → (0 + b) / 2 ^ 63 * 2 ≡ 0
        unset b h = omega arith
