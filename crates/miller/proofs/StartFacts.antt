-- What a raw start gives: a start of at most 256 exactly between -1 and 257, and else none. Assumes nothing.
use mathlib.Core.Path.{◌≡◌, refl, sym, ◌∙◌, subst}
use mathlib.Core.Bool.{Bool, true, false, cond, ◌&&◌, true≢false}
use Prim.Native.Nat.{ℕ, ◌-◌, ◌*◌, ◌/◌, ◌^◌, ◌≤◌, ◌<◌}
use native.Mathlib.Nat.{le_of_suc-le-suc, div-eq_of_lt, div-lt_iff_lt-mul, le-div_iff_mul-le}
use native.Mathlib.Omega.{arith}
use borrow.Author.Tests.{ltb-true, le-leb, lt-leb}
use lib.Dec.{T, leb}
use lib.Ieee.{Float, nan, inf, fin, binary64, up, down, neg, lt, of_bits, to_unsigned}
use lib.Ieee.Bits.{is_true}
use lib.Ieee.Fits.{down_pos}
use lib.Ieee.Scale.{finite}
use Rattle.std.specs.Prelude.{min, Option, Some, None}
use Rattle.std.specs.Float.{float_to_unsigned}
use Rattle.std.specs.Int.{w32}
use Rattle.laws.proofs.Order.{not-lt→le, le→Le}
use Rattle.miller.specs.Whole.{truncated}
use Rattle.machine.specs.Small.{one}
use Rattle.miller.specs.Search.{is_start, start_from}

-- 257
abbrev pub top : Float
top = of_bits binary64 0x4070100000000000

no : {A : Type 0} → false ≡ true → A
no e = absurd (true≢false (sym e))

-- ---- between -1 and 257
pub within : (raw : Float) → lt (neg one) raw ≡ true → lt raw top ≡ true → T (finite raw) × (truncated raw ≤ 256)
unfolding lt neg of_bits truncated
within nan a b = no a
within (inf true) a b = no a
within (inf false) a b = no b
within (fin false m e) a b = (tt, le_of_suc-le-suc ((div-lt_iff_lt-mul (down_pos e)).1 (under (m * up e) (down e) (ltb-true (m * up e * 1) (257 * 1 * down e) b))))
  where
    under : (n d : ℕ) → n * 1 < 257 * 1 * d → n < 257 * d
    under n d h = omega arith
within (fin true m e) a b = (tt, none (m * up e / down e) (div-eq_of_lt (under (m * up e) (down e) (ltb-true (m * up e * 1) (1 * 1 * down e) a))))
  where
    under : (n d : ℕ) → n * 1 < 1 * 1 * d → n < d
    under n d h = omega arith

    none : (q : ℕ) → q ≡ 0 → q ≤ 256
    none q e = omega arith

-- ... where the cast cuts the fraction off and no more
pub cast-truncates : (raw : Float) → lt (neg one) raw ≡ true → lt raw top ≡ true → float_to_unsigned w32 raw ≡ truncated raw
unfolding lt neg of_bits truncated to_unsigned
cast-truncates nan a b = no a
cast-truncates (inf true) a b = no a
cast-truncates (inf false) a b = no b
cast-truncates (fin false m e) a b = small (m * up e / down e) (within (fin false m e) a b).1
  where
    small : (n : ℕ) → n ≤ 256 → min n (2 ^ 32 - 1) ≡ n
    small n h = omega arith
cast-truncates (fin true m e) a b = sym (div-eq_of_lt (under (m * up e) (down e) (ltb-true (m * up e * 1) (1 * 1 * down e) a)))
  where
    under : (n d : ℕ) → n * 1 < 1 * 1 * d → n < d
    under n d h = omega arith

-- ---- from 257 on
from-top : (raw : Float) → T (finite raw) → lt raw top ≡ false → 257 ≤ truncated raw
unfolding truncated of_bits
from-top nan f h = absurd f
from-top (inf s) f h = absurd f
from-top (fin false m e) f h =
    let l = le→Le top (fin false m e) tt tt (not-lt→le (fin false m e) top tt tt h) in
    (le-div_iff_mul-le (down_pos e)).1 (omega arith)
from-top (fin true m e) f h =
    let l = le→Le top (fin true m e) tt tt (not-lt→le (fin true m e) top tt tt h) in
    let d : 0 < down e = down_pos e in
    absurd (omega arith)

-- ---- what the search makes of it
refused : (a b c : Bool) (s t : Option ℕ) → (a ≡ true → b ≡ true → c ≡ false) → cond (a && b && c) s t ≡ t
refused false b c s t h = refl
refused true false c s t h = refl
refused true true true s t h = absurd (true≢false (h refl refl))
refused true true false s t h = refl

pub start-at : (raw : Float) → lt (neg one) raw ≡ true → lt raw top ≡ true → start_from raw ≡ Some (truncated raw)
unfolding start_from is_start
start-at raw a b = let w = within raw a b in simp (is_true (finite raw) w.0, a, le-leb (truncated raw) 256 w.1)

pub start-low : (raw : Float) → lt (neg one) raw ≡ false → start_from raw ≡ None
unfolding start_from is_start
start-low raw a = refused (finite raw) (lt (neg one) raw) (leb (truncated raw) 256) (Some (truncated raw)) None (λ p q. absurd (true≢false (sym q ∙ a)))

pub start-high : (raw : Float) → lt raw top ≡ false → start_from raw ≡ None
unfolding start_from is_start
start-high raw b =
    refused (finite raw) (lt (neg one) raw) (leb (truncated raw) 256) (Some (truncated raw)) None
    (λ p q. lt-leb (truncated raw) 256 (from-top raw (subst T (sym p) tt) b))
