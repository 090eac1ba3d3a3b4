-- A zero imaginary part, of either sign, takes the real path: both signs give one outcome, whose seeds lie on the real line. Assumes nothing.
use mathlib.Core.Path.{◌≡◌, refl, ap, ◌∙◌}
use mathlib.Core.Bool.{Bool, true, false, ◌||◌, beq}
use Prim.Native.Nat.{ℕ}
use native.Mathlib.Nat.{zero-mul}
use lib.IntN.{ℤ}
use lib.Ieee.{Float, fin, binary64, of_bits, eq}
use Rattle.std.specs.Prelude.{Option, Some, None}
use Rattle.complex.specs.declared.number.Complex.{Complex}
use Rattle.miller.specs.declared.point.Point.{Point}
use Rattle.miller.specs.declared.point.Order.{Order}
use Rattle.miller.specs.Point.{is_real, point_of}
use Rattle.miller.specs.Search.{start_from, raw_start, corrected, convergence_test, by_recurrence, curve_of, precision_of, formula_of, start_of}
use Rattle.miller.specs.Backward.{on_real_line}
use Rattle.miller.specs.Seeds.{real_seeds, seeds_from, seeds_at, seeds_of}

-- ---- +0 and -0
abbrev pub with_zero : Float → Bool → ℤ → Complex
with_zero x s e = record { re = x; im = fin s 0 e }

pub zero-is-real : (x : Float) (s : Bool) (e : ℤ) → is_real (with_zero x s e) ≡ true
unfolding is_real eq of_bits
zero-is-real x s e = simp zero-mul (both s)
  where
    both : (t : Bool) → (beq t false || true) ≡ true
    both true = refl
    both false = refl

-- ---- two points on the real path with one real part, one modulus and one root
module _ (p q : Point) (P : is_real p.z ≡ true) (Q : is_real q.z ≡ true) (x : p.z.re ≡ q.z.re) (m : p.modulus ≡ q.modulus) (r : p.root ≡ q.root) where
  raw_same : (k : ℕ) → raw_start p k ≡ raw_start q k
  unfolding raw_start
  raw_same k = simp (P, Q)

  corrected-same : (s : Option ℕ) → corrected p s ≡ corrected q s
  unfolding corrected
  corrected-same (Some k) = ap start_from (raw_same k)
  corrected-same None = refl

  recurrence-same : (order : Order) → by_recurrence p order ≡ by_recurrence q order
  unfolding by_recurrence convergence_test
  recurrence-same order = simp (m, corrected-same)

  curve-same : (precision : Float) → curve_of p precision ≡ curve_of q precision
  unfolding curve_of
  curve-same precision = simp (P, Q, m)

  formula-same : (rotation : Float) → formula_of p rotation ≡ formula_of q rotation
  unfolding formula_of precision_of
  formula-same rotation = simp (curve-same, m, r)

  start-same : (order : Order) → start_of p order ≡ start_of q order
  unfolding start_of
  start-same order = simp (m, recurrence-same, formula-same)

  module _ (order : Order) (coefficient : Complex) (alone : Bool) where
    from-same : (k : ℕ) → seeds_from p order coefficient alone k ≡ seeds_from q order coefficient alone k
    unfolding seeds_from
    from-same k = simp (P, Q, x)

    at_same : (s : Option ℕ) → seeds_at p order coefficient alone s ≡ seeds_at q order coefficient alone s
    unfolding seeds_at
    at_same (Some k) = simp (from-same k)
    at_same None = refl

    real_same : seeds_of p order coefficient alone ≡ seeds_of q order coefficient alone
    unfolding seeds_of
    real_same = ap (seeds_at p order coefficient alone) (start-same order) ∙ at_same (start_of q order)

-- ---- an argument on the real path
pub either-zero : (x : Float) (s t : Bool) (e d : ℤ) (order : Order) (coefficient : Complex) (alone : Bool)
    → seeds_of (point_of (with_zero x s e)) order coefficient alone ≡ seeds_of (point_of (with_zero x t d)) order coefficient alone
unfolding point_of
either-zero x s t e d order coefficient alone =
    real_same (point_of (with_zero x s e)) (point_of (with_zero x t d)) (zero-is-real x s e) (zero-is-real x t d) refl refl refl order coefficient alone

-- both seeds have an imaginary part of +0
pub on-the-line : (point : Point) (order : Order) (coefficient : Complex) (alone : Bool) (start : ℕ) → is_real point.z ≡ true
    → ((seeds_from point order coefficient alone start).first.im ≡ of_bits binary64 0) × ((seeds_from point order coefficient alone start).second.im ≡ of_bits binary64 0)
unfolding seeds_from real_seeds on_real_line
on-the-line point order coefficient alone start e = (simp e, simp e)
