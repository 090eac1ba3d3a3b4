-- The order and the modulus of an admitted call: no minus sign, at most 1,000, and at most 2^16; and the modulus is that of its argument. Assumes nothing.
use mathlib.Core.Path.{◌≡◌, refl, sym, ◌∙◌, subst}
use mathlib.Core.Bool.{Bool, true, false, cond, ◌&&◌}
use Prim.Native.Nat.{ℕ, ◌*◌, ◌^◌, ◌≤◌}
use native.Mathlib.Omega.{arith}
use lib.Dec.{T}
use lib.Ieee.{Float, nan, inf, fin, binary64, up, down, of_bits, neg, eq, lt, le, fits}
use lib.Ieee.Fits.{and_l, and_r}
use lib.Ieee.Positive.{num, den}
use lib.Ieee.Scale.{finite}
use Rattle.laws.proofs.Sign.{eq_comm, le-neg-l}
use Rattle.laws.proofs.Relative.{nonnegative}
use Rattle.laws.proofs.Bound.{Up, up-test, up-of-le}
use Rattle.machine.specs.Small.{nothing}
use Rattle.complex.specs.Functions.{modulus_of}
use Rattle.call.specs.Checks.{Admitted, verdict_of}
use Rattle.call.proofs.FirstFacts.{admitted-none}
use Rattle.call.specs.Limits.{length_inside, largest_order, largest_part, normalised_of, are_finite, order_inside, part_inside, size_inside}
use Rattle.power_series.proofs.VisitBound.{order-limit}
use Rattle.right_half_plane.proofs.ModulusBound.{modulus-up}
use Rattle.bessel.specs.declared.arguments.Arguments.{Arguments}
use Rattle.bessel.specs.Arguments.{arguments_of}
use Rattle.bessel.specs.Checks.{k_checks, series_checks}
use Rattle.bessel.proofs.CheckFacts.{Passed, k-passed, series-passed}

-- ---- a value without -0
without : (x : Float) (b : Bool) → eq x nothing ≡ b → T (finite (cond b nothing x)) → T (le nothing (cond b nothing x)) → T (nonnegative (cond b nothing x))
unfolding of_bits le lt
without x true e f h = tt
without nan false e f h = absurd f
without (inf s) false e f h = absurd f
without (fin false m d) false e f h = tt
without (fin true m d) false e f h = absurd (subst T (eq_comm nothing (fin true m d) ∙ e) h)

pub normalised-sign : (x : Float) → T (finite (normalised_of x)) → T (le nothing (normalised_of x)) → T (nonnegative (normalised_of x))
unfolding normalised_of
normalised-sign x f h = without x (eq x nothing) refl f h

fits_by : (x : Float) (b : Bool) → T (fits binary64 x) → T (fits binary64 (cond b nothing x))
unfolding of_bits fits
fits_by x true f = tt
fits_by x false f = f

pub normalised-fits : (x : Float) → T (fits binary64 x) → T (fits binary64 (normalised_of x))
unfolding normalised_of
normalised-fits x f = fits_by x (eq x nothing) f

-- ---- a part up to 32,768 in magnitude
part_limit : Up largest_part (2 ^ 15) 1
unfolding of_bits
part_limit = up-test largest_part (2 ^ 15) 1 tt

bare-bound : (m : ℕ) (n d : ℕ) → m ≡ n * 1 → m ≤ 2 ^ 15 * d → n ≤ 2 ^ 15 * d
bare-bound m n d e h = omega arith

part_by : (x : Float) → T (finite x) → T (le (neg largest_part) x) → T (le x largest_part) → num x ≤ 2 ^ 15 * den x
unfolding neg
part_by nan f g h = absurd f
part_by (inf s) f g h = absurd f
part_by (fin false m d) f g h = bare-bound _ (m * up d) (down d) refl (up-of-le (fin false m d) largest_part tt h part_limit).bound
part_by (fin true m d) f g h = bare-bound _ (m * up d) (down d) refl (up-of-le (fin false m d) largest_part tt (subst T (le-neg-l largest_part (fin true m d)) g) part_limit).bound

part-bound : (x : Float) → T (finite x) → T (part_inside x) → num x ≤ 2 ^ 15 * den x
unfolding part_inside
part-bound x f h = part_by x f (and_l (le (neg largest_part) x) (le x largest_part) h) (and_r (le (neg largest_part) x) (le x largest_part) h)

-- ---- the order
module _ (v re im : Float) (length : ℕ) (p : Passed (arguments_of v re im) length) where
  fine : T (finite (normalised_of v) && (finite (normalised_of re) && finite im))
  unfolding arguments_of are_finite
  fine = subst T (sym p.fine) tt

  fine-order : T (finite (normalised_of v))
  fine-order = and_l (finite (normalised_of v)) (finite (normalised_of re) && finite im) fine

  fine-re : T (finite (normalised_of re))
  fine-re = and_l (finite (normalised_of re)) (finite im) (and_r (finite (normalised_of v)) (finite (normalised_of re) && finite im) fine)

  fine-im : T (finite im)
  fine-im = and_r (finite (normalised_of re)) (finite im) (and_r (finite (normalised_of v)) (finite (normalised_of re) && finite im) fine)

  pub order-limits : T (nonnegative (arguments_of v re im).order) × T (le (arguments_of v re im).order largest_order)
  unfolding arguments_of order_inside
  order-limits =
      let t : T (le nothing (normalised_of v) && le (normalised_of v) largest_order) = subst T (sym p.inside.order) tt in
      (normalised-sign v fine-order (and_l (le nothing (normalised_of v)) (le (normalised_of v) largest_order) t), and_r (le nothing (normalised_of v)) (le (normalised_of v) largest_order) t)

  pub order-up : Up (arguments_of v re im).order 1000 1
  order-up = order-limit (arguments_of v re im).order order-limits.0 order-limits.1

  -- ---- the modulus
  pub modulus-limit : T (fits binary64 re) → T (fits binary64 im) → Up (arguments_of v re im).modulus (2 ^ 16) 1
  unfolding arguments_of size_inside modulus_of
  modulus-limit Fr Fi =
      let x = normalised_of re in
      let t : T (part_inside x && part_inside im) = subst T (sym p.inside.size) tt in
      modulus-up x im (normalised-fits re Fr) Fi fine-re fine-im (part-bound x fine-re (and_l (part_inside x) (part_inside im) t)) (part-bound im fine-im (and_r (part_inside x) (part_inside im) t))

-- the modulus is that of the argument
pub modulus-own : (v re im : Float) → (arguments_of v re im).modulus ≡ modulus_of (arguments_of v re im).z
unfolding arguments_of
modulus-own v re im = refl

-- ---- what the kernels ask of an admitted call
pub k-ready :
    (v re im : Float) (a : Arguments) (length : ℕ) → a ≡ arguments_of v re im → verdict_of (k_checks a length) ≡ Admitted →
    (length_inside length ≡ true) × T (nonnegative a.order) × T (le a.order largest_order) × (a.modulus ≡ modulus_of a.z)
k-ready v re im a length e h =
    subst (λ (b : Arguments). (length_inside length ≡ true) × T (nonnegative b.order) × T (le b.order largest_order) × (b.modulus ≡ modulus_of b.z)) (sym e) (own (subst (λ (b : Arguments). verdict_of (k_checks b length) ≡ Admitted) e h))
  where
    own : let b = arguments_of v re im in verdict_of (k_checks b length) ≡ Admitted → (length_inside length ≡ true) × T (nonnegative b.order) × T (le b.order largest_order) × (b.modulus ≡ modulus_of b.z)
    own h =
        let b = arguments_of v re im in
        let p = k-passed b length (admitted-none (k_checks b length) h) in
        let o = order-limits v re im length p in
        (p.lent, o.0, o.1, modulus-own v re im)

pub series-ready : (a : Arguments) (length : ℕ) → verdict_of (series_checks a length) ≡ Admitted → length_inside length ≡ true
series-ready a length h = (series-passed a length (admitted-none (series_checks a length) h)).0.lent
