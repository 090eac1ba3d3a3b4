-- The two seeds K(ν) and K(ν + 1) from Miller's backward steps, ν being the order's fraction. ZBKNU, from label 190 to label 210;
-- `compute_large_z_miller_seeds` of src/amos/right_half_plane.rs. Definitions only.
use Rattle.std.specs.Prelude.{ℕ, Bool, cond, Option, Some, None, Result, Ok, Err, Float}
use Rattle.std.specs.Float.Ieee.{neg}
use Rattle.laws.specs.Operators.{◌⊕◌, ◌⊗◌, ◌⊘◌}
use Rattle.machine.specs.Small.{nothing, half, one}
use Rattle.machine.specs.Magnitude.{magnitude_of}
use Rattle.complex.specs.declared.number.Complex.{Complex}
use Rattle.complex.specs.Functions.{modulus_of}
use Rattle.complex.specs.Arithmetic.{zero_pair, opposite_of, conjugate_of, product_of, quotient_of, over_real, plus_real}
use Rattle.refusal.specs.declared.refusal.Refusal.{Refusal}
use Rattle.refusal.specs.declared.refusal.Refusal.TheVariants.{Start}
use Rattle.miller.specs.declared.point.Point.{Point}
use Rattle.miller.specs.declared.point.Order.{Order}
use Rattle.miller.specs.declared.backward.Steps.{Steps}
use Rattle.miller.specs.declared.seeds.Miller.{Miller}
use Rattle.miller.specs.Point.{is_real}
use Rattle.miller.specs.Search.{start_of}
use Rattle.miller.specs.Backward.{real_steps, complex_steps, on_real_line}

-- label 200: ((fraction + 1/2 - ratio) / x + 1) first, where ratio is the older of the last two values over the newer; 0 where one value
-- alone is asked for
unfoldable pub real_second : Bool → Float → Float → Steps Float → Float → Float
real_second alone x fraction s first =
    let length = magnitude_of s.newer in
    let ratio = s.older ⊘ length ⊗ (s.newer ⊘ length) in
    cond alone nothing (((neg ratio ⊕ fraction ⊕ half) ⊘ x ⊕ one) ⊗ first)

-- S1 behind label 190: the newer value over the sum, (P2/CABS(CS)) (CONJG(CS)/CABS(CS)), times the coefficient
unfoldable pub real_first_seed : Steps Float → Float → Float
real_first_seed s coefficient = let length = magnitude_of s.sum in s.newer ⊘ length ⊗ (s.sum ⊘ length) ⊗ coefficient

unfoldable pub real_seeds : Float → Order → Float → Bool → ℕ → Miller
real_seeds x order coefficient alone start =
    let s = real_steps x order.distance start in
    let first = real_first_seed s coefficient in
    record {
      first = on_real_line first;
      second = on_real_line (real_second alone x order.fraction s first);
      backward = s.steps;
    }

-- K(ν + 1) / K(ν), label 200: w over v is the product of w / |v| with the conjugate of v over |v|
unfoldable pub complex_ratio : Complex → Float → Steps Complex → Complex
complex_ratio z fraction s =
    let length = modulus_of s.newer in
    let ratio = product_of (over_real s.older length) (over_real (conjugate_of s.newer) length) in
    plus_real (quotient_of (plus_real (plus_real (opposite_of ratio) fraction) half) z) one

-- 0 where one value alone is asked for
unfoldable pub complex_second : Bool → Complex → Float → Steps Complex → Complex → Complex
complex_second alone z fraction s first = cond alone zero_pair (product_of (complex_ratio z fraction s) first)

unfoldable pub complex_first_seed : Steps Complex → Complex → Complex
complex_first_seed s coefficient =
    let length = modulus_of s.sum in
    product_of (over_real s.newer length) (product_of coefficient (over_real (conjugate_of s.sum) length))

unfoldable pub complex_seeds : Complex → Order → Complex → Bool → ℕ → Miller
complex_seeds z order coefficient alone start =
    let s = complex_steps z order.distance start in
    let first = complex_first_seed s coefficient in
    record { first = first; second = complex_second alone z order.fraction s first; backward = s.steps }

-- the real path is the real part's
unfoldable pub seeds_from : Point → Order → Complex → Bool → ℕ → Miller
seeds_from point order coefficient alone start =
    cond (is_real point.z) (real_seeds point.z.re order coefficient.re alone start)
    (complex_seeds point.z order coefficient alone start)

unfoldable pub seeds_at : Point → Order → Complex → Bool → Option ℕ → Result Miller Refusal
seeds_at point order coefficient alone (Some start) = Ok (seeds_from point order coefficient alone start)
seeds_at point order coefficient alone None = Err Start

-- no start is refusal 6 (ZBKNU: label 310, NZ = -2)
unfoldable pub seeds_of : Point → Order → Complex → Bool → Result Miller Refusal
seeds_of point order coefficient alone = seeds_at point order coefficient alone (start_of point order)
