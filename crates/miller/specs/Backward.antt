-- Miller's backward steps: k falls from the start to 1, and each step counts itself. ZBKNU, 'BACKWARD RECURRENCE LOOP FOR MILLER
-- ALGORITHM', labels 180 and 190; `compute_large_z_miller_seeds` of src/amos/right_half_plane.rs. DLMF 3.6(iii) has Miller's algorithm, and
-- 10.39.6 K as U(ν + 1/2, 2ν + 1, 2z), whose recurrence in the first argument, 13.3.7, these steps are, with u(k) = (1/4 - ν²)(9/4 - ν²) ..
-- ((k - 1/2)² - ν²) / k! times U(ν + 1/2 + k, 2ν + 1, 2z). Definitions only.
use Rattle.std.specs.Prelude.{ℕ, ◌+◌, Float}
use Rattle.laws.specs.Iterate.{iterate}
use Rattle.machine.specs.Constants.{tolerance}
use Rattle.machine.specs.Small.{nothing, one, two}
use Rattle.laws.specs.Operators.{◌⊕◌, ◌⊖◌, ◌⊗◌, ◌⊘◌}
use Rattle.complex.specs.declared.number.Complex.{Complex}
use Rattle.complex.specs.Arithmetic.{zero_pair, plus_of, minus_of, product_of, times_real, plus_real}
use Rattle.miller.specs.declared.backward.Steps.{Steps}
use Rattle.miller.specs.Trials.{whole}

-- P2 of the loop to label 190: u(k-1) = (u(k) (z + k) 2 k - u(k+1) (k² + k)) / (k² - k + distance), the quotient by its reciprocal
unfoldable pub share_of : Float → Float → Float
share_of distance k = one ⊘ (k ⊗ k ⊖ k ⊕ distance)

unfoldable pub real_next : Float → Float → Steps Float → Float
real_next x distance s =
    let k = s.k in
    (s.newer ⊗ ((x ⊕ k) ⊗ (two ⊗ k)) ⊖ s.older ⊗ (k ⊗ k ⊕ k)) ⊗ share_of distance k

unfoldable pub real_step : Float → Float → Steps Float → Steps Float
real_step x distance s =
    let next = real_next x distance s in
    record { older = s.newer; newer = next; sum = s.sum ⊕ next; k = s.k ⊖ one; steps = s.steps + 1 }

-- P1 = 0, P2 = CS = TOL at label 180
unfoldable pub real_first : ℕ → Steps Float
real_first start = record { older = nothing; newer = tolerance; sum = tolerance; k = whole start; steps = 0 }

unfoldable pub real_steps : Float → Float → ℕ → Steps Float
real_steps x distance start = iterate start (real_step x distance) (real_first start)

-- the same with complex values: z + k adds to the real part alone, and real factors act on each part
unfoldable pub complex_next : Complex → Float → Steps Complex → Complex
complex_next z distance s =
    let k = s.k in
    times_real (minus_of (product_of s.newer (times_real (plus_real z k) (two ⊗ k))) (times_real s.older (k ⊗ k ⊕ k))) (share_of distance k)

unfoldable pub complex_step : Complex → Float → Steps Complex → Steps Complex
complex_step z distance s =
    let next = complex_next z distance s in
    record { older = s.newer; newer = next; sum = plus_of s.sum next; k = s.k ⊖ one; steps = s.steps + 1 }

unfoldable pub on_real_line : Float → Complex
on_real_line x = record { re = x; im = nothing }

unfoldable pub complex_first : ℕ → Steps Complex
complex_first start =
    record {
      older = zero_pair;
      newer = on_real_line tolerance;
      sum = on_real_line tolerance;
      k = whole start;
      steps = 0;
    }

unfoldable pub complex_steps : Complex → Float → ℕ → Steps Complex
complex_steps z distance start = iterate start (complex_step z distance) (complex_first start)
