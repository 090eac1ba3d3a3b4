-- What a call of K gives. Definitions only.
use Rattle.std.specs.Prelude.{Bool, false, not, List, [], ◌∷◌, ◌++◌, ℕ, ◌/◌, ◌≤◌, Float, Result, Ok, Err}
use Rattle.refusal.specs.declared.refusal.Refusal.{Refusal}
use Rattle.refusal.specs.declared.refusal.Refusal.TheVariants.{Start, Climb, Overflow}
use Rattle.cells.specs.AllFinite.{all_finite}
use Rattle.right_half_plane.specs.declared.kernel.Counts.{Counts}
use Rattle.right_half_plane.specs.declared.ground.Ground.{Ground}
use Rattle.right_half_plane.specs.Ground.{ground_of}
use Rattle.right_half_plane.specs.Kernel.{Kernel, kernel_of}
use Rattle.right_half_plane.specs.Refusals.{start_refused, climb_refused}
use Rattle.call.specs.Answer.{Answer, signed_of, answered_of}
use Rattle.call.specs.Checks.{Check, check}
use Rattle.bessel.specs.declared.arguments.Arguments.{Arguments}
use Rattle.bessel.specs.Arguments.{arguments_of}
use Rattle.bessel.specs.Checks.{k_checks}
use Rattle.bessel.specs.Outcome.{Outcome, Steps, Delivered, Stopped, call_outcome}

-- the kernel of an admitted call (ZBKNU)
unfoldable pub kernel_by : Bool → Arguments → ℕ → Kernel
kernel_by scaled a length = kernel_of scaled a.order a.z a.modulus (length / 2)

-- the kernel's counts, with no stop before the end
unfoldable pub counts_answer : Counts → Answer
counts_answer c = answered_of (signed_of false c.zeros) c.longest_sum c.rungs c.backward

-- every cell of an answer is finished
unfoldable pub kernel_steps : Result Counts Refusal → List Float → Steps
kernel_steps (Ok c) cells = Delivered (counts_answer c) 0 cells
kernel_steps (Err r) cells = Stopped r

unfoldable pub k_steps : Bool → Arguments → ℕ → Steps
k_steps scaled a length = let k = kernel_by scaled a length in kernel_steps k.ending k.cells

unfoldable pub k_outcome : Bool → Float → Float → Float → ℕ → Outcome
k_outcome scaled v re im length =
    let a = arguments_of v re im in
    call_outcome (k_checks a length) length (k_steps scaled a length)

-- ---- all checks, those that the steps answer too: 6, 7 and 8 are the last
unfoldable pub ground_by : Arguments → ℕ → Ground
ground_by a length = ground_of a.order a.z a.modulus (length / 2)

unfoldable pub kernel_checks : Bool → Arguments → ℕ → List Check
kernel_checks scaled a length =
    check (start_refused (ground_by a length)) Start
    ∷ check (climb_refused (ground_by a length) scaled) Climb
    ∷ check (not (all_finite (kernel_by scaled a length).cells)) Overflow
    ∷ []

unfoldable pub all_k_checks : Bool → Arguments → ℕ → List Check
all_k_checks scaled a length = k_checks a length ++ kernel_checks scaled a length

-- zeros that a count of the record can hold
abbrev pub Fewer : Result Counts Refusal → Type 0
Fewer (Ok c) = c.zeros ≤ 512
Fewer (Err r) = Unit
