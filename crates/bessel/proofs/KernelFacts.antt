-- What K's kernel leaves of its counts and cells, and the judgement that follows. Assumes nothing.
use Rattle.std.specs.Prelude.{Result, Ok, Err}
use mathlib.Core.Path.{◌≡◌, refl, sym, ap, ◌∙◌, subst}
use mathlib.Core.Bool.{Bool, true, false}
use mathlib.Core.List.{List}
use Prim.Native.Nat.{ℕ, ◌/◌, ◌≤◌}
use native.Mathlib.Omega.{arith}
use lib.IntN.{ℤ}
use lib.Ieee.{Float}
use Rattle.refusal.specs.declared.refusal.Refusal.{Refusal}
use Rattle.complex.specs.declared.number.Complex.{Complex}
use Rattle.right_half_plane.specs.declared.kernel.Counts.{Counts}
use Rattle.right_half_plane.specs.Kernel.{Kernel, kernel_of, after_if, afterwards}
use Rattle.right_half_plane.proofs.Delivered.{Delivers, kernel-delivers}
use Rattle.call.specs.Answer.{Answer, signed_of, answered_of}
use Rattle.call.specs.Limits.{length_inside}
use Rattle.call.proofs.LimitFacts.{lent}
use Rattle.bessel.specs.Outcome.{judged_of, concluded_of}
use Rattle.bessel.specs.K.{counts_answer, kernel_steps, Fewer}

-- the zeros of an answer into a buffer that is let in
pub zeros-few : (length : ℕ) (scaled : Bool) (v : Float) (z : Complex) (m : Float) (o : Result Counts Refusal) → length_inside length ≡ true → o ≡ (kernel_of scaled v z m (length / 2)).ending → Fewer o
zeros-few length scaled v z m o e q = subst Fewer (sym q) (go k.ending k.cells (kernel-delivers scaled v z m (length / 2)))
  where
    k : Kernel
    k = kernel_of scaled v z m (length / 2)

    go : (o : Result Counts Refusal) (cells : List Float) → Delivers (length / 2) o cells → Fewer o
    go (Ok c) cells d = let l = lent length e in few c.zeros length l.most d.0
      where
        few : (z n : ℕ) → n ≤ 1024 → z ≤ n / 2 → z ≤ 512
        few z n h d = omega arith
    go (Err r) cells d = tt

-- the judgement of an answer, from the parts of which the code makes it
pub judged-counts : (n : ℕ) (c : Counts) (cells : List Float) (zeros : ℤ) (answer : Answer) → zeros ≡ signed_of false c.zeros → answer ≡ answered_of zeros c.longest_sum c.rungs c.backward → judged_of n answer 0 cells ≡ judged_of n (counts_answer c) 0 cells
unfolding counts_answer
judged-counts n c cells zeros answer d e = ap (λ (x : Answer). judged_of n x 0 cells) (e ∙ ap (λ (k : ℤ). answered_of k c.longest_sum c.rungs c.backward) d)

-- what a refusal left in the cells has no part in the outcome
pub concluded-kernel :
    (length n : ℕ) (k : Kernel) (o : Result Counts Refusal) (cells held : List Float) → n ≡ length → o ≡ k.ending → cells ≡ afterwards k held →
    concluded_of n (kernel_steps o cells) ≡ concluded_of length (kernel_steps k.ending k.cells)
unfolding kernel_steps afterwards after_if
concluded-kernel length n k o cells held a b c =
    ap (λ (m : ℕ). concluded_of m (kernel_steps o cells)) a
    ∙ ap (λ (p : Result Counts Refusal). concluded_of length (kernel_steps p cells)) b
    ∙ ap (λ (l : List Float). concluded_of length (kernel_steps k.ending l)) c
    ∙ ap (concluded_of length) (go k.ending k.cells)
  where
    go : (p : Result Counts Refusal) (l : List Float) → kernel_steps p (after_if p l held) ≡ kernel_steps p l
    go (Ok counts) l = refl
    go (Err r) l = refl
