-- A sweep by its verdict: admitted, it has as many frames as steps, from 1 to 4,096; refused, none. Assumes nothing.
use mathlib.Core.Path.{◌≡◌, refl, sym, ap, ◌∙◌}
use mathlib.Core.Bool.{true, not, not-not}
use mathlib.Core.List.{List, []}
use Prim.Native.Nat.{ℕ, ◌*◌, ◌≤◌, ◌<◌}
use native.Mathlib.Omega.{arith}
use borrow.Author.Tests.{ltb-true, leb-true}
use lib.Dec.{ltb, leb}
use lib.Ieee.Bits.{is_true}
use lib.ListN.{length}
use Rattle.refusal.specs.Number.{number_of}
use Rattle.refusal.specs.declared.refusal.Refusal.{Refusal}
use Rattle.std.proofs.Common.{Ok, Err}
use Rattle.call.specs.Checks.{Verdict, Admitted, Refused, verdict_of, number_given, none_applies}
use Rattle.call.proofs.FirstFacts.{given, admitted-none, none-admitted}
use Rattle.frame.specs.Over.{offered}
use Rattle.frame.proofs.OverFacts.{over_none, offered-room}
use Rattle.frame.proofs.DigitFacts.{both}
use Rattle.sweeping.specs.declared.request.Request.{Request}
use Rattle.sweeping.specs.Points.{normalised_request, frames_up_to}
use Rattle.sweeping.specs.Checks.{steps_inside, sweep_checks}
use Rattle.sweeping.specs.Sweep.{Swept, swept_in, line_length, verdict_for, needed_by, frames_by, swept_of, frames_of}
use Rattle.sweeping.proofs.PointFacts.{frames-length}

-- ---- the steps of an admitted sweep
pub steps-are : (s : ℕ) → steps_inside s ≡ true → (1 ≤ s) × (s ≤ 4096)
unfolding steps_inside
steps-are s e = let t = both (ltb 0 s) (leb s 4096) e in (ltb-true 0 s t.0, leb-true s 4096 t.1)

pub admitted-steps : (r : Request) → verdict_of (sweep_checks r) ≡ Admitted → (1 ≤ r.steps) × (r.steps ≤ 4096)
unfolding none_applies sweep_checks
admitted-steps r e = steps-are r.steps (sym (not-not (steps_inside r.steps)) ∙ (both (not (not (steps_inside r.steps))) _ (admitted-none (sweep_checks r) e)).0)

-- ---- by the verdict
pub admitted-swept : (q : Request) → verdict_for q ≡ Admitted → swept_of q ≡ record { number = 0; needed = q.steps * line_length }
unfolding swept_of needed_by number_given
admitted-swept q e = simp e

pub admitted-frames : (q : Request) → verdict_for q ≡ Admitted → frames_of q ≡ frames_up_to (normalised_request q) q.steps
unfolding frames_of frames_by
admitted-frames q e = simp e

pub refused-swept : (q : Request) (x : Refusal) → verdict_for q ≡ Refused x → swept_of q ≡ record { number = number_of x; needed = 0 }
unfolding swept_of needed_by number_given
refused-swept q x e = simp e

pub refused-frames : (q : Request) (x : Refusal) → verdict_for q ≡ Refused x → frames_of q ≡ []
unfolding frames_of frames_by
refused-frames q x e = simp e

-- nothing offered
pub offered-nothing : (d : List ℕ) → d ≡ offered [] d
offered-nothing d = sym (offered-room [] d (omega arith) ∙ over_none 0 d)

-- in the writer's words, of the request with its zeros made +0
pub verdict-is : (q r : Request) (v w : Verdict) → r ≡ normalised_request q → v ≡ verdict_of (sweep_checks r) → v ≡ w → verdict_for q ≡ w
unfolding verdict_for
verdict-is q r v w e f g = ap (λ (x : Request). verdict_of (sweep_checks x)) (sym e) ∙ sym f ∙ g

pub admitted-outcome :
    (q r : Request) (n : ℕ) (o d : List ℕ) → r ≡ normalised_request q → verdict_for q ≡ Admitted → n ≡ r.steps * line_length →
    o ≡ offered (frames_up_to r r.steps) d → (swept_in (Ok n) ≡ swept_of q) × (o ≡ offered (frames_of q) d)
unfolding normalised_request
admitted-outcome q r n o d e v f g = (
  ap (λ (k : ℕ). swept_in (Ok k)) (f ∙ ap (λ (x : Request). x.steps * line_length) e) ∙ sym (admitted-swept q v),
  g ∙ ap (λ (x : Request). offered (frames_up_to x x.steps) d) e ∙ ap (λ (l : List ℕ). offered l d) (sym (admitted-frames q v)),
)

pub refused-outcome : (q : Request) (x : Refusal) (d : List ℕ) → verdict_for q ≡ Refused x → (swept_in (Err x) ≡ swept_of q) × (d ≡ offered (frames_of q) d)
refused-outcome q x d v = (sym (refused-swept q x v), offered-nothing d ∙ ap (λ (l : List ℕ). offered l d) (sym (refused-frames q x v)))

-- ---- what is needed is what is written, at most 4,096 lines; a refusal has nothing
module _ (q : Request) where
  by-verdict : (v : Verdict) → verdict_for q ≡ v → ((swept_of q).needed ≡ length (frames_of q)) × (length (frames_of q) ≤ 233472)
  unfolding verdict_for normalised_request
  by-verdict (Ok admitted) e =
      let n : length (frames_of q) ≡ q.steps * line_length = ap length (admitted-frames q e) ∙ frames-length (normalised_request q) q.steps in
      let s = admitted-steps (normalised_request q) e in
      (ap (λ (s : Swept). s.needed) (admitted-swept q e) ∙ sym n, omega (arith, n, s.1))
  by-verdict (Err x) e =
      let n : length (frames_of q) ≡ 0 = ap length (refused-frames q x e) in
      (ap (λ (s : Swept). s.needed) (refused-swept q x e) ∙ sym n, omega (arith, n))

  pub sweep-needed : (swept_of q).needed ≡ length (frames_of q)
  sweep-needed = (by-verdict (verdict_for q) refl).0

  pub sweep-most : length (frames_of q) ≤ 233472
  sweep-most = (by-verdict (verdict_for q) refl).1

  none-if : (v : Verdict) → verdict_for q ≡ v → 0 < (swept_of q).number → frames_of q ≡ []
  none-if (Ok admitted) e h = absurd (let z : (swept_of q).number ≡ 0 = ap (λ (s : Swept). s.number) (admitted-swept q e) in omega (arith, z, h))
  none-if (Err x) e h = refused-frames q x e

  pub refused_none : 0 < (swept_of q).number → frames_of q ≡ []
  refused_none h = none-if (verdict_for q) refl h

-- ---- by the number: 0 is an accepted sweep
pub accepted : (q : Request) → (swept_of q).number ≡ 0 → verdict_for q ≡ Admitted
unfolding swept_of verdict_for
accepted q e = let cs = sweep_checks (normalised_request q) in none-admitted cs (is_true (none_applies cs) ((given cs).none.0 e))

pub accepted-needed : (q : Request) → (swept_of q).number ≡ 0 → (swept_of q).needed ≡ q.steps * line_length
accepted-needed q e = ap (λ (s : Swept). s.needed) (admitted-swept q (accepted q e))

pub accepted-frames : (q : Request) → (swept_of q).number ≡ 0 → frames_of q ≡ frames_up_to (normalised_request q) q.steps
accepted-frames q e = admitted-frames q (accepted q e)
