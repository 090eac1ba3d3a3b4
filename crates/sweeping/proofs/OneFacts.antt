-- A sweep of one: the last pair has no part in it, and every line that the reader takes, within the limits and with no order or real part of -0, is the line of the sweep of
-- one of its fields. Assumes nothing.
use mathlib.Core.Path.{◌≡◌, refl, sym, ap, ◌∙◌, subst}
use mathlib.Core.Bool.{Bool, true, false, cond}
use mathlib.Core.List.{List, [], ◌∷◌, ◌++◌}
use Prim.Native.Nat.{ℕ, zero, suc, ◌^◌, ◌<◌}
use lib.Dec.{T}
use lib.Ieee.{Float, binary64, to_bits, of_bits, eq}
use lib.Ieee.Bits.{to_bits-of_bits, of_bits-fits}
use lib.Ieee.Scale.{finite}
use Rattle.laws.proofs.Value.{finite-no-nan}
use Rattle.laws.proofs.Zero.{zero_of, zero_is}
use Rattle.machine.specs.Small.{nothing}
use Rattle.splitting.specs.Lines.{newline}
use Rattle.call.specs.Checks.{Verdict, Admitted}
use Rattle.call.specs.Limits.{normalised_of, are_finite, order_inside}
use Rattle.call.specs.Checks.{verdict_of, none_applies}
use Rattle.call.proofs.FirstFacts.{none-admitted}
use Rattle.frame.specs.declared.asking.Fields.{Fields}
use Rattle.std.proofs.Common.{Ok, Err, Some}
use Rattle.frame.specs.Asking.{framed_of, asked_of, asking_line_of, FieldsFit}
use Rattle.frame.proofs.AskingInverse.{asking-fits, asking-again}
use Rattle.frame.proofs.DigitFacts.{both}
use Rattle.sweeping.specs.declared.request.Request.{Request}
use Rattle.sweeping.specs.Points.{normalised_request, part_with, fields_with, fields_at, frames_up_to}
use Rattle.sweeping.specs.Checks.{steps_inside, count_inside, is_asked, frame_has, of_ends, ends_finite, ends_signed, ends_sized, sweep_checks}
use Rattle.sweeping.specs.Sweep.{Swept, verdict_for, needed_by, frames_by, swept_of, frames_of}
use Rattle.sweeping.specs.ReadBack.{one_of, Taken, alone_with}
use Rattle.sweeping.proofs.SweepFacts.{admitted-swept, admitted-frames}

-- ---- a value that is not -0 stays, and its bits are its pattern's
module _ (b : ℕ) (h : b < 2 ^ 64) (f : T (finite (of_bits binary64 b))) where
  pub bits_back : to_bits binary64 (of_bits binary64 b) ≡ b
  bits_back = to_bits-of_bits binary64 b h (finite-no-nan (of_bits binary64 b) f)

  minus : of_bits binary64 b ≡ zero_of true → b ≡ 0x8000000000000000
  unfolding to_bits
  minus e = sym bits_back ∙ ap (to_bits binary64) e

  zero-case : (b ≡ 0x8000000000000000 → ⊥) → ((s : Bool) × (of_bits binary64 b ≡ zero_of s)) → nothing ≡ of_bits binary64 b
  unfolding of_bits
  zero-case k (true, z) = absurd (k (minus z))
  zero-case k (false, z) = sym z

  stays-if : (t : Bool) → eq (of_bits binary64 b) nothing ≡ t → (b ≡ 0x8000000000000000 → ⊥) → cond t nothing (of_bits binary64 b) ≡ of_bits binary64 b
  stays-if true e k = zero-case k (zero_is (of_bits binary64 b) (of_bits-fits binary64 b) e)
  stays-if false e k = refl

  pub stays : (b ≡ 0x8000000000000000 → ⊥) → normalised_of (of_bits binary64 b) ≡ of_bits binary64 b
  unfolding normalised_of
  stays k = stays-if (eq (of_bits binary64 b) nothing) refl k

-- ---- the line of the sweep of one
module _ (line : List ℕ) (f : Fields) (read : framed_of line ≡ Some f) (t : Taken f) (x y : Float) where
  fit : FieldsFit f
  fit = asking-fits line f read

  true-is : (b : Bool) → b ≡ true → T b
  true-is b e = subst T (sym e) tt

  finites : T (finite (of_bits binary64 f.v)) × T (finite (of_bits binary64 f.re)) × T (finite (of_bits binary64 f.im))
  unfolding are_finite
  finites =
      let a = both (finite (of_bits binary64 f.v)) _ t.finite in
      let b = both (finite (of_bits binary64 f.re)) (finite (of_bits binary64 f.im)) a.1 in
      (true-is _ a.0, true-is _ b.0, true-is _ b.1)

  abbrev one : Request
  one = normalised_request (one_of f x y)

  order-stays : one.v ≡ of_bits binary64 f.v
  unfolding normalised_request one_of
  order-stays = stays f.v fit.v finites.0 t.plus-order

  re-stays : one.first_re ≡ of_bits binary64 f.re
  unfolding normalised_request one_of
  re-stays = stays f.re fit.re finites.1 t.plus-re

  first-fields : fields_with one one.first_re one.first_im ≡ f
  unfolding fields_with normalised_request one_of
  first-fields =
      let v = ap (to_bits binary64) order-stays ∙ bits_back f.v fit.v finites.0 in
      let re = ap (to_bits binary64) re-stays ∙ bits_back f.re fit.re finites.1 in
      let im = bits_back f.im fit.im finites.2 in
      simp (v, re, im)

  point-fields : fields_at one 0 ≡ f
  unfolding fields_at part_with normalised_request one_of
  point-fields = first-fields

  steps-kept : steps_inside one.steps ≡ true
  unfolding steps_inside normalised_request one_of
  steps-kept = refl

  frame-kept : frame_has one ≡ true
  unfolding frame_has
  frame-kept = ap (λ (g : Fields). is_asked (asked_of g)) first-fields ∙ t.asked

  count_kept : count_inside one.count ≡ true
  unfolding normalised_request one_of
  count_kept = t.count

  finite-kept : ends_finite one ≡ true
  unfolding ends_finite of_ends normalised_request one_of
  finite-kept = simp (order-stays, re-stays, t.finite)

  order-kept : order_inside one.v ≡ true
  order-kept = ap order_inside order-stays ∙ t.order

  sign_kept : ends_signed one ≡ true
  unfolding ends_signed of_ends normalised_request one_of
  sign_kept = simp (re-stays, t.sign)

  size-kept : ends_sized one ≡ true
  unfolding ends_sized of_ends normalised_request one_of
  size-kept = simp (re-stays, t.size)

  passes : none_applies (sweep_checks one) ≡ true
  unfolding none_applies sweep_checks
  passes = simp (steps-kept, frame-kept, count_kept, finite-kept, order-kept, sign_kept, size-kept)

  pub one-admitted : verdict_for (one_of f x y) ≡ Admitted
  unfolding verdict_for
  one-admitted = none-admitted (sweep_checks one) passes

  pub one_number : (swept_of (one_of f x y)).number ≡ 0
  one_number = ap (λ (s : Swept). s.number) (admitted-swept (one_of f x y) one-admitted)

  pub one_line : frames_of (one_of f x y) ≡ line ++ (newline ∷ [])
  unfolding frames_up_to one_of
  one_line =
      admitted-frames (one_of f x y) one-admitted
      ∙ ap (λ (g : Fields). asking_line_of g ++ (newline ∷ [])) point-fields
      ∙ ap (λ (l : List ℕ). l ++ (newline ∷ [])) (asking-again line f read)

-- ---- the last pair has no part in a sweep of one
module _ (r : Request) (x y x' y' : Float) where
  abbrev a : Request
  a = normalised_request (alone_with r x y)

  abbrev b : Request
  b = normalised_request (alone_with r x' y')

  same-checks : sweep_checks a ≡ sweep_checks b
  unfolding sweep_checks frame_has ends_finite ends_signed ends_sized of_ends fields_with normalised_request alone_with
  same-checks = refl

  same-verdict : verdict_for (alone_with r x y) ≡ verdict_for (alone_with r x' y')
  unfolding verdict_for
  same-verdict = ap verdict_of same-checks

  same-fields : (j : ℕ) → fields_at a j ≡ fields_at b j
  unfolding fields_at fields_with part_with normalised_request alone_with
  same-fields j = refl

  same-frames : (j : ℕ) → frames_up_to a j ≡ frames_up_to b j
  unfolding frames_up_to
  same-frames zero = refl
  same-frames (suc j) =
      ap (λ (l : List ℕ). l ++ (asking_line_of (fields_at a j) ++ (newline ∷ []))) (same-frames j)
      ∙ ap (λ (f : Fields). frames_up_to b j ++ (asking_line_of f ++ (newline ∷ []))) (same-fields j)

  by_frames : (v : Verdict) → frames_by v (alone_with r x y) ≡ frames_by v (alone_with r x' y')
  unfolding frames_by alone_with
  by_frames (Ok admitted) = same-frames 1
  by_frames (Err refusal) = refl

  by-needed : (v : Verdict) → needed_by v (alone_with r x y) ≡ needed_by v (alone_with r x' y')
  unfolding needed_by alone_with
  by-needed (Ok admitted) = refl
  by-needed (Err refusal) = refl

  pub alone-swept : swept_of (alone_with r x y) ≡ swept_of (alone_with r x' y')
  unfolding swept_of
  alone-swept = simp (same-verdict, by-needed)

  pub alone-frames : frames_of (alone_with r x y) ≡ frames_of (alone_with r x' y')
  unfolding frames_of
  alone-frames = ap (λ (v : Verdict). frames_by v (alone_with r x y)) same-verdict ∙ by_frames (verdict_for (alone_with r x' y'))
