-- The frames of a sweep, read back: one line a point, in order, with the sweep's kind, scaling, count and order and the point itself. Assumes nothing.
use mathlib.Core.Path.{◌≡◌, refl, sym, ap, ◌∙◌}
use mathlib.Core.Bool.{Bool, true, false, not, cond, ◌||◌, not-not}
use mathlib.Core.List.{List, [], ◌∷◌, ◌++◌, map, map-append}
use Prim.Native.Nat.{ℕ, zero, suc, ◌<◌}
use native.Mathlib.Omega.{arith}
use borrow.Author.Tests.{eqb-true, ltb-false, leb-true}
use lib.Dec.{T, ltb, leb, eqb}
use lib.Ieee.{Float, binary64, fits, eq}
use lib.Ieee.Bits.{of_bits-to_bits, of_bits-fits, to_bits-lt}
use lib.Ieee.Fits.{add-fits, cond-fits}
use Rattle.machine.specs.Small.{nothing}
use Rattle.splitting.specs.Lines.{newline, lines_of, ended_lines, is_plain, are_plain}
use Rattle.splitting.proofs.EndedFacts.{lines-ended, ended-lines-append, plain-append}
use Rattle.call.specs.declared.kind.Kind.TheVariants.{K, I}
use Rattle.call.specs.Limits.{normalised_of}
use Rattle.call.specs.Checks.{Admitted, verdict_of, none_applies}
use Rattle.call.proofs.FirstFacts.{admitted-none}
use Rattle.std.proofs.Common.{Option, None, Some}
use Rattle.frame.specs.declared.asking.Fields.{Fields}
use Rattle.frame.specs.declared.asking.Asking.{Asking}
use Rattle.frame.specs.Digits.{is_digit, are_digits}
use Rattle.frame.specs.Asking.{framed_of, asking_of, asked_of, asked_in, parsed_of, asking_line_of, FieldsFit}
use Rattle.frame.proofs.DigitFacts.{both}
use Rattle.frame.proofs.AskingInverse.{asking-read}
use Rattle.frame.proofs.AskingFacts.{framed_is}
use Rattle.sweeping.specs.declared.request.Request.{Request}
use Rattle.sweeping.specs.Points.{normalised_request, part_with, re_at, im_at, fields_with, fields_at, frames_up_to}
use Rattle.sweeping.specs.Checks.{steps_inside, count_inside, frame_has, sweep_checks}
use Rattle.sweeping.specs.Sweep.{verdict_for, frames_of}
use Rattle.sweeping.specs.ReadBack.{asking_at, lines_up_to, fields_up_to, askings_up_to, AreValues}
use Rattle.sweeping.proofs.NumberFacts.{frame-has}
use Rattle.sweeping.proofs.SweepFacts.{admitted-frames}

-- ---- a line of digits has no newline
no-newline : (c : ℕ) (b : Bool) → eqb c newline ≡ b → is_digit c ≡ true → not b ≡ true
unfolding is_digit
no-newline c true e d = absurd (let z = eqb-true c newline e in let w : is_digit 10 ≡ true = ap is_digit (sym z) ∙ d in let z : ◌≡◌ {A = ℕ} 0 1 = cc in omega arith)
no-newline c false e d = refl

digits-plain : (l : List ℕ) → are_digits l ≡ true → is_plain l ≡ true
unfolding are_digits is_plain
digits-plain [] e = refl
digits-plain (c ∷ l) e = let p = both (is_digit c) (are_digits l) e in simp (no-newline c (eqb c newline) refl p.0, digits-plain l p.1)

module _ (r : Request) (has : frame_has r ≡ true) (few : count_inside r.count ≡ true) (values : AreValues r) where
  tests : (not (ltb 1 r.scaling) ≡ true) × ((eqb r.kind 1 || eqb r.kind 2) ≡ true)
  tests = both (not (ltb 1 r.scaling)) (eqb r.kind 1 || eqb r.kind 2) (sym (frame-has r) ∙ has)

  small-if : (a b : Bool) → eqb r.kind 1 ≡ a → eqb r.kind 2 ≡ b → (a || b) ≡ true → r.kind < 256
  small-if true b e f g = let z = eqb-true r.kind 1 e in omega (arith, z)
  small-if false true e f g = let z = eqb-true r.kind 2 f in omega (arith, z)
  small-if false false e f g = absurd (let z : ◌≡◌ {A = ℕ} 0 1 = cc in omega arith)

  small-kind : r.kind < 256
  small-kind = small-if (eqb r.kind 1) (eqb r.kind 2) refl refl tests.1

  plain-scaling : ltb 1 r.scaling ≡ false
  plain-scaling = sym (not-not (ltb 1 r.scaling)) ∙ ap not tests.0

  small-scaling : r.scaling < 256
  small-scaling = let z = ltb-false 1 r.scaling plain-scaling in omega (arith, z)

  small_count : r.count < 65536
  unfolding count_inside
  small_count = let z = leb-true r.count 512 (both (ltb 0 r.count) (leb r.count 512) few).1 in omega (arith, z)

  part-fits : (first step : Float) (steps j : ℕ) → T (fits binary64 first) → T (fits binary64 (part_with first step steps j))
  unfolding part_with
  part-fits first step steps j h = cond-fits binary64 (eqb steps 1) first _ h (add-fits binary64 first _)

  module _ (j : ℕ) where
    re-fits : T (fits binary64 (re_at r j))
    re-fits = part-fits r.first_re _ r.steps j values.re

    im-fits : T (fits binary64 (im_at r j))
    im-fits = part-fits r.first_im _ r.steps j values.im

    fields_fit : FieldsFit (fields_at r j)
    unfolding fields_at fields_with
    fields_fit = record {
      kind = small-kind;
      scaling = small-scaling;
      count = small_count;
      v = to_bits-lt binary64 r.v values.v;
      re = to_bits-lt binary64 (re_at r j) re-fits;
      im = to_bits-lt binary64 (im_at r j) im-fits;
    }

    framed : framed_of (asking_line_of (fields_at r j)) ≡ Some (fields_at r j)
    framed = asking-read (fields_at r j) fields_fit

    by_kind : (a b : Bool) → eqb r.kind 1 ≡ a → (a || b) ≡ true → cond a (Some (asking_of K (fields_at r j))) (cond b (Some (asking_of I (fields_at r j))) None) ≡ Some (asking_at r j)
    unfolding asking_of asking_at fields_at fields_with
    by_kind true b e f = simp (e, of_bits-to_bits binary64 r.v values.v, of_bits-to_bits binary64 (re_at r j) re-fits, of_bits-to_bits binary64 (im_at r j) im-fits)
    by_kind false true e f = simp (e, of_bits-to_bits binary64 r.v values.v, of_bits-to_bits binary64 (re_at r j) re-fits, of_bits-to_bits binary64 (im_at r j) im-fits)
    by_kind false false e f = absurd (let z : ◌≡◌ {A = ℕ} 0 1 = cc in omega arith)

    asked : asked_of (fields_at r j) ≡ Some (asking_at r j)
    unfolding asked_of fields_at fields_with
    asked = rw plain-scaling (by_kind (eqb r.kind 1) (eqb r.kind 2) refl tests.1)

    parsed : parsed_of (asking_line_of (fields_at r j)) ≡ Some (asking_at r j)
    unfolding parsed_of asked_in
    parsed = ap asked_in framed ∙ asked

  -- ---- the lines
  lines_are : (j : ℕ) → frames_up_to r j ≡ ended_lines (lines_up_to r j)
  unfolding frames_up_to lines_up_to ended_lines
  lines_are zero = refl
  lines_are (suc j) =
      let l = asking_line_of (fields_at r j) in
      ap (λ (x : List ℕ). x ++ (l ++ (newline ∷ []))) (lines_are j) ∙ sym (ended-lines-append (lines_up_to r j) (l ∷ []))

  lines-plain : (j : ℕ) → are_plain (lines_up_to r j) ≡ true
  unfolding lines_up_to are_plain
  lines-plain zero = refl
  lines-plain (suc j) =
      let l = asking_line_of (fields_at r j) in
      plain-append (lines_up_to r j) (l ∷ []) (lines-plain j) (simp (digits-plain l (framed_is l (fields_at r j) (framed j)).1))

  lines-back : (j : ℕ) → lines_of (frames_up_to r j) ≡ lines_up_to r j
  lines-back j = ap lines_of (lines_are j) ∙ lines-ended (lines_up_to r j) (lines-plain j)

  fields_back : (j : ℕ) → map framed_of (lines_up_to r j) ≡ fields_up_to r j
  unfolding lines_up_to fields_up_to
  fields_back zero = refl
  fields_back (suc j) =
      let l = asking_line_of (fields_at r j) in
      map-append framed_of (lines_up_to r j) (l ∷ [])
      ∙ ap (λ (x : List (Option Fields)). x ++ (framed_of l ∷ [])) (fields_back j)
      ∙ ap (λ (x : Option Fields). fields_up_to r j ++ (x ∷ [])) (framed j)

  askings-back : (j : ℕ) → map parsed_of (lines_up_to r j) ≡ askings_up_to r j
  unfolding lines_up_to askings_up_to
  askings-back zero = refl
  askings-back (suc j) =
      let l = asking_line_of (fields_at r j) in
      map-append parsed_of (lines_up_to r j) (l ∷ [])
      ∙ ap (λ (x : List (Option Asking)). x ++ (parsed_of l ∷ [])) (askings-back j)
      ∙ ap (λ (x : Option Asking). askings_up_to r j ++ (x ∷ [])) (parsed j)

-- ---- of an accepted sweep
values-kept : (q : Request) → AreValues q → AreValues (normalised_request q)
unfolding normalised_request normalised_of
values-kept q h = record {
  v = cond-fits binary64 (eq q.v nothing) nothing q.v (of_bits-fits binary64 0) h.v;
  re = cond-fits binary64 (eq q.first_re nothing) nothing q.first_re (of_bits-fits binary64 0) h.re;
  im = h.im;
}

kept : (r : Request) → verdict_of (sweep_checks r) ≡ Admitted → (frame_has r ≡ true) × (count_inside r.count ≡ true)
unfolding sweep_checks none_applies
kept r e =
    let s = not (not (steps_inside r.steps)) in
    let f = not (not (frame_has r)) in
    let n = not (not (count_inside r.count)) in
    let a = both s _ (admitted-none (sweep_checks r) e) in
    let b = both f _ a.1 in
    let c = both n _ b.1 in
    (sym (not-not (frame_has r)) ∙ b.0, sym (not-not (count_inside r.count)) ∙ c.0)

-- one line a point, in order; the fields of each; and what each asks for
pub record ReadBack (q : Request) : Type 0 where
  pub lines : lines_of (frames_of q) ≡ lines_up_to (normalised_request q) q.steps
  pub fields : map framed_of (lines_of (frames_of q)) ≡ fields_up_to (normalised_request q) q.steps
  pub askings : map parsed_of (lines_of (frames_of q)) ≡ askings_up_to (normalised_request q) q.steps

pub read_back : (q : Request) → AreValues q → verdict_for q ≡ Admitted → ReadBack q
unfolding verdict_for
read_back q h e =
    let r = normalised_request q in
    let k = kept r e in
    let w = values-kept q h in
    let lines : lines_of (frames_of q) ≡ lines_up_to r q.steps = ap lines_of (admitted-frames q e) ∙ lines-back r k.0 k.1 w q.steps in
    record {
      lines = lines;
      fields = ap (map framed_of) lines ∙ fields_back r k.0 k.1 w q.steps;
      askings = ap (map parsed_of) lines ∙ askings-back r k.0 k.1 w q.steps;
    }
