-- Reading and writing an asking line are inverse: the line of fields that fit their places reads as these fields; and the fields that were
-- read fit, and their line is the line. Assumes nothing.
use mathlib.Core.Path.{◌≡◌, refl, sym, ap, ◌∙◌, subst}
use mathlib.Core.Bool.{true}
use mathlib.Core.List.{List, [], ◌++◌, append_assoc, append-nil}
use Prim.Native.Nat.{ℕ}
use native.Mathlib.Omega.{arith}
use borrow.Author.Tests.{eq-eqb}
use lib.ListN.{length, drop, length-append, length-drop}
use lib.Seq.{take_all}
use Rattle.frame.specs.declared.asking.Fields.{Fields}
use Rattle.std.proofs.Common.{Some}
use Rattle.frame.specs.Layout.{byte_width, count_width, float_width, kind_at, scaling_at, count_at, order_at, re_at, im_at, asking_length}
use Rattle.frame.specs.Digits.{are_digits, spelled_of, field_of}
use Rattle.frame.specs.Asking.{fields_of, framed_of, asking_line_of, FieldsFit}
use Rattle.frame.proofs.DigitFacts.{digits_append, spelled-digits}
use Rattle.frame.proofs.SpellFacts.{spelled-length}
use Rattle.frame.proofs.FieldFacts.{field_fits, field-again, field_next, field_at}
use Rattle.frame.proofs.WriteFacts.{asking-length}
use Rattle.frame.proofs.AskingFacts.{framed_is}

-- ---- what was written is read
module _ (f : Fields) where
  abbrev p1 : List ℕ
  p1 = spelled_of byte_width f.kind

  abbrev p2 : List ℕ
  p2 = spelled_of byte_width f.scaling

  abbrev p3 : List ℕ
  p3 = spelled_of count_width f.count

  abbrev p4 : List ℕ
  p4 = spelled_of float_width f.v

  abbrev p5 : List ℕ
  p5 = spelled_of float_width f.re

  abbrev p6 : List ℕ
  p6 = spelled_of float_width f.im

  asking-digits : are_digits (asking_line_of f) ≡ true
  unfolding asking_line_of
  asking-digits =
      digits_append p1 _ (spelled-digits byte_width f.kind)
      (digits_append p2 _ (spelled-digits byte_width f.scaling)
      (digits_append p3 _ (spelled-digits count_width f.count)
      (digits_append p4 _ (spelled-digits float_width f.v) (digits_append p5 p6 (spelled-digits float_width f.re) (spelled-digits float_width f.im)))))

  fields_read : FieldsFit f → fields_of (asking_line_of f) ≡ f
  unfolding fields_of asking_line_of
  fields_read h =
      let line = asking_line_of f in
      let k1 : field_of kind_at byte_width line ≡ f.kind = field_at line [] (p2 ++ (p3 ++ (p4 ++ (p5 ++ p6)))) kind_at byte_width f.kind refl refl h.kind in
      let k2 : field_of scaling_at byte_width line ≡ f.scaling =
      field_at line p1 (p3 ++ (p4 ++ (p5 ++ p6))) scaling_at byte_width f.scaling refl (spelled-length byte_width f.kind) h.scaling in
      let k3 : field_of count_at count_width line ≡ f.count =
      field_at line (p1 ++ p2) (p4 ++ (p5 ++ p6)) count_at count_width f.count (simp append_assoc) (simp (length-append, spelled-length)) h.count in
      let k4 : field_of order_at float_width line ≡ f.v =
      field_at line ((p1 ++ p2) ++ p3) (p5 ++ p6) order_at float_width f.v (simp append_assoc) (simp (length-append, spelled-length)) h.v in
      let k5 : field_of re_at float_width line ≡ f.re =
      field_at line (((p1 ++ p2) ++ p3) ++ p4) p6 re_at float_width f.re (simp append_assoc) (simp (length-append, spelled-length)) h.re in
      let k6 : field_of im_at float_width line ≡ f.im =
      field_at line ((((p1 ++ p2) ++ p3) ++ p4) ++ p5) [] im_at float_width f.im (simp (append_assoc, append-nil)) (simp (length-append, spelled-length)) h.im in
      simp (k1, k2, k3, k4, k5, k6)

  pub asking-read : FieldsFit f → framed_of (asking_line_of f) ≡ Some f
  unfolding framed_of
  asking-read h = simp (eq-eqb (length (asking_line_of f)) asking_length (asking-length f), asking-digits) (ap Some (fields_read h))

-- ---- what was read is written
module _ (line : List ℕ) (l : length line ≡ asking_length) (e : are_digits line ≡ true) where
  fields_fit : FieldsFit (fields_of line)
  unfolding fields_of
  fields_fit = record {
    kind = field_fits kind_at byte_width line (omega arith) e;
    scaling = field_fits scaling_at byte_width line (omega arith) e;
    count = field_fits count_at count_width line (omega arith) e;
    v = field_fits order_at float_width line (omega arith) e;
    re = field_fits re_at float_width line (omega arith) e;
    im = field_fits im_at float_width line (omega arith) e;
  }

  fields-written : asking_line_of (fields_of line) ≡ line
  unfolding asking_line_of fields_of
  fields-written =
      let k6 = field-again im_at float_width line (omega arith) e ∙ take_all float_width (drop im_at line) (omega (arith, length-drop im_at line)) in
      let k5 = field_next re_at float_width line _ (omega arith) e k6 in
      let k4 = field_next order_at float_width line _ (omega arith) e k5 in
      let k3 = field_next count_at count_width line _ (omega arith) e k4 in
      let k2 = field_next scaling_at byte_width line _ (omega arith) e k3 in
      field_next kind_at byte_width line _ (omega arith) e k2

-- ---- in the reader's words
pub asking-fits : (line : List ℕ) (f : Fields) → framed_of line ≡ Some f → FieldsFit f
asking-fits line f e = let k = framed_is line f e in subst FieldsFit (sym k.2) (fields_fit line k.0 k.1)

pub asking-again : (line : List ℕ) (f : Fields) → framed_of line ≡ Some f → asking_line_of f ≡ line
asking-again line f e = let k = framed_is line f e in ap asking_line_of k.2 ∙ fields-written line k.0 k.1
