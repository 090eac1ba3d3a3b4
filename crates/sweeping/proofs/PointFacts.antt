-- One frame behind the other: what is written after j points, and one point more. Assumes nothing.
use mathlib.Core.Path.{◌≡◌, refl, sym, ap, ◌∙◌, subst}
use mathlib.Core.List.{List, [], ◌∷◌, ◌++◌, append_assoc}
use mathlib.Core.Bool.{false}
use Prim.Native.Nat.{ℕ, zero, suc, ◌+◌, ◌-◌, ◌*◌, ◌≤◌, ◌<◌, zero-le}
use native.Mathlib.Numerals.{add-one}
use native.Mathlib.Omega.{arith}
use lib.Dec.{eqb}
use lib.Ieee.{Float}
use lib.ListN.{length, drop, set, length-append}
use Rattle.laws.specs.Operators.{◌⊕◌, ◌⊖◌, ◌⊗◌, ◌⊘◌}
use Rattle.laws.proofs.Seam.{Seam, seam-start, seam-store}
use Rattle.splitting.specs.Lines.{newline}
use Rattle.frame.specs.declared.asking.Fields.{Fields}
use Rattle.frame.specs.Layout.{asking_length}
use Rattle.frame.specs.Over.{over}
use Rattle.frame.specs.Asking.{asking_line_of}
use Rattle.frame.proofs.OverFacts.{over-length}
use Rattle.frame.proofs.WriteFacts.{over-next, asking-length}
use Rattle.sweeping.specs.declared.request.Request.{Request}
use Rattle.sweeping.specs.Points.{whole, step_of, part_with, part_at, fields_with, fields_at, frames_up_to}
use Rattle.sweeping.specs.Sweep.{line_length}

-- ---- from the start: bytes over the first ones, as a seam and back
pub seam-over : (d p out : List ℕ) (n : ℕ) → Seam d p n out → out ≡ over 0 p d
unfolding over
seam-over d p out n s = let e : n ≡ 0 + length p = omega (arith, s.count) in s.is ∙ ap (λ (k : ℕ). p ++ drop k d) e

pub over-seam : (d p out : List ℕ) (n : ℕ) → length p ≡ n → n ≤ length d → out ≡ over 0 p d → Seam d p n out
unfolding over
over-seam d p out n e h f =
    let e' : 0 + length p ≡ n = omega (arith, e) in
    record {
      count = e;
      room = h;
      same = ap length f ∙ over-length 0 p [] d (omega arith);
      is = f ∙ ap (λ (k : ℕ). p ++ drop k d) e';
    }

-- ---- each line has 57 bytes
line-is : (r : Request) (j : ℕ) → length (asking_line_of (fields_at r j) ++ (newline ∷ [])) ≡ line_length
line-is r j = length-append (asking_line_of (fields_at r j)) (newline ∷ []) ∙ ap (λ (k : ℕ). k + 1) (asking-length (fields_at r j))

pub frames-length : (r : Request) (j : ℕ) → length (frames_up_to r j) ≡ j * line_length
unfolding frames_up_to
frames-length r zero = refl
frames-length r (suc j) =
    length-append (frames_up_to r j) (asking_line_of (fields_at r j) ++ (newline ∷ []))
    ∙ omega (arith, frames-length r j, line-is r j)

-- ---- a part of a point, as the request has it: of a sweep of one the first itself, and else by the even step
pub first_alone : (first last : Float) (j : ℕ) → part_at first last 1 j ≡ first
unfolding part_with
first_alone first last j = refl

pub even-points : (first last : Float) (s j : ℕ) → eqb s 1 ≡ false → part_at first last s j ≡ first ⊕ whole j ⊗ ((last ⊖ first) ⊘ whole (s - 1))
unfolding part_with step_of
even-points first last s j e = simp e

-- ---- the point's fields, with the step worked out before
pub fields-at :
    (r : Request) (j : ℕ) (step_re step_im re im : Float) (f : Fields) → step_re ≡ step_of r.first_re r.last_re r.steps →
    step_im ≡ step_of r.first_im r.last_im r.steps → re ≡ part_with r.first_re step_re r.steps j → im ≡ part_with r.first_im step_im r.steps j →
    f ≡ fields_with r re im → f ≡ fields_at r j
unfolding fields_at
fields-at r j step_re step_im re im f a b e g h = simp (h, e, g, a, b)

-- ---- after j points
pub record Frames (r : Request) (d out : List ℕ) (at j : ℕ) : Type 0 where
  pub below : j ≤ r.steps
  pub reached : at ≡ j * line_length
  pub seam : Seam d (frames_up_to r j) at out

pub frames-none : (r : Request) (d : List ℕ) → Frames r d d 0 0
unfolding frames_up_to
frames-none r d = record { below = omega arith; reached = refl; seam = seam-start d }

-- there is room for one more
pub frames-room : (r : Request) (d out : List ℕ) (at j : ℕ) → r.steps * line_length ≤ length d → j < r.steps → Frames r d out at j → at + line_length ≤ length out
frames-room r d out at j room less s = omega (arith, s.reached, room, less, s.seam.same)

module _ (r : Request) (d out o : List ℕ) (at j : ℕ) (f : Fields) (room : r.steps * line_length ≤ length d) (less : j < r.steps) (s : Frames r d out at j) where
  abbrev line : List ℕ
  line = asking_line_of f

  fits : at + line_length ≤ length d
  fits = omega (arith, frames-room r d out at j room less s, s.seam.same)

  written : o ≡ over at line out → Seam d (frames_up_to r j ++ line) (at + asking_length) o
  written e =
      let here : at ≡ 0 + length (frames_up_to r j) = omega (arith, s.seam.count) in
      over-seam d (frames_up_to r j ++ line) o (at + asking_length)
      (length-append (frames_up_to r j) line ∙ omega (arith, s.seam.count, asking-length f))
      (omega (arith, fits))
      (over-next 0 at (frames_up_to r j) line d out o zero-le here (seam-over d (frames_up_to r j) out at s.seam) e)

  one_more : f ≡ fields_at r j → (frames_up_to r j ++ line) ++ (newline ∷ []) ≡ frames_up_to r (j + 1)
  unfolding frames_up_to
  one_more e =
      append_assoc (frames_up_to r j) line (newline ∷ [])
      ∙ ap (λ (g : Fields). frames_up_to r j ++ (asking_line_of g ++ (newline ∷ []))) e
      ∙ ap (frames_up_to r) (sym (add-one j))

  ended : at + asking_length + 1 ≡ at + line_length
  ended = omega arith

  pub frames-next : f ≡ fields_at r j → o ≡ over at line out → Frames r d (set o (at + asking_length) newline) (at + line_length) (j + 1)
  frames-next e g =
      let stored = seam-store newline (omega (arith, fits)) (written g) in
      record {
        below = omega arith;
        reached = omega (arith, s.reached);
        seam =
            subst (λ (p : List ℕ). Seam d p (at + line_length) (set o (at + asking_length) newline)) (one_more e)
            (subst (λ (k : ℕ). Seam d ((frames_up_to r j ++ line) ++ (newline ∷ [])) k (set o (at + asking_length) newline)) ended stored);
      }
