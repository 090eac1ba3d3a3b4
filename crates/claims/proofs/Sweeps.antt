-- The claims of the sweep: its numbers, its points, the bytes, what is read back from them, the request line, and what C is handed. Assumes nothing.
use Rattle.std.specs.Prelude.{Option, Some, None}
use mathlib.Core.Path.{◌≡◌, refl, sym, ap, ◌∙◌, subst}
use mathlib.Core.Bool.{false, not, ◌&&◌, ◌||◌}
use mathlib.Core.List.{List, [], ◌∷◌, ◌++◌}
use Prim.Native.Nat.{ℕ, ◌*◌, ◌-◌, ◌≤◌, ◌<◌}
use lib.Dec.{T, ltb, leb, eqb}
use lib.Ieee.{Float}
use lib.ListN.{length}
use Rattle.laws.specs.Operators.{◌⊕◌, ◌⊖◌, ◌⊗◌, ◌⊘◌}
use Rattle.splitting.specs.Lines.{newline}
use Rattle.call.specs.Limits.{are_finite, sign_inside, size_inside}
use Rattle.call.specs.Checks.{numbers_of}
use Rattle.call.proofs.FirstFacts.{is_one_of}
use Rattle.frame.specs.declared.asking.Fields.{Fields}
use Rattle.frame.specs.Over.{over, offered}
use Rattle.frame.specs.Asking.{framed_of}
use Rattle.frame.proofs.OverFacts.{offered-room, offered-none}
use Rattle.answering.specs.Lines.{answers_of, output_of}
use Rattle.sweeping.specs.declared.request.Request.{Request}
use Rattle.sweeping.specs.Points.{normalised_request, whole, part_at, frames_up_to}
use Rattle.sweeping.specs.Checks.{steps_inside, count_inside, frame_has, of_ends, ends_finite, ends_signed, ends_sized, sweep_checks}
use Rattle.sweeping.specs.Sweep.{line_length, swept_of, frames_of}
use Rattle.sweeping.specs.Line.{requested_of, swept_by, frames_in, line_swept, line_bytes}
use Rattle.sweeping.specs.ReadBack.{lines_up_to, AreValues, one_of, Taken, alone_with}
use Rattle.sweeping.proofs.PointFacts.{first_alone, even-points}
use Rattle.sweeping.proofs.NumberFacts.{NumberOfSweep, number-of-sweep, listed, frame-has}
use Rattle.sweeping.proofs.SweepFacts.{accepted, accepted-needed, accepted-frames, sweep-needed, refused_none, offered-nothing}
use Rattle.sweeping.proofs.ReadBack.{ReadBack, read_back}
use Rattle.sweeping.proofs.OneFacts.{one_number, one_line, alone-swept, alone-frames}
use Rattle.sweeping.proofs.Examples.{example_request, example_frames, example-frames}
use Rattle.capi.specs.Outcome.{sweep_of}
use Rattle.claims.proofs.Determined.{Determined, Gives, one-outcome}

-- the one of two lines that is taken by a sweep's number
no-other-line : (q : Option Request) → T (is_one_of (swept_by q).number (0 ∷ 13 ∷ 9 ∷ 1 ∷ 2 ∷ 3 ∷ 11 ∷ 12 ∷ []))
unfolding swept_by
no-other-line (Some r) = (number-of-sweep r).no_other
no-other-line None = tt

pub record OfSweep : Type 0 where
  -- the contract of `sweep` gives the number, how many bytes are needed, and the bytes that are lent: no second outcome fits it; C's neither
  pub one-outcome : (d : List ℕ) (q : Request) → Determined (Gives (swept_of q) (offered (frames_of q) d))
  pub one-outcome-c : (d : List ℕ) (q : Request) → Determined (Gives (sweep_of (swept_of q)) (offered (frames_of q) d))
  -- each number exactly when, in the order of the list, over the request whose order and real parts of -0 are made +0; no number but these
  pub number : (q : Request) → NumberOfSweep (normalised_request q) (swept_of q).number
  pub listed : (r : Request) → numbers_of (sweep_checks r) ≡ 13 ∷ 9 ∷ 1 ∷ 2 ∷ 3 ∷ 11 ∷ 12 ∷ []
  pub no_other : (q : Request) → T (is_one_of (swept_of q).number (0 ∷ 13 ∷ 9 ∷ 1 ∷ 2 ∷ 3 ∷ 11 ∷ 12 ∷ []))
  pub c-number : (q : Request) → NumberOfSweep (normalised_request q) (sweep_of (swept_of q)).number
  -- the conditions: steps, kind and scaling, count; and of the ends in use, of a sweep of one the first alone, that they are finite, their sign and their size
  pub steps : (s : ℕ) → steps_inside s ≡ (ltb 0 s && leb s 4096)
  pub kinds : (r : Request) → frame_has r ≡ (not (ltb 1 r.scaling) && (eqb r.kind 1 || eqb r.kind 2))
  pub counts : (n : ℕ) → count_inside n ≡ (ltb 0 n && leb n 512)
  pub finite :
      (r : Request) → ends_finite r ≡ (are_finite r.v r.first_re r.first_im && (eqb r.steps 1 || are_finite r.v r.last_re r.last_im))
  pub signs : (r : Request) → ends_signed r ≡ (sign_inside r.first_re && (eqb r.steps 1 || sign_inside r.last_re))
  pub sizes :
      (r : Request) → ends_sized r ≡ (size_inside r.first_re r.first_im && (eqb r.steps 1 || size_inside r.last_re r.last_im))
  -- a point, part by part: of a sweep of one the first itself; else first plus j times the step, each operation rounded once
  pub first_alone : (first last : Float) (j : ℕ) → part_at first last 1 j ≡ first
  pub even : (first last : Float) (s j : ℕ) → eqb s 1 ≡ false → part_at first last s j ≡ first ⊕ whole j ⊗ ((last ⊖ first) ⊘ whole (s - 1))
  -- the bytes: of an accepted sweep its frames, 57 bytes a step; of a refused one none; written where there is room for all, and else nothing is
  pub frames : (q : Request) → (swept_of q).number ≡ 0 → frames_of q ≡ frames_up_to (normalised_request q) q.steps
  pub needed : (q : Request) → (swept_of q).number ≡ 0 → (swept_of q).needed ≡ q.steps * line_length
  pub needed-is : (q : Request) → (swept_of q).needed ≡ length (frames_of q)
  pub refused : (q : Request) → 0 < (swept_of q).number → frames_of q ≡ []
  pub refused-stays : (d : List ℕ) (q : Request) → 0 < (swept_of q).number → offered (frames_of q) d ≡ d
  pub room : (d : List ℕ) (q : Request) → length (frames_of q) ≤ length d → offered (frames_of q) d ≡ over 0 (frames_of q) d
  pub no_room : (d : List ℕ) (q : Request) → length d < length (frames_of q) → offered (frames_of q) d ≡ d
  -- read back: one line a point, in order, its fields, and what it asks for; so that the frame program answers one line a point
  pub read_back : (q : Request) → AreValues q → (swept_of q).number ≡ 0 → ReadBack q
  pub answers : (q : Request) → AreValues q → (swept_of q).number ≡ 0 → output_of (frames_of q) ≡ answers_of (lines_up_to (normalised_request q) q.steps)
  -- every line that the reader takes, within the limits and with no order or real part of -0, is the line of the sweep of one of its fields, whatever the last pair
  pub one_line : (line : List ℕ) (f : Fields) → framed_of line ≡ Some f → Taken f → (x y : Float) → frames_of (one_of f x y) ≡ line ++ (newline ∷ [])
  pub one_number : (line : List ℕ) (f : Fields) → framed_of line ≡ Some f → Taken f → (x y : Float) → (swept_of (one_of f x y)).number ≡ 0
  -- the last pair has no part in a sweep of one, refused or not
  pub alone : (r : Request) (x y x' y' : Float) → swept_of (alone_with r x y) ≡ swept_of (alone_with r x' y')
  pub alone-frames : (r : Request) (x y x' y' : Float) → frames_of (alone_with r x y) ≡ frames_of (alone_with r x' y')
  -- a request line: that of its request, or 9 and no frame
  pub line : (line : List ℕ) (r : Request) → requested_of line ≡ Some r → (line_swept line ≡ swept_of r) × (line_bytes line ≡ frames_of r)
  pub line-number : (line : List ℕ) (r : Request) → requested_of line ≡ Some r → NumberOfSweep (normalised_request r) (line_swept line).number
  pub malformed : (line : List ℕ) → requested_of line ≡ None → ((line_swept line).number ≡ 9) × (line_bytes line ≡ [])
  -- docs/SCOPE.md's example, of which every field has a value of its own: none stands in another's place
  pub example : line_bytes example_request ≡ example_frames
  pub line-no-other : (line : List ℕ) → T (is_one_of (line_swept line).number (0 ∷ 13 ∷ 9 ∷ 1 ∷ 2 ∷ 3 ∷ 11 ∷ 12 ∷ []))

pub of-sweep : OfSweep
unfolding steps_inside count_inside ends_finite ends_signed ends_sized of_ends output_of line_swept line_bytes swept_by frames_in
of-sweep = record {
  one-outcome = λ d q. one-outcome (swept_of q) (offered (frames_of q) d);
  one-outcome-c = λ d q. one-outcome (sweep_of (swept_of q)) (offered (frames_of q) d);
  number = number-of-sweep;
  listed = listed;
  no_other = λ q. (number-of-sweep q).no_other;
  c-number = number-of-sweep;
  steps = λ s. refl;
  kinds = frame-has;
  counts = λ n. refl;
  finite = λ r. refl;
  signs = λ r. refl;
  sizes = λ r. refl;
  first_alone = first_alone;
  even = even-points;
  frames = accepted-frames;
  needed = accepted-needed;
  needed-is = sweep-needed;
  refused = refused_none;
  refused-stays = λ d q h. ap (λ (l : List ℕ). offered l d) (refused_none q h) ∙ sym (offered-nothing d);
  room = λ d q h. offered-room (frames_of q) d h;
  no_room = λ d q h. offered-none (frames_of q) d h;
  read_back = λ q h e. read_back q h (accepted q e);
  answers = λ q h e. ap answers_of (read_back q h (accepted q e)).lines;
  one_line = one_line;
  one_number = one_number;
  alone = alone-swept;
  alone-frames = alone-frames;
  line = λ line r e. (ap swept_by e, ap frames_in e);
  line-number = λ line r e. subst (NumberOfSweep (normalised_request r)) (sym (ap (λ (q : Option Request). (swept_by q).number) e)) (number-of-sweep r);
  malformed = λ line e. (ap (λ (q : Option Request). (swept_by q).number) e, ap frames_in e);
  example = example-frames;
  line-no-other = λ line. no-other-line (requested_of line);
}
