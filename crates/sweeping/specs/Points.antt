-- The points of a sweep, and the frame of each (docs/SCOPE.md, The sweep). Definitions only.
use Rattle.std.specs.Prelude.{cond, List, [], ◌∷◌, ◌++◌, ℕ, zero, suc, ◌-◌, eqb, Float, pos}
use Rattle.std.specs.Float.{binary64}
use Rattle.std.specs.Float.Ieee.{to_bits, of_int}
use Rattle.laws.specs.Operators.{◌⊕◌, ◌⊖◌, ◌⊗◌, ◌⊘◌}
use Rattle.splitting.specs.Lines.{newline}
use Rattle.call.specs.Limits.{normalised_of}
use Rattle.frame.specs.declared.asking.Fields.{Fields}
use Rattle.frame.specs.Asking.{asking_line_of}
use Rattle.sweeping.specs.declared.request.Request.{Request}

-- the order and both real parts: -0 is made +0
unfoldable pub normalised_request : Request → Request
normalised_request r = record {
  kind = r.kind;
  scaling = r.scaling;
  count = r.count;
  v = normalised_of r.v;
  first_re = normalised_of r.first_re;
  first_im = r.first_im;
  last_re = normalised_of r.last_re;
  last_im = r.last_im;
  steps = r.steps;
}

-- a whole number as a float
abbrev pub whole : ℕ → Float
whole j = of_int binary64 (pos j)

-- last minus first, over the number of steps minus 1
unfoldable pub step_of : Float → Float → ℕ → Float
step_of first last steps = (last ⊖ first) ⊘ whole (steps - 1)

-- first plus j times the step, each operation rounded once; of a sweep of one the first itself
unfoldable pub part_with : Float → Float → ℕ → ℕ → Float
part_with first step steps j = cond (eqb steps 1) first (first ⊕ whole j ⊗ step)

abbrev pub part_at : Float → Float → ℕ → ℕ → Float
part_at first last steps j = part_with first (step_of first last steps) steps j

abbrev pub re_at : Request → ℕ → Float
re_at r j = part_at r.first_re r.last_re r.steps j

abbrev pub im_at : Request → ℕ → Float
im_at r j = part_at r.first_im r.last_im r.steps j

-- ---- the frame that asks at a point, by its fields
unfoldable pub fields_with : Request → Float → Float → Fields
fields_with r re im = record {
  kind = r.kind;
  scaling = r.scaling;
  count = r.count;
  v = to_bits binary64 r.v;
  re = to_bits binary64 re;
  im = to_bits binary64 im;
}

unfoldable pub fields_at : Request → ℕ → Fields
fields_at r j = fields_with r (re_at r j) (im_at r j)

-- the frames of the points before j, each with its newline
unfoldable pub frames_up_to : Request → ℕ → List ℕ
frames_up_to r zero = []
frames_up_to r (suc j) = frames_up_to r j ++ (asking_line_of (fields_at r j) ++ (newline ∷ []))
