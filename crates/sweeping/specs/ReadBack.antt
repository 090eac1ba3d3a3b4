-- What is read back from the written lines: the fields of each point's frame, and what they ask for. Definitions only.
use Rattle.std.specs.Prelude.{◌≡◌, true, cond, List, [], ◌∷◌, ◌++◌, ℕ, zero, suc, T, eqb, Float, Option, Some}
use Rattle.std.specs.Float.{binary64}
use Rattle.std.specs.Float.Ieee.{fits, of_bits}
use Rattle.call.specs.declared.kind.Kind.{Kind}
use Rattle.call.specs.declared.kind.Kind.TheVariants.{K, I}
use Rattle.call.specs.Limits.{are_finite, order_inside, sign_inside, size_inside}
use Rattle.frame.specs.declared.asking.Asking.{Asking}
use Rattle.frame.specs.declared.asking.Fields.{Fields}
use Rattle.frame.specs.Asking.{asked_of, asking_line_of}
use Rattle.sweeping.specs.declared.request.Request.{Request}
use Rattle.sweeping.specs.Points.{re_at, im_at, fields_at}
use Rattle.sweeping.specs.Checks.{is_asked, count_inside}

-- 1 is K, 2 is I
abbrev pub kind_of : ℕ → Kind
kind_of kind = cond (eqb kind 1) K I

-- kind, scaling, count and order of the sweep, and the point j
unfoldable pub asking_at : Request → ℕ → Asking
asking_at r j = record {
  kind = kind_of r.kind;
  scaled = eqb r.scaling 1;
  count = r.count;
  v = r.v;
  re = re_at r j;
  im = im_at r j;
}

-- ---- of the points before j, in their order: the lines, their fields, and what they ask for
unfoldable pub lines_up_to : Request → ℕ → List (List ℕ)
lines_up_to r zero = []
lines_up_to r (suc j) = lines_up_to r j ++ (asking_line_of (fields_at r j) ∷ [])

unfoldable pub fields_up_to : Request → ℕ → List (Option Fields)
fields_up_to r zero = []
fields_up_to r (suc j) = fields_up_to r j ++ (Some (fields_at r j) ∷ [])

unfoldable pub askings_up_to : Request → ℕ → List (Option Asking)
askings_up_to r zero = []
askings_up_to r (suc j) = askings_up_to r j ++ (Some (asking_at r j) ∷ [])

-- the order and the first pair are values of f64, as whatever is handed over is
pub record AreValues (r : Request) : Type 0 where
  pub v : T (fits binary64 r.v)
  pub re : T (fits binary64 r.first_re)
  pub im : T (fits binary64 r.first_im)

-- ---- the sweep of one of a frame's fields, the last pair anything
unfoldable pub one_of : Fields → Float → Float → Request
one_of f x y = record {
  kind = f.kind;
  scaling = f.scaling;
  count = f.count;
  v = of_bits binary64 f.v;
  first_re = of_bits binary64 f.re;
  first_im = of_bits binary64 f.im;
  last_re = x;
  last_im = y;
  steps = 1;
}

-- fields that the reader takes, within the limits, and neither the order nor the real part -0
pub record Taken (f : Fields) : Type 0 where
  pub asked : is_asked (asked_of f) ≡ true
  pub count : count_inside f.count ≡ true
  pub finite : are_finite (of_bits binary64 f.v) (of_bits binary64 f.re) (of_bits binary64 f.im) ≡ true
  pub order : order_inside (of_bits binary64 f.v) ≡ true
  pub sign : sign_inside (of_bits binary64 f.re) ≡ true
  pub size : size_inside (of_bits binary64 f.re) (of_bits binary64 f.im) ≡ true
  pub plus-order : f.v ≡ 0x8000000000000000 → ⊥
  pub plus-re : f.re ≡ 0x8000000000000000 → ⊥

-- ---- a request as one of one step, with another last pair
unfoldable pub alone_with : Request → Float → Float → Request
alone_with r x y = record {
  kind = r.kind;
  scaling = r.scaling;
  count = r.count;
  v = r.v;
  first_re = r.first_re;
  first_im = r.first_im;
  last_re = x;
  last_im = y;
  steps = 1;
}
