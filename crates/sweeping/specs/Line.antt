-- A request line: the asking frame of the sweep's first point, and behind it the last pair and the number of steps (docs/SCOPE.md, The sweep).
-- Definitions only.
use Rattle.std.specs.Prelude.{cond, List, [], ℕ, eqb, length, take, drop, Option, None, Some}
use Rattle.std.specs.Float.{binary64}
use Rattle.std.specs.Float.Ieee.{of_bits}
use Rattle.refusal.specs.Number.{number_of as refusal_number}
use Rattle.refusal.specs.declared.refusal.Refusal.TheVariants.{Malformed}
use Rattle.frame.specs.declared.asking.Fields.{Fields}
use Rattle.frame.specs.Layout.{count_width, float_width, asking_length}
use Rattle.frame.specs.Digits.{are_digits, field_of}
use Rattle.frame.specs.Asking.{framed_of}
use Rattle.sweeping.specs.declared.request.Request.{Request}
use Rattle.sweeping.specs.Sweep.{Swept, swept_of, frames_of}

abbrev pub request_length : ℕ
request_length = 92

-- ---- behind the frame: where the fields stand in the rest, and how long that is
abbrev pub last_re_at : ℕ
last_re_at = 0

abbrev pub last_im_at : ℕ
last_im_at = 16

abbrev pub steps_at : ℕ
steps_at = 32

abbrev pub rest_length : ℕ
rest_length = 36

unfoldable pub request_from : Fields → List ℕ → Request
request_from f rest = record {
  kind = f.kind;
  scaling = f.scaling;
  count = f.count;
  v = of_bits binary64 f.v;
  first_re = of_bits binary64 f.re;
  first_im = of_bits binary64 f.im;
  last_re = of_bits binary64 (field_of last_re_at float_width rest);
  last_im = of_bits binary64 (field_of last_im_at float_width rest);
  steps = field_of steps_at count_width rest;
}

unfoldable pub sought_in : Option Fields → List ℕ → Option Request
sought_in (Some f) rest = cond (are_digits rest) (Some (request_from f rest)) None
sought_in None rest = None

unfoldable pub requested_of : List ℕ → Option Request
requested_of line = cond (eqb (length line) request_length) (sought_in (framed_of (take asking_length line)) (drop asking_length line)) None

-- ---- what a line comes to: a malformed one is refused, by 9
unfoldable pub swept_by : Option Request → Swept
swept_by (Some r) = swept_of r
swept_by None = record { number = refusal_number Malformed; needed = 0 }

unfoldable pub frames_in : Option Request → List ℕ
frames_in (Some r) = frames_of r
frames_in None = []

unfoldable pub line_swept : List ℕ → Swept
line_swept line = swept_by (requested_of line)

unfoldable pub line_bytes : List ℕ → List ℕ
line_bytes line = frames_in (requested_of line)
