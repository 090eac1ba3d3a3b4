-- An asking frame: a line of 56 digits, its fields, and which of them ask for something (docs/SCOPE.md, The frame program).
-- Definitions only.
use Rattle.std.specs.Prelude.{cond, ◌&&◌, List, ◌++◌, ℕ, ◌^◌, ◌<◌, ltb, eqb, length, Option, None, Some}
use Rattle.std.specs.Float.{binary64}
use Rattle.std.specs.Float.Ieee.{of_bits}
use Rattle.call.specs.declared.kind.Kind.{Kind}
use Rattle.call.specs.declared.kind.Kind.TheVariants.{K, I}
use Rattle.frame.specs.declared.asking.Fields.{Fields}
use Rattle.frame.specs.declared.asking.Asking.{Asking}
use Rattle.frame.specs.Layout.{byte_width, count_width, float_width, kind_at, scaling_at, count_at, order_at, re_at, im_at, asking_length}
use Rattle.frame.specs.Digits.{are_digits, spelled_of, field_of}

unfoldable pub fields_of : List ℕ → Fields
fields_of line = record {
  kind = field_of kind_at byte_width line;
  scaling = field_of scaling_at byte_width line;
  count = field_of count_at count_width line;
  v = field_of order_at float_width line;
  re = field_of re_at float_width line;
  im = field_of im_at float_width line;
}

-- by its layout alone: another length or another byte than a digit is no frame
unfoldable pub framed_of : List ℕ → Option Fields
framed_of line = cond (eqb (length line) asking_length && are_digits line) (Some (fields_of line)) None

-- scaling 00 is unscaled, 01 scaled
unfoldable pub asking_of : Kind → Fields → Asking
asking_of kind f = record {
  kind = kind;
  scaled = eqb f.scaling 1;
  count = f.count;
  v = of_bits binary64 f.v;
  re = of_bits binary64 f.re;
  im = of_bits binary64 f.im;
}

-- kind 01 is K, 02 is I; any other is malformed, and so is any other scaling than 00 and 01
unfoldable pub asked_of : Fields → Option Asking
asked_of f =
    cond (ltb 1 f.scaling) None
    (cond (eqb f.kind 1) (Some (asking_of K f)) (cond (eqb f.kind 2) (Some (asking_of I f)) None))

unfoldable pub asked_in : Option Fields → Option Asking
asked_in (Some f) = asked_of f
asked_in None = None

unfoldable pub parsed_of : List ℕ → Option Asking
parsed_of line = asked_in (framed_of line)

-- ---- the line of given fields
unfoldable pub asking_line_of : Fields → List ℕ
asking_line_of f =
    spelled_of byte_width f.kind
    ++ (spelled_of byte_width f.scaling
    ++ (spelled_of count_width f.count
    ++ (spelled_of float_width f.v
    ++ (spelled_of float_width f.re
    ++ spelled_of float_width f.im))))

-- the fields that fit their places
pub record FieldsFit (f : Fields) : Type 0 where
  pub kind : f.kind < 256
  pub scaling : f.scaling < 256
  pub count : f.count < 65536
  pub v : f.v < 2 ^ 64
  pub re : f.re < 2 ^ 64
  pub im : f.im < 2 ^ 64
