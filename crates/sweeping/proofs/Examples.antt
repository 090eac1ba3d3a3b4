-- The request of docs/SCOPE.md's example and its frames, computed from the definitions: every field of the line has a value of its own, so that none can
-- stand in another's place. Assumes nothing.
use mathlib.Core.Path.{◌≡◌, refl, ap, ◌∙◌}
use mathlib.Core.List.{List, [], ◌∷◌, ◌++◌}
use Prim.Native.Nat.{ℕ}
use lib.Ieee.{binary64, of_bits, to_bits, of_int, round, size, neg, add, sub, mul, div, eq, le}
use Rattle.splitting.specs.Lines.{newline}
use Rattle.call.specs.Checks.{Admitted}
use Rattle.call.specs.Limits.{normalised_of, are_finite, order_inside, sign_inside, part_inside, size_inside}
use Rattle.call.specs.Checks.{refused_if, verdict_from, verdict_of}
use Rattle.frame.specs.Digits.{is_digit, are_digits, worth_of, number_from, number_of, digit_of, spelled_of}
use Rattle.frame.specs.Asking.{fields_of, framed_of, asking_of, asked_of, asking_line_of}
use Rattle.sweeping.specs.declared.request.Request.{Request}
use Rattle.std.proofs.Common.{Some}
use Rattle.sweeping.specs.Points.{normalised_request, step_of, part_with, fields_with, fields_at, frames_up_to}
use Rattle.sweeping.specs.Checks.{steps_inside, count_inside, is_asked, frame_has, of_ends, ends_finite, ends_signed, ends_sized, sweep_checks}
use Rattle.sweeping.specs.Sweep.{verdict_for}
use Rattle.sweeping.specs.Line.{request_from, sought_in, requested_of, frames_in, line_bytes}
use Rattle.sweeping.proofs.SweepFacts.{admitted-frames}

-- K, plain, two orders from 0.25, from 1.5 - 0.75 i to 2.5 + 0.75 i in 3 steps
abbrev pub example_request : List ℕ
example_request = spelled_of 92 0x010000023FD00000000000003FF8000000000000BFE800000000000040040000000000003FE80000000000000003

abbrev pub example_frames : List ℕ
example_frames =
    spelled_of 56 0x010000023FD00000000000003FF8000000000000BFE8000000000000
    ++ (newline
    ∷ (spelled_of 56 0x010000023FD000000000000040000000000000000000000000000000
    ++ (newline ∷ (spelled_of 56 0x010000023FD000000000000040040000000000003FE8000000000000 ++ (newline ∷ [])))))

abbrev sought : Request
sought = record {
  kind = 1;
  scaling = 0;
  count = 2;
  v = of_bits binary64 0x3FD0000000000000;
  first_re = of_bits binary64 0x3FF8000000000000;
  first_im = of_bits binary64 0xBFE8000000000000;
  last_re = of_bits binary64 0x4004000000000000;
  last_im = of_bits binary64 0x3FE8000000000000;
  steps = 3;
}

read : requested_of example_request ≡ Some sought
unfolding requested_of sought_in request_from framed_of fields_of are_digits is_digit worth_of number_of number_from spelled_of digit_of
read = refl

passed : verdict_for sought ≡ Admitted
unfolding verdict_for verdict_of verdict_from refused_if sweep_checks steps_inside frame_has is_asked asked_of asking_of fields_with count_inside ends_finite ends_signed ends_sized of_ends are_finite order_inside sign_inside part_inside size_inside normalised_request normalised_of of_bits to_bits neg eq le
passed = refl

written : frames_up_to (normalised_request sought) 3 ≡ example_frames
unfolding frames_up_to fields_at fields_with part_with step_of asking_line_of spelled_of digit_of normalised_request normalised_of of_bits to_bits of_int round size neg add sub mul div eq
written = refl

pub example-frames : line_bytes example_request ≡ example_frames
unfolding line_bytes frames_in
example-frames = ap frames_in read ∙ admitted-frames sought passed ∙ written
