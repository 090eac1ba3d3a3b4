-- The checks of a sweep, in the order in which they are made: the one home of that order. Definitions only.
use Rattle.std.specs.Prelude.{Bool, true, false, not, ◌&&◌, ◌||◌, List, [], ◌∷◌, ℕ, ltb, leb, eqb, Option, None, Some}
use Rattle.refusal.specs.declared.refusal.Refusal.TheVariants as refusals
use Rattle.call.specs.Limits.{are_finite, order_inside, sign_inside, size_inside}
use Rattle.call.specs.Checks.{Check, check}
use Rattle.frame.specs.declared.asking.Asking.{Asking}
use Rattle.frame.specs.Asking.{asked_of}
use Rattle.sweeping.specs.declared.request.Request.{Request}
use Rattle.sweeping.specs.Points.{fields_with}

unfoldable pub steps_inside : ℕ → Bool
steps_inside steps = ltb 0 steps && leb steps 4096

unfoldable pub count_inside : ℕ → Bool
count_inside count = ltb 0 count && leb count 512

-- whether a frame has this kind and this scaling: the reader's own rule
unfoldable pub is_asked : Option Asking → Bool
is_asked (Some a) = true
is_asked None = false

unfoldable pub frame_has : Request → Bool
frame_has r = is_asked (asked_of (fields_with r r.first_re r.first_im))

-- what holds of the ends in use: of the first, and of the last unless the sweep is one of one
unfoldable pub of_ends : ℕ → Bool → Bool → Bool
of_ends steps first last = first && (eqb steps 1 || last)

unfoldable pub ends_finite : Request → Bool
ends_finite r = of_ends r.steps (are_finite r.v r.first_re r.first_im) (are_finite r.v r.last_re r.last_im)

unfoldable pub ends_signed : Request → Bool
ends_signed r = of_ends r.steps (sign_inside r.first_re) (sign_inside r.last_re)

unfoldable pub ends_sized : Request → Bool
ends_sized r = of_ends r.steps (size_inside r.first_re r.first_im) (size_inside r.last_re r.last_im)

-- refusals 13, 9, 1, 2, 3, 11 and 12, of a request whose zeros are made +0
unfoldable pub sweep_checks : Request → List Check
sweep_checks r =
    check (not (steps_inside r.steps)) refusals.Steps
    ∷ check (not (frame_has r)) refusals.Malformed
    ∷ check (not (count_inside r.count)) refusals.Length
    ∷ check (not (ends_finite r)) refusals.NotFinite
    ∷ check (not (order_inside r.v)) refusals.Order
    ∷ check (not (ends_signed r)) refusals.Sign
    ∷ check (not (ends_sized r)) refusals.Size
    ∷ []
