-- What a call by the power series gives, for either sign of z²/4: as it is for I, turned for J. Definitions only.
use Rattle.std.specs.Prelude.{Bool, not, List, [], ◌∷◌, ◌++◌, ℕ, ◌*◌, ◌/◌, drop, Float}
use Rattle.refusal.specs.declared.refusal.Refusal.TheVariants.{Overflow}
use Rattle.cells.specs.AllFinite.{all_finite}
use Rattle.power_series.specs.Visit.{Visited}
use Rattle.power_series.specs.Series.{power_series_of}
use Rattle.call.specs.Answer.{Answer, signed_of, answered_of}
use Rattle.call.specs.Checks.{Check, check}
use Rattle.bessel.specs.declared.arguments.Arguments.{Arguments}
use Rattle.bessel.specs.Arguments.{arguments_of}
use Rattle.bessel.specs.Checks.{series_checks}
use Rattle.bessel.specs.Outcome.{Outcome, Steps, Delivered, call_outcome}

-- the visit of the orders (ZSERI, DLMF 10.25.2; 10.2.2 where the sign is turned)
unfoldable pub visited_by : Bool → Bool → Arguments → ℕ → Visited
visited_by scaled turned a length = power_series_of scaled turned a.order a.z a.modulus (length / 2)

-- the counts of a visit: no backward step is one of Miller's
unfoldable pub visit_answer : Visited → Answer
visit_answer w = answered_of (signed_of w.visit.stopped w.visit.zeros) w.visit.longest_sum w.visit.rungs 0

-- finished are the entries from the place where the visit stopped, and all where it did not
unfoldable pub visit_steps : Visited → Steps
visit_steps w = Delivered (visit_answer w) (w.visit.place * 2) w.cells

unfoldable pub series_outcome : Bool → Bool → Float → Float → Float → ℕ → Outcome
series_outcome scaled turned v re im length =
    let a = arguments_of v re im in
    call_outcome (series_checks a length) length (visit_steps (visited_by scaled turned a length))

-- ---- all checks, those that the steps answer too: 8 is the last
unfoldable pub visit_checks : Visited → List Check
visit_checks w =
    check (not (all_finite (drop (w.visit.place * 2) w.cells))) Overflow
    ∷ []

unfoldable pub all_series_checks : Bool → Bool → Arguments → ℕ → List Check
all_series_checks scaled turned a length = series_checks a length ++ visit_checks (visited_by scaled turned a length)
