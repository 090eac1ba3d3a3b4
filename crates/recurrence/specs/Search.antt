-- The search for two neighbouring orders on scale, from two values that stand without e^-z: ZKSCL's (zkscl.f, DO 30; `scale_k_recurrence` of
-- src/amos/recurrence.rs) and that of ZBKNU's climb out of underflow (zbknu.f, DO 262; `k_right_half_plane` of src/amos/right_half_plane.rs).
-- The two differ in the rule of lowering alone. K(v+1) = (2v/z) K(v) + K(v-1): DLMF 10.29.1. Definitions only.
use Rattle.std.specs.Prelude.{ℕ, ◌≡◌, ◌+◌, Bool, not, ◌&&◌, cond, Float}
use Rattle.std.specs.Float.Ieee.{neg, lt}
use Rattle.laws.specs.Operators.{◌⊗◌}
use Rattle.laws.specs.Run.{run}
use Rattle.machine.specs.Constants.{exponent_limit}
use Rattle.machine.specs.Small.{half}
use Rattle.exponential.specs.Exp.{exp_of}
use Rattle.complex.specs.declared.number.Complex.{Complex}
use Rattle.complex.specs.Arithmetic.{times_real, minus_real}
use Rattle.recurrence.specs.Rung.{factor_of, next_of}
use Rattle.recurrence.specs.Trial.{Trial, kept, ln_magnitude, reaches_limit, later_trial}
use Rattle.recurrence.specs.Rule.{Rule, FirstOrders, OutOfUnderflow}
use Rattle.recurrence.specs.declared.search.Search.{Search}

-- the last two values tried are both on scale
unfoldable pub is_found : Search → Bool
is_found s = kept s.before && kept s.latest

-- before its first rung: two neighbouring values, and what is known of them
abbrev pub search_at : Complex → Complex → Complex → Trial → Trial → Search
search_at argument older newer before latest =
    record { older = older; newer = newer; argument = argument; before = before; latest = latest; rungs = 0 }

-- ---- the rule of lowering, after a value that was not kept; l is ½ ln of its squared modulus
-- first orders: above half the limit. Out of underflow: at half the limit or more, and only where the exponent that e^-z leaves reached the limit
unfoldable pub is_lowered : Rule → Complex → Float → Bool
is_lowered FirstOrders argument l = lt (half ⊗ exponent_limit) l
is_lowered OutOfUnderflow argument l = reaches_limit argument l && not (lt l (half ⊗ exponent_limit))

-- P of each rule that a test keeps to, of which `post` tells what it may give
abbrev pub IsRuleOf : (Complex → Float → Bool → Type 0) → (Rule → Type 0) → Type 0
IsRuleOf post P = (rule : Rule) → ((argument : Complex) (l : Float) (lowers : Bool) → post argument l lowers → lowers ≡ is_lowered rule argument l) → P rule

-- by e^-700.92.. (ELM), and the argument's real part by 700.92..; 2/z stays that of the argument asked for
unfoldable pub lowered_of : Search → Search
lowered_of s =
    let factor = exp_of (neg exponent_limit) in
    record {
      older = times_real s.older factor;
      newer = times_real s.newer factor;
      argument = minus_real s.argument exponent_limit;
      before = s.before;
      latest = s.latest;
      rungs = s.rungs;
    }

-- a value that was kept stays as it is
unfoldable pub after_trial : Rule → Float → Search → Search
after_trial rule l s = cond (kept s.latest) s (cond (is_lowered rule s.argument l) (lowered_of s) s)

-- one rung, to the order of the base plus i + 1, and its trial
unfoldable pub search_step : Rule → Float → Complex → ℕ → Search → Search
search_step rule base_order two_over_z i s =
    let next = next_of (factor_of two_over_z base_order i) s.older s.newer in
    let l = ln_magnitude next in
    after_trial rule l
    (record {
      older = s.newer;
      newer = next;
      argument = s.argument;
      before = s.latest;
      latest = later_trial s.argument next l;
      rungs = s.rungs + 1;
    })

-- `count` rungs at most
unfoldable pub search_from : Rule → Float → Complex → ℕ → Search → Search
search_from rule base_order two_over_z count s = run (λ i t. is_found t) (search_step rule base_order two_over_z) count 1 s
