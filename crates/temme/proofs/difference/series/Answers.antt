-- `temme::difference::series` meets its contract: before each term the run that is left, from the sum as it is, ends as the whole run does. Assumes nothing.
use mathlib.Core.Path.{◌≡◌, refl, sym, ap, ◌∙◌}
use Prim.Native.Nat.{ℕ, ◌+◌, ◌<◌}
use native.Mathlib.Omega.{arith}
use lib.ListN.{get_or}
use lib.Ieee.{Float, nan, lt}
use Rattle.laws.specs.Operators.{◌⊕◌, ◌⊗◌}
use Rattle.machine.specs.Magnitude.{magnitude_of}
use Rattle.machine.specs.Constants.{tolerance}
use Rattle.temme.specs.declared.difference.Partial.{Partial}
use Rattle.temme.specs.Difference.{difference_coefficients, start_series, with_term, series_of}
use Rattle.temme.proofs.Counted.{left, left-next, left-stop, left_end}
use Rattle.temme.proofs.difference.series.Invariants.{count, done}
use Rattle.temme.proofs.difference.series.Goals as goal

counts : (w : Float) (s : Partial) → (with_term w s).count ≡ s.count + 1
unfolding with_term
counts w s = refl

-- a turn that takes the coefficient i, m being the magnitude of its term
abbrev turned : Float → Partial → ℕ → Float → Partial
turned w s i m = record { power = s.power ⊗ w; sum = s.sum ⊕ get_or difference_coefficients i nan ⊗ s.power; done = lt m tolerance; count = s.count + 1 }

-- it is the one that adds the next term, if so many are in the sum
turn : (w : Float) (s : Partial) (i : ℕ) (m : Float) → s.count ≡ i → m ≡ magnitude_of (get_or difference_coefficients i nan ⊗ s.power) → turned w s i m ≡ with_term w s
unfolding with_term
turn w s i m e f = rw (e, f) refl

pub loop-coefficient-init : goal.loop-coefficient-init
unfolding series_of start_series
loop-coefficient-init c = record { counted = refl; going = refl; rest = refl }

pub loop-coefficient-preserved : goal.loop-coefficient-preserved
unfolding difference_coefficients tolerance
loop-coefficient-preserved c =
    let loop = c.loop-coefficient in
    let w = c.args.square in
    let h : loop.s.count < 8 = omega (arith, loop.invariant.counted, c.loop-coefficient-test.true) in
    record {
      counted = ap (λ (n : ℕ). n + 1) loop.invariant.counted;
      going = c.if-s.false;
      rest =
          loop.invariant.rest
          ∙ left-next done (with_term w) count 8 loop.s (counts w loop.s) h loop.invariant.going
          ∙ ap (left done (with_term w) count 8) (sym (turn w loop.s loop.coefficient-index c.magnitude.result loop.invariant.counted c.magnitude.ensures));
    }

pub returns-after-loop-coefficient : goal.returns-after-loop-coefficient
returns-after-loop-coefficient c =
    let loop = c.loop-coefficient in
    sym (loop.invariant.rest ∙ left_end done (with_term c.args.square) count 8 loop.s (omega (arith, loop.invariant.counted, c.loop-coefficient-test.false)))

pub returns-then-s : goal.returns-then-s
unfolding difference_coefficients tolerance
returns-then-s c =
    let loop = c.loop-coefficient in
    let w = c.args.square in
    let h : loop.s.count < 8 = omega (arith, loop.invariant.counted, c.loop-coefficient-test.true) in
    let e = turn w loop.s loop.coefficient-index c.magnitude.result loop.invariant.counted c.magnitude.ensures in
    let next = left-next done (with_term w) count 8 loop.s (counts w loop.s) h loop.invariant.going in
    let stop = left-stop done (with_term w) count 8 (with_term w loop.s) (sym (ap done e) ∙ c.if-s.true) in
    e ∙ sym (loop.invariant.rest ∙ next ∙ stop)
