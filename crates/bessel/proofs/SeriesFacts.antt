-- What the power series leaves of its counts and cells in a buffer that is let in, and the judgement that follows. Assumes nothing.
use mathlib.Core.Path.{◌≡◌, sym, ap, ◌∙◌, subst}
use mathlib.Core.Bool.{Bool, true}
use mathlib.Core.List.{List}
use Prim.Native.Nat.{ℕ, ◌*◌, ◌/◌, ◌≤◌}
use native.Mathlib.Omega.{arith}
use lib.IntN.{ℤ}
use lib.Ieee.{Float}
use Rattle.complex.specs.declared.number.Complex.{Complex}
use Rattle.power_series.specs.declared.visit.Visit.{Visit}
use Rattle.power_series.specs.Visit.{Visited}
use Rattle.power_series.specs.Series.{power_series_of}
use Rattle.power_series.proofs.SeriesFacts.{series-fits}
use Rattle.call.specs.Answer.{Answer, signed_of, answered_of}
use Rattle.call.specs.Limits.{length_inside}
use Rattle.call.proofs.LimitFacts.{lent}
use Rattle.bessel.specs.Outcome.{judged_of, concluded_of}
use Rattle.bessel.specs.Series.{visit_answer, visit_steps}

-- the counts of a visit into a buffer that is let in
pub counts-small :
    (length : ℕ) (scaled turned : Bool) (v : Float) (z : Complex) (m : Float) (r : Visit) → length_inside length ≡ true → r ≡ (power_series_of scaled turned v z m (length / 2)).visit →
    (r.zeros ≤ 512) × (r.place ≤ 512)
counts-small length scaled turned v z m r e q =
    let l = lent length e in
    let f = series-fits (length / 2) (omega arith) scaled turned v z m in
    subst (λ (x : Visit). (x.zeros ≤ 512) × (x.place ≤ 512)) (sym q) (omega arith, omega arith)

-- the judgement of a visit, from the parts of which the code makes it
pub judged-visit :
    (length n : ℕ) (w : Visited) (visit : Visit) (cells : List Float) (zeros : ℤ) (answer : Answer) →
    n ≡ length → visit ≡ w.visit → cells ≡ w.cells → zeros ≡ signed_of visit.stopped visit.zeros → answer ≡ answered_of zeros visit.longest_sum visit.rungs 0 →
    judged_of n answer (visit.place * 2) cells ≡ concluded_of length (visit_steps w)
unfolding visit_answer visit_steps concluded_of
judged-visit length n w visit cells zeros answer a b c d e =
    ap (λ (k : ℕ). judged_of k answer (visit.place * 2) cells) a
    ∙ ap (λ (l : List Float). judged_of length answer (visit.place * 2) l) c
    ∙ ap (λ (x : Answer). judged_of length x (visit.place * 2) w.cells) (e ∙ ap (λ (k : ℤ). answered_of k visit.longest_sum visit.rungs 0) d)
    ∙ ap (λ (x : Visit). judged_of length (answered_of (signed_of x.stopped x.zeros) x.longest_sum x.rungs 0) (x.place * 2) w.cells) b
