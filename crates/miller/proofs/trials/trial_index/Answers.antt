-- `miller::trials::trial_index` meets its contract. The invariant: the trials so far are those of the definition, and none has met the test. Assumes nothing.
use mathlib.Core.Path.{◌≡◌, refl, sym, ap, ◌∙◌}
use mathlib.Core.Bool.{true, false}
use Prim.Native.Nat.{◌+◌, ◌-◌, ◌≤◌, ◌<◌}
use native.Mathlib.Omega.{arith}
use Rattle.laws.proofs.Run.{first-here, first_next, first-end}
use Rattle.miller.specs.declared.trials.Trial.{Trial}
use Rattle.miller.specs.Trials.{next_trial, trial_after, is_met, met_after, trials_taken}
use Rattle.miller.proofs.TrialFacts.{trial-next, index-met, index-unmet}
use Rattle.miller.proofs.trials.trial_index.Goals as goal

pub loop-i-init : goal.loop-i-init
unfolding trial_after trials_taken
loop-i-init c = (omega arith, refl, refl)

pub returns-then-i-eq30 : goal.returns-then-i-eq30
returns-then-i-eq30 c =
    let args = c.args in
    let i = c.loop-i.i in
    let h : 31 ≤ i + 1 = omega arith in
    sym (index-unmet args.modulus args.square args.test (i + 1) (c.loop-i.invariant.2 ∙ first-end (met_after args.modulus args.square args.test) 31 (i + 1) h) h)

pub overflow_add-i : goal.overflow_add-i
overflow_add-i c = omega arith

pub next_trial-trial-requires : goal.next_trial-trial-requires
next_trial-trial-requires c = omega arith

pub is_met-requires : goal.is_met-requires
is_met-requires c = omega arith

pub overflow_add-index : goal.overflow_add-index
overflow_add-index c = omega arith

pub loop-i-smaller : goal.loop-i-smaller
loop-i-smaller c = omega arith

pub loop-i-preserved : goal.loop-i-preserved
unfolding met_after
loop-i-preserved c =
    let d = c in
    let start = d in
    let modulus = start.args.modulus in
    let square = start.args.square in
    let test = start.args.test in
    let loop = d.loop-i in
    let i = loop.i in
    let t : c.next_trial-trial.result ≡ trial_after modulus square (i + 1) = c.next_trial-trial.ensures ∙ ap (next_trial modulus square (i + 1)) (loop.invariant.1 ∙ ap (trial_after modulus square) (omega arith)) ∙ trial-next modulus square (i + 1) (omega arith) in
    let m : met_after modulus square test (i + 1) ≡ false = sym (c.is_met.ensures ∙ ap (λ (s : Trial). is_met test (i + 1) s.newer) t) ∙ c.if-is_met.false in
    let h : i + 1 < 31 = omega arith in
    (omega arith, t, loop.invariant.2 ∙ first_next (met_after modulus square test) 31 (i + 1) h m)

pub returns : goal.returns
unfolding met_after
returns c =
    let d = c in
    let start = d in
    let modulus = start.args.modulus in
    let square = start.args.square in
    let test = start.args.test in
    let loop = d.loop-i in
    let i = loop.i in
    let t : c.next_trial-trial.result ≡ trial_after modulus square (i + 1) = c.next_trial-trial.ensures ∙ ap (next_trial modulus square (i + 1)) (loop.invariant.1 ∙ ap (trial_after modulus square) (omega arith)) ∙ trial-next modulus square (i + 1) (omega arith) in
    let m : met_after modulus square test (i + 1) ≡ true = sym (c.is_met.ensures ∙ ap (λ (s : Trial). is_met test (i + 1) s.newer) t) ∙ c.if-is_met.true in
    let h : i + 1 ≤ 30 = omega arith in
    sym (index-met modulus square test (i + 1) (loop.invariant.2 ∙ first-here (met_after modulus square test) (31 - (i + 1)) (i + 1) m) h)
