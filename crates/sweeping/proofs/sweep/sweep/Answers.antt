-- `sweeping::sweep::sweep` meets its contract, by the verdict. Assumes nothing.
use mathlib.Core.Path.{◌≡◌, sym, ap, ◌∙◌}
use Rattle.std.proofs.Common.{rules, Ok, Err}
use Rattle.sweeping.specs.Sweep.{swept_in}
use Rattle.sweeping.proofs.SweepFacts.{admitted-steps, verdict-is, admitted-outcome, refused-outcome}
use Rattle.sweeping.proofs.sweep.sweep.Goals as goal

pub returns-in_err-sweep_verdict : goal.returns-in_err-sweep_verdict
returns-in_err-sweep_verdict c =
    let a = c.args in
    let n = c.normalised_request-r in
    let x = c.in_err-sweep_verdict.field-0.0 in
    let was : c.sweep_verdict.result ≡ Err x = search rules in
    let gives : c.from_residual.result ≡ Err x = search rules in
    let k = refused-outcome a.request x a.out.now (verdict-is a.request n.result _ _ n.ensures c.sweep_verdict.ensures was) in
    (ap swept_in gives ∙ k.0, k.1)

pub offer_frames-requires : goal.offer_frames-requires
offer_frames-requires c = let was : c.sweep_verdict.result ≡ Ok tt = search rules in admitted-steps _ (sym c.sweep_verdict.ensures ∙ was)

pub returns : goal.returns
returns c =
    let a = c.args in
    let n = c.normalised_request-r in
    let was : c.sweep_verdict.result ≡ Ok tt = search rules in
    admitted-outcome a.request n.result _ _ a.out.now n.ensures (verdict-is a.request n.result _ _ n.ensures c.sweep_verdict.ensures was) c.offer_frames.ensures.0 c.offer_frames.ensures.1
