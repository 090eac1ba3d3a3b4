-- `Admitted::from_pair` meets its contract: an answer, by where the climb stands, or the climb's refusal. Assumes nothing.
use mathlib.Core.Path.{refl, sym, ap, ◌∙◌, subst}
use Rattle.std.specs.Prelude.{Err}
use Rattle.std.proofs.lemmas.Result.{err_from_is_err_and}
use Rattle.right_half_plane.specs.Kernel.{LeadFits, lead_kernel, refused_kernel, reached_kernel, pair_kernel, after_if, afterwards}
use Rattle.right_half_plane.proofs.Counts.{reached-few}
use Rattle.right_half_plane.proofs.LedFacts.{led-fits, reached-led}
use Rattle.right_half_plane.proofs.admitted.Admitted.from_pair.Goals as goal

pub returns-in_err-reached : goal.returns-in_err-reached
unfolding pair_kernel reached_kernel refused_kernel after_if afterwards
returns-in_err-reached c =
    let p = err_from_is_err_and c.from_residual.result c.from_residual.ensures.1 in
    rw (sym c.reach.ensures ∙ c.in_err-reached.was) (p.1 ∙ ap Err p.2, refl)

pub led-lead-requires : goal.led-lead-requires
led-lead-requires c = reached-few _ _ _ _ (sym c.reach.ensures ∙ c.in_ok-reached.was) c.args.self.sized refl

pub answered-requires : goal.answered-requires
answered-requires c =
    let fits = led-fits _ _ _ _ (sym c.reach.ensures ∙ c.in_ok-reached.was) c.args.self.sized refl in
    (subst (LeadFits _) (sym c.led-lead.ensures) fits, c.requires)

pub returns : goal.returns
unfolding pair_kernel lead_kernel after_if afterwards
returns c = rw (sym c.reach.ensures ∙ c.in_ok-reached.was, reached-led, ← c.led-lead.ensures) c.answered.ensures
