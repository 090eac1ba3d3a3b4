-- `recurrence::search::after_trial` meets its contract: by its two tests, of any rule that the second keeps to. Assumes nothing.
use mathlib.Core.Path.{refl, sym, ap, ◌∙◌}
use Rattle.recurrence.specs.Search.{lowered_of, after_trial}
use Rattle.recurrence.specs.declared.search.Search.{Search}
use Rattle.recurrence.proofs.search.after_trial.Goals as goal

pub returns-then-is_some : goal.returns-then-is_some
unfolding after_trial
returns-then-is_some g c = (λ rule k. simp (sym c.is_some.ensures ∙ c.if-is_some.true), refl)

pub returns-then-is_lowered : goal.returns-then-is_lowered
unfolding after_trial lowered_of
returns-then-is_lowered g c =
    (λ rule k. simp (c.lowered.ensures, sym c.is_some.ensures ∙ c.if-is_some.false, sym (k _ _ _ c.is_lowered.ensures) ∙ c.if-is_lowered.true), ap (λ (s : Search). s.rungs) c.lowered.ensures)

pub returns : goal.returns
unfolding after_trial
returns g c = (λ rule k. simp (sym c.is_some.ensures ∙ c.if-is_some.false, sym (k _ _ _ c.is_lowered.ensures) ∙ c.if-is_lowered.false), refl)
