-- `refusal::refusal::is_listed` meets its contract: the numbers that are read are those of the list. Assumes nothing.
use Rattle.std.proofs.Common.{◌≡◌, sym, ap, ◌∙◌, ℕ, Ok, Err, Result}
use Rattle.std.specs.Prelude.{is_ok}
use Rattle.refusal.specs.Number.{is_listed, ReadsNumber}
use Rattle.refusal.specs.declared.refusal.Refusal.{Refusal}
use Rattle.refusal.specs.declared.refusal.Unlisted.{Unlisted}
use Rattle.refusal.proofs.Distinct.{listed}
use Rattle.refusal.proofs.refusal.is_listed.Goals as goal

read : (n : ℕ) (r : Result Refusal Unlisted) → ReadsNumber n r → is_ok r ≡ is_listed n
read n (Ok refusal) h = sym (listed refusal) ∙ ap is_listed h
read n (Err e) h = sym h.1

pub returns : goal.returns
returns c = c.is_ok.ensures.value ∙ read _ _ c.try_from.ensures
