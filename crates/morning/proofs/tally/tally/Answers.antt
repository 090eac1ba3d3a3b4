-- `morning::tally::tally` meets its contract: by the result. Assumes nothing.
use mathlib.Core.Path.{◌≡◌, refl, sym, ap, ◌∙◌}
use Prim.Native.Nat.{ℕ, ◌+◌}
use native.Mathlib.Omega.{arith}
use borrow.Author.Tests.{ne_eqb}
use mir.Val.{bool_byte}
use Rattle.std.specs.Prelude.{Ok, Err}
use Rattle.std.specs.Result.{is_err}
use Rattle.refusal.specs.Number.{number_of}
use Rattle.refusal.proofs.Distinct.{never-zero}
use Rattle.call.specs.Checks.{Verdict, number_given}
use Rattle.splitting.specs.Count.{counted}
use Rattle.morning.specs.Tally.{one_unless}
use Rattle.morning.proofs.tally.tally.Goals as goal

too_many : (v : Verdict) → bool_byte (is_err v) ≡ one_unless (number_given v)
unfolding number_given
too_many (Ok admitted) = refl
too_many (Err refusal) = sym (simp (ne_eqb (number_of refusal) 0 (λ e. let h = never-zero refusal in omega arith)))

pub returns : goal.returns
returns c =
    c.count.ensures ∙ ap (λ (n : ℕ). counted (c.args.refused + n)) (c.from.ensures ∙ ap bool_byte c.is_err.ensures.value ∙ too_many c.args.added)
