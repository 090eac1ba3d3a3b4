-- `miller::seeds::seeds_at` meets its contract: a pair from the start that was found, or refusal 6. Assumes nothing.
use Rattle.std.proofs.Common.{rules}
use Rattle.miller.specs.Seeds.{seeds_at}
use Rattle.miller.proofs.seeds.seeds_at.Goals as goal

pub returns-in_err-start : goal.returns-in_err-start
unfolding seeds_at
returns-in_err-start c = search rules

pub returns : goal.returns
unfolding seeds_at
returns c = search rules
