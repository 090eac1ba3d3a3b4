use mathlib.Core.Path.{◌≡◌}
use Rattle.splitting.specs.declared.state.State.TheVariants.{Going}
use Rattle.splitting.proofs.serving.serve.Given as goal

abbrev pub invariant-loop : goal.invariant-loop
invariant-loop g l = record { going : g.S.Server.state_of l.server ≡ Going; reached : g.S.Server.reached l.server }
