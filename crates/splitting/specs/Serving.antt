-- One read of a server's, whatever it reports and brings, and one step of its run. Definitions only.
use Rattle.std.specs.Prelude.{◌≡◌, List, ℕ, ℤ}
use Rattle.splitting.specs.declared.state.State.{State}
use Rattle.splitting.specs.declared.state.State.TheVariants.{Going}

-- what it reported and brought, which no contract can name
pub record OneRead {Server : Type 0} (after_read : ℤ → List ℕ → Server → Server → Type 0) (before after : Server) : Type 0 where
  pub got : ℤ
  pub buffer : List ℕ
  pub taken : after_read got buffer before after

-- where it was reached before, it is reached again as long as it goes on, and served when it is over
abbrev pub Onward : {Server : Type 0} → (Server → State) → (Server → Type 0) → (Server → Type 0) → Server → Server → Type 0
Onward state_of reached served before after = reached before → (state_of after ≡ Going → reached after) × ((state_of after ≡ Going → ⊥) → served after)
