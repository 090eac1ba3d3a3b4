-- n-fold iteration
use Rattle.std.specs.Prelude.{ℕ, zero, suc}

unfoldable pub iterate : {A : Type 0} → ℕ → (A → A) → A → A
iterate zero f x = x
iterate (suc n) f x = f (iterate n f x)
