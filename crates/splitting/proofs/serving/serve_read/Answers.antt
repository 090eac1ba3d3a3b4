-- `splitting::serving::serve_read` meets its contract: by what the read reported. Assumes nothing.
use mathlib.Core.List.{List}
use Prim.Native.Nat.{ℕ}
use lib.IntN.{ℤ, pos, negsuc}
use Rattle.std.specs.Prelude.{Result, Ok, Err, IfOk, OnErr}
use Rattle.splitting.specs.Serving.{OneRead}
use Rattle.splitting.proofs.serving.serve_read.Goals as goal

one-read :
    {E S : Type 0} (after : ℤ → List ℕ → S → S → Type 0) (got : Result ℕ E) (buffer : List ℕ) (a b : S) → IfOk got (λ n. after (pos n) buffer a b) →
    OnErr got ((k : ℕ) → after (negsuc k) buffer a b) → OneRead after a b
one-read after (Ok n) buffer a b f g = record { got = pos n; buffer = buffer; taken = f }
one-read after (Err e) buffer a b f g = record { got = negsuc 0; buffer = buffer; taken = g 0 }

pub returns-clause-read : goal.returns-clause-read
returns-clause-read g c = one-read g.S.Server.after_read _ _ _ _ c.take_read.ensures.counted c.take_read.ensures.failed
