-- Whether a program that answers lines is over, and the status that it tells. Definitions only.
use Rattle.std.specs.Prelude.{Bool, true, false, cond, List, ℕ, eqb, Option, None, Some}
use Rattle.splitting.specs.declared.state.State.{State}
use Rattle.splitting.specs.declared.state.State.TheVariants.{Going, Whole, Unwritten, Unread}

abbrev pub is_over : State → Bool
is_over Going = false
is_over Whole = true
is_over Unwritten = true
is_over Unread = true

-- told at the end, as a digit: 0 where everything was read and written and nothing refused, and else 1
abbrev pub status_of : State → ℕ → ℕ
status_of Whole refused = cond (eqb refused 0) 48 49
status_of Going refused = 49
status_of Unwritten refused = 49
status_of Unread refused = 49

-- told of a loss: of a write that failed, of a read that failed
abbrev pub loss_of : State → List ℕ → List ℕ → Option (List ℕ)
loss_of Going unwritten unread = None
loss_of Whole unwritten unread = None
loss_of Unwritten unwritten unread = Some unwritten
loss_of Unread unwritten unread = Some unread
