-- What an answer line says besides its record: how many pairs. Definitions only.
use Rattle.std.specs.Prelude.{cond, ℕ, ◌*◌, eqb, Option, None, Some}
use Rattle.frame.specs.declared.asking.Asking.{Asking}
use Rattle.call.specs.Answer.{number_in}
use Rattle.answering.specs.Called.{called_of}

-- as many as were asked for behind the number 0, and none behind any other
unfoldable pub pairs_of : Option Asking → ℕ
pairs_of (Some a) = cond (eqb (number_in (called_of a (a.count * 2)).answer) 0) a.count 0
pairs_of None = 0
