-- What a line of a night says (docs/SCOPE.md, The page): an answer line by its layout, with a number that there is and a longest sum of at most 19;
-- any other line, an empty one too, is unreadable. Definitions only.
use Rattle.std.specs.Prelude.{Bool, cond, ◌&&◌, ◌||◌, List, ℕ, ◌<◌, leb, eqb, Option, None, Some}
use Rattle.refusal.specs.Number.{is_listed}
use Rattle.frame.specs.declared.reading.Record.{Record}
use Rattle.frame.specs.Reading.{reading_of}
use Rattle.page.specs.Layout.{numbers, sums}

-- 0 or a number of the list of refusals, and a sum that can be
unfoldable pub is_known : Record → Bool
is_known r = leb r.longest_sum 19 && (eqb r.number 0 || is_listed r.number)

unfoldable pub said_in : Option Record → Option Record
said_in (Some r) = cond (is_known r) (Some r) None
said_in None = None

unfoldable pub said_by : List ℕ → Option Record
said_by line = said_in (reading_of line)

-- ---- what is known of a line that is read: its number and its sum have cells
unfoldable pub Known : Option Record → Type 0
Known (Some r) = (r.number < numbers) × (r.longest_sum < sums)
Known None = Unit {0}
