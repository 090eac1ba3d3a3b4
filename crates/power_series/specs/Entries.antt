-- The lent buffer as entries. Definitions only.
use Rattle.std.specs.Prelude.{◌≡◌, ℕ, ◌/◌, length}
use Rattle.power_series.specs.declared.entries.Entries.{Entries}

-- how many orders have an entry there
abbrev pub orders : Entries → ℕ
orders e = length e.cells.now / 2

-- the same buffer, with other values in its cells
abbrev pub Kept : Entries → Entries → Type 0
Kept before after = (after.cells.ghost_name ≡ before.cells.ghost_name) × (length after.cells.now ≡ length before.cells.now)
