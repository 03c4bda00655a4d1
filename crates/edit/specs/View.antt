-- What a user sees: the screen's cells and the cursor.
use Rattle.std.specs.Prelude.{ℕ, ◌%◌, length}
use Rattle.screen.specs.Grid.{Grid}

pub record View : Type 0 where
  pub grid : Grid
  pub cursor : ℕ

abbrev pub view : Grid → ℕ → View
view g p = record { grid = g; cursor = p }

-- how many cells there are
abbrev pub size : Grid → ℕ
size g = length g.cells

-- the cursor at a place, going round: every place counts modulo the size
abbrev pub at : Grid → ℕ → View
at g p = view g (p % size g)
