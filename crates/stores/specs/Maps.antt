-- Characters beside a map of protection bits.
use Rattle.std.specs.Prelude.{◌≡◌, ℕ, ◌*◌, ◌/◌, ◌%◌, ◌<◌, true, List, slice_index}
use Rattle.screen.specs.Cells.{Cell, cell, storable}
use Rattle.screen.specs.Grid.{Grid, Sound}
use Rattle.screen.specs.View.{table, table_sound}
use Rattle.stores.specs.Size.{allowed, allowed_sized}
use Rattle.stores.specs.Marks.{bit_of}

abbrev pub cell_at : List ℕ → List ℕ → ℕ → Cell
cell_at codes marks k = cell (slice_index codes k) (bit_of (slice_index marks (k / 8)) (k % 8))

abbrev pub map_grid : ℕ → ℕ → List ℕ → List ℕ → Grid
map_grid rows columns codes marks = record { rows = rows; columns = columns; cells = table (rows * columns) (cell_at codes marks) }

-- each of the first n characters is one that a cell can hold
abbrev pub AllCodes : ℕ → List ℕ → Type 0
AllCodes n codes = (k : ℕ) → k < n → storable (slice_index codes k) ≡ true

pub map_sound : (rows columns : ℕ) (codes marks : List ℕ) → allowed rows columns ≡ true → AllCodes (rows * columns) codes → Sound (map_grid rows columns codes marks)
map_sound rows columns codes marks size held = table_sound rows columns (cell_at codes marks) (allowed_sized rows columns size) held
