-- The meaning of a screen, and what each call makes of it.
use Rattle.std.specs.Prelude.{◌≡◌, ℕ, ◌*◌, ◌<◌, ◌≤◌, Bool, true, cond, ◌&&◌, List, length, get_or, nat_lt, slice_index_or, slice_set}
use Rattle.screen.specs.Cells.{Cell, cell, blank, storable}
use Rattle.screen.specs.Rows.{clear_row, remove_row, insert_row}

-- rows, columns, and the cells row by row
pub record Grid : Type 0 where
  pub rows : ℕ
  pub columns : ℕ
  pub cells : List Cell

-- what the grid of every screen keeps
pub record Sound (g : Grid) : Type 0 where
  pub row_least : 2 ≤ g.rows
  pub row_most : g.rows ≤ 24
  pub column_least : 1 ≤ g.columns
  pub column_most : g.columns ≤ 80
  pub filled : length g.cells ≡ g.rows * g.columns
  pub stored : (k : ℕ) → k < length g.cells → storable (get_or g.cells k blank).code ≡ true

-- the same size with other cells
abbrev pub with_cells : Grid → List Cell → Grid
with_cells g cs = record { rows = g.rows; columns = g.columns; cells = cs }

-- whether a place, and a row, is on the screen
abbrev pub has_place : Grid → ℕ → Bool
has_place g p = nat_lt p (length g.cells)

abbrev pub has_row : Grid → ℕ → Bool
has_row g r = nat_lt r g.rows

-- whether the character can be written at the place
abbrev pub writable : Grid → ℕ → ℕ → Bool
writable g p c = has_place g p && storable c

-- after a write, after one cell is copied onto another, and after a row is cleared, removed or inserted: what is refused changes nothing
abbrev pub written : Grid → ℕ → ℕ → Bool → Grid
written g p c m = with_cells g (cond (writable g p c) (slice_set g.cells p (cell c m)) g.cells)

abbrev pub copied : Grid → ℕ → ℕ → Grid
copied g to from = with_cells g (cond (has_place g from && has_place g to) (slice_set g.cells to (slice_index_or g.cells from blank)) g.cells)

abbrev pub cleared : Grid → ℕ → Grid
cleared g r = with_cells g (cond (has_row g r) (clear_row blank g.columns r g.cells) g.cells)

abbrev pub removed : Grid → ℕ → Grid
removed g r = with_cells g (cond (has_row g r) (remove_row blank g.columns r g.cells) g.cells)

abbrev pub inserted : Grid → ℕ → Grid
inserted g r = with_cells g (cond (has_row g r) (insert_row blank g.columns r g.cells) g.cells)
