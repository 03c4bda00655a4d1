-- Where the moves take the cursor.
use Rattle.std.specs.Prelude.{ℕ, ◌+◌, ◌-◌, ◌*◌, ◌%◌, Bool, cond, not, ◌&&◌, drop, ◌==◌, nat_lt}
use Rattle.std.specs.List.{prefix_len}
use Rattle.codes.specs.Ascii.{HT}
use Rattle.screen.specs.Cells.{Cell}
use Rattle.edit.specs.declared.edits.Motion.{Motion}
use Rattle.edit.specs.declared.edits.Motion.TheVariants.{Home, Up, Down, Left, Right, Return, Tab}
use Rattle.edit.specs.View.{View, view, size}

abbrev pub no_stop : Cell → Bool
no_stop c = not (c.code == HT)

-- the first tab stop at or after the cursor, protected or open; or else the size
abbrev pub stop_from : View → ℕ
stop_from v = v.cursor + prefix_len no_stop (drop v.cursor v.grid.cells)

-- up and down in the column, left and right by one place, each going round; Return to the first cell of the next row;
-- Tab to the cell after the stop, and to place 0 without one
abbrev pub moved : Motion → View → ℕ
moved Home v = 0
moved Up v = (v.cursor + (size v.grid - v.grid.columns)) % size v.grid
moved Down v = (v.cursor + v.grid.columns) % size v.grid
moved Left v = (v.cursor + (size v.grid - 1)) % size v.grid
moved Right v = (v.cursor + 1) % size v.grid
moved Return v = (v.cursor - v.cursor % v.grid.columns + v.grid.columns) % size v.grid
moved Tab v = cond (nat_lt (stop_from v) (size v.grid)) ((stop_from v + 1) % size v.grid) 0

-- to a row and a column; off the screen there is no move
abbrev pub addressed : ℕ → ℕ → View → View
addressed y x v = cond (nat_lt y v.grid.rows && nat_lt x v.grid.columns) (view v.grid (y * v.grid.columns + x)) v
