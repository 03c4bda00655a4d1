-- Changes of some cells in a row or from the cursor on.
use Rattle.std.specs.Prelude.{ℕ, ◌+◌, ◌-◌, ◌%◌, Bool, cond, not, List, [], ◌∷◌, ◌++◌, map, length, take, drop, replicate}
use Rattle.std.specs.List.{prefix_len}
use Rattle.screen.specs.Cells.{Cell, blank}
use Rattle.screen.specs.Grid.{Grid, with_cells}
use Rattle.edit.specs.declared.edits.Reach.{Reach}
use Rattle.edit.specs.declared.edits.Reach.TheVariants.{Row, Display}
use Rattle.edit.specs.View.{View, size}

-- n cells from the place p on, changed by f
abbrev pub changed : ℕ → ℕ → (List Cell → List Cell) → List Cell → List Cell
changed p n f cs = take p cs ++ (f (take n (drop p cs)) ++ drop (p + n) cs)

abbrev pub redraw : Grid → ℕ → ℕ → (List Cell → List Cell) → Grid
redraw g p n f = with_cells g (changed p n f g.cells)

-- open spaces
abbrev pub erased : List Cell → List Cell
erased cs = replicate (length cs) blank

-- an open cell becomes a space, a protected one stays
abbrev pub emptied : Cell → Cell
emptied c = cond c.protected c blank

abbrev pub open_erased : List Cell → List Cell
open_erased cs = map emptied cs

-- the first cell gone, the rest moved left, a space at the end
abbrev pub deleted : List Cell → List Cell
deleted cs = drop 1 (cs ++ (blank ∷ []))

-- a space before the rest, the last cell gone
abbrev pub pushed : List Cell → List Cell
pushed cs = take (length cs) (blank ∷ cs)

abbrev pub is_open : Cell → Bool
is_open c = not c.protected

-- how many cells there are from the cursor to the end of its row, and of the display
abbrev pub room : Reach → View → ℕ
room Row v = v.grid.columns - v.cursor % v.grid.columns
room Display v = size v.grid - v.cursor

-- how many of them stand before the first protected one
abbrev pub run : Reach → View → ℕ
run r v = prefix_len is_open (take (room r v) (drop v.cursor v.grid.cells))
