-- The edits: which letter each has, and what it makes of a view.
use Rattle.std.specs.Prelude.{ℕ, ◌-◌, ◌/◌, cond, Some, None, Option, ◌==◌}
use Rattle.screen.specs.Grid.{Grid, removed, inserted}
use Rattle.edit.specs.declared.edits.Reach.TheVariants.{Row, Display}
use Rattle.edit.specs.declared.edits.Motion.TheVariants.{Home, Up, Down, Left, Right}
use Rattle.edit.specs.declared.edits.Change as change
use Rattle.edit.specs.declared.edits.Change.TheVariants.{InsertRow, RemoveRow, EraseAll, EraseOpen, Erase, Delete, Insert}
use Rattle.edit.specs.declared.edits.Edit.{Edit}
use Rattle.edit.specs.declared.edits.Edit.TheVariants.{Move, Change}
use Rattle.edit.specs.View.{View, view, size}
use Rattle.edit.specs.Moves.{moved}
use Rattle.edit.specs.Parts.{redraw, erased, open_erased, deleted, pushed, run}

-- e f i g h; j k M a; b K; c C; d D
abbrev pub of_letter : ℕ → Option Edit
of_letter c =
    cond (c == 0x65) (Some (Move Home))
    (cond (c == 0x66) (Some (Move Up))
    (cond (c == 0x69) (Some (Move Down))
    (cond (c == 0x67) (Some (Move Left))
    (cond (c == 0x68) (Some (Move Right))
    (cond (c == 0x6A) (Some (Change InsertRow))
    (cond (c == 0x6B) (Some (Change RemoveRow))
    (cond (c == 0x4D) (Some (Change EraseAll))
    (cond (c == 0x61) (Some (Change EraseOpen))
    (cond (c == 0x62) (Some (Change (Erase Row)))
    (cond (c == 0x4B) (Some (Change (Erase Display)))
    (cond (c == 0x63) (Some (Change (Delete Row)))
    (cond (c == 0x43) (Some (Change (Delete Display)))
    (cond (c == 0x64) (Some (Change (Insert Row)))
    (cond (c == 0x44) (Some (Change (Insert Display))) None))))))))))))))

-- the cells after a change at the cursor
abbrev pub redrawn : change.Change → View → Grid
redrawn InsertRow v = inserted v.grid (v.cursor / v.grid.columns)
redrawn RemoveRow v = removed v.grid (v.cursor / v.grid.columns)
redrawn EraseAll v = redraw v.grid v.cursor (size v.grid - v.cursor) erased
redrawn EraseOpen v = redraw v.grid v.cursor (size v.grid - v.cursor) open_erased
redrawn (Erase r) v = redraw v.grid v.cursor (run r v) erased
redrawn (Delete r) v = redraw v.grid v.cursor (run r v) deleted
redrawn (Insert r) v = redraw v.grid v.cursor (run r v) pushed

-- a move leaves the cells, a change the cursor
abbrev pub edited : Edit → View → View
edited (Move m) v = view v.grid (moved m v)
edited (Change c) v = view (redrawn c v) v.cursor
