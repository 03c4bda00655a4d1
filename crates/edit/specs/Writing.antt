-- Characters written at the cursor, and keys that store.
use Rattle.std.specs.Prelude.{ℕ, ◌+◌, ◌%◌, Bool, false, cond, List, drop, fold, nat_lt}
use Rattle.std.specs.List.{prefix_len}
use Rattle.screen.specs.Cells.{Cell}
use Rattle.screen.specs.Grid.{Grid, written}
use Rattle.edit.specs.View.{View, view, size}

-- a character written over any cell, and the cursor one on
abbrev pub typed : Bool → View → ℕ → View
typed m v c = view (written v.grid v.cursor c m) ((v.cursor + 1) % size v.grid)

-- characters one after the other
abbrev pub typed_run : Bool → List ℕ → View → View
typed_run m cs v = fold (typed m) v cs

abbrev pub is_protected : Cell → Bool
is_protected c = c.protected

-- the first open cell at or after a place; or else the size, or more
abbrev pub open_from : Grid → ℕ → ℕ
open_from g p = p + prefix_len is_protected (drop p g.cells)

-- the same, going round
abbrev pub first_open : Grid → ℕ → ℕ
first_open g p = cond (nat_lt (open_from g p) (size g)) (open_from g p) (open_from g 0)

-- whether any cell is open
abbrev pub any_open : Grid → Bool
any_open g = nat_lt (open_from g 0) (size g)

-- a key's character goes into the first open cell at or after the cursor, and the cursor to the next one
abbrev pub stored : ℕ → View → View
stored c v =
    view (written v.grid (first_open v.grid v.cursor) c false)
    (first_open v.grid ((first_open v.grid v.cursor + 1) % size v.grid))
