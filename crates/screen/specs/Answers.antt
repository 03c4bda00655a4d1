-- What each call of a screen answers.
use Rattle.std.specs.Prelude.{ℕ, ◌+◌, ◌*◌, ◌/◌, ◌%◌, Bool, cond, ◌&&◌, Ok, Err, Result, nat_lt, slice_index_or}
use Rattle.screen.specs.declared.refusal.Refusal.{Refusal}
use Rattle.screen.specs.declared.refusal.Refusal.TheVariants.{OffScreen, WrongSize}
use Rattle.screen.specs.Cells.{Cell, blank}
use Rattle.screen.specs.Grid.{Grid, has_place, has_row}

-- the number of a refusal
abbrev pub number_of : Refusal → ℕ
number_of OffScreen = 13
number_of WrongSize = 14

-- the value where the test holds, and else the refusal 13
abbrev pub on_screen : {A : Type 0} → Bool → A → Result A Refusal
on_screen b x = cond b (Ok x) (Err OffScreen)

-- done where the test holds
abbrev pub done_if : Bool → Result (Unit {0}) Refusal
done_if b = on_screen b tt

-- the character and the protection of a cell, as a read answers them
abbrev pub parts : Cell → ℕ × Bool
parts x = (x.code, x.protected)

abbrev pub read_at : Grid → ℕ → Result (ℕ × Bool) Refusal
read_at g p = on_screen (has_place g p) (parts (slice_index_or g.cells p blank))

-- the row and the column of a place
abbrev pub split_at : Grid → ℕ → Result (ℕ × ℕ) Refusal
split_at g p = on_screen (has_place g p) (p / g.columns, p % g.columns)

-- the place of a row and a column
abbrev pub place_at : Grid → ℕ → ℕ → Result ℕ Refusal
place_at g r c = on_screen (has_row g r && nat_lt c g.columns) (r * g.columns + c)
