-- What edits and writing keep.
use Rattle.std.specs.Prelude.{◌≡◌, ℕ, ◌<◌, Bool, true, false, cond, List, map, Some, None, Option}
use Rattle.screen.specs.Cells.{Cell}
use Rattle.screen.specs.Grid.{Grid, Sound}
use Rattle.edit.specs.declared.edits.Change.TheVariants.{InsertRow, RemoveRow, EraseAll, EraseOpen, Erase, Delete, Insert}
use Rattle.edit.specs.declared.edits.Edit.{Edit}
use Rattle.edit.specs.declared.edits.Edit.TheVariants.{Move, Change}
use Rattle.edit.specs.View.{View, size}
use Rattle.edit.specs.Moves.{addressed}
use Rattle.edit.specs.Edits.{edited}
use Rattle.edit.specs.Writing.{typed, any_open, stored}

-- the cells are those of a screen, and the cursor is on it
pub record OnScreen (v : View) : Type 0 where
  pub sound : Sound v.grid
  pub on : v.cursor < size v.grid

-- the character of a protected cell
abbrev pub caption : Cell → Option ℕ
caption c = cond c.protected (Some c.code) None

-- the protected cells, each with its place
abbrev pub captions : Grid → List (Option ℕ)
captions g = map caption g.cells

-- the edits that are keys too: all but those that go over protected cells
abbrev pub is_key : Edit → Bool
is_key (Move m) = true
is_key (Change InsertRow) = false
is_key (Change RemoveRow) = false
is_key (Change EraseAll) = false
is_key (Change EraseOpen) = true
is_key (Change (Erase r)) = true
is_key (Change (Delete r)) = true
is_key (Change (Insert r)) = true

-- every edit, address, written character and stored character leaves a screen with the cursor on it
abbrev pub StayOnScreen : Type 0
StayOnScreen =
    ((e : Edit) (v : View) → OnScreen v → OnScreen (edited e v))
    × ((y x : ℕ) (v : View) → OnScreen v → OnScreen (addressed y x v))
    × ((m : Bool) (v : View) (c : ℕ) → OnScreen v → OnScreen (typed m v c))
    × ((c : ℕ) (v : View) → any_open v.grid ≡ true → OnScreen v → OnScreen (stored c v))

-- no key touches a protected cell, and none makes one
abbrev pub CaptionsStay : Type 0
CaptionsStay =
    ((e : Edit) (v : View) → is_key e ≡ true → captions (edited e v).grid ≡ captions v.grid)
    × ((c : ℕ) (v : View) → any_open v.grid ≡ true → captions (stored c v).grid ≡ captions v.grid)
