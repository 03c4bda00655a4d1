-- Worked examples, on a screen of 12 rows of 80 open spaces.
use Rattle.std.specs.Prelude.{◌≡◌, ℕ, false, List, [], ◌∷◌, replicate, Some, slice_set}
use Rattle.codes.specs.Ascii.{VT, CR, SI, DC1, ESC}
use Rattle.screen.specs.Cells.{cell, blank}
use Rattle.screen.specs.Grid.{Grid, with_cells}
use Rattle.text.specs.Steps.{steps_of}
use Rattle.edit.specs.View.{View, view, at}
use Rattle.transmission.specs.declared.kind.Kind.TheVariants.{Open}
use Rattle.transmission.specs.Text.{taken}
use Rattle.host.specs.Drawing.{drawn_all}
use Rattle.host.specs.Carrying.{taking}

abbrev new : Grid
new = record { rows = 12; columns = 80; cells = replicate 960 blank }

-- the view that a text leaves on it
abbrev shown : List ℕ → View
shown text = drawn_all false (steps_of text) (at new 0)

-- the address 2B 6F is place 959
abbrev pub LastPlace : Type 0
LastPlace = shown (ESC ∷ VT ∷ 0x2B ∷ 0x6F ∷ SI ∷ []) ≡ view new 959

-- the address 2C 20 is off the screen: no move
abbrev pub NoMove : Type 0
NoMove = drawn_all false (steps_of (ESC ∷ VT ∷ 0x2C ∷ 0x20 ∷ SI ∷ [])) (at new 959) ≡ view new 959

-- A at place 0, the cursor on B at place 80, and then DC1
abbrev pub TwoRows : Type 0
TwoRows =
    (taken Open (view (with_cells new (slice_set (slice_set new.cells 0 (cell 0x41 false)) 80 (cell 0x42 false))) 80) ≡ ESC ∷ VT ∷ 0x20 ∷ 0x20 ∷ SI ∷ 0x41 ∷ CR ∷ 0x42 ∷ [])
    × (taking false (steps_of (0x41 ∷ CR ∷ 0x42 ∷ ESC ∷ 0x67 ∷ DC1 ∷ [])) (at new 0) ≡ Some (ESC ∷ VT ∷ 0x20 ∷ 0x20 ∷ SI ∷ 0x41 ∷ CR ∷ 0x42 ∷ []))
