-- A cell, and what it can hold.
use Rattle.std.specs.Prelude.{ℕ, Bool, false, ◌||◌, ◌==◌}
use Rattle.codes.specs.Ascii.{HT, FS, GS, RS, SPACE}
use Rattle.codes.specs.Classes.{is_data}

-- a character, and whether it is protected
pub record Cell : Type 0 where
  pub code : ℕ
  pub protected : Bool

abbrev pub cell : ℕ → Bool → Cell
cell c m = record { code = c; protected = m }

-- an open space
abbrev pub blank : Cell
blank = cell SPACE false

-- the characters that a cell can hold
unfoldable pub storable : ℕ → Bool
storable c = is_data c || (c == HT || (c == FS || (c == GS || c == RS)))
