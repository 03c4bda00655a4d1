-- The size of a screen, before and after.
use Rattle.std.specs.Prelude.{◌≡◌}
use Rattle.screen.specs.Grid.{Grid}

-- a grid with as many rows and as many columns as another
pub record SameSize (old new : Grid) : Type 0 where
  pub rows : new.rows ≡ old.rows
  pub columns : new.columns ≡ old.columns
