-- A loop that draws the cells of a part anew.
use Rattle.std.proofs.Common.{◌≡◌, ℕ, List, refl}
use Rattle.std.specs.List.{between}
use Rattle.screen.specs.declared.interface.Screen.{Ghosts}
use Rattle.screen.specs.Cells.{Cell}
use Rattle.edit.specs.declared.view.View.{View}
use Rattle.edit.specs.Shown.{shown, beside}
use Rattle.edit.proofs.PartsDrawn.{partly, partly_none}

-- of the cells from the old cursor to an end, those before the place k are drawn anew by f
pub record Drawing {S : Type 0} {b : Ghosts S} (f : List Cell → List Cell) (old : View S b) (end k : ℕ) (now : View S b) : Type 0 where
  pub beside : beside now ≡ beside old
  pub cursor : now.cursor ≡ old.cursor
  pub grid : (shown now).grid ≡ partly (shown old).grid old.cursor (f (between old.cursor end (shown old).grid.cells)) k

pub drawing_none : {S : Type 0} {b : Ghosts S} (f : List Cell → List Cell) (old : View S b) (end : ℕ) → Drawing f old end old.cursor old
drawing_none f old end = record { beside = refl; cursor = refl; grid = partly_none (shown old).grid old.cursor (f (between old.cursor end (shown old).grid.cells)) }
