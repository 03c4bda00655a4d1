-- What a screen with the cursor on it shows.
use Rattle.std.specs.Borrow.{GName}
use Rattle.screen.specs.declared.interface.Screen.{Ghosts}
use Rattle.edit.specs.View as spec
use Rattle.edit.specs.declared.view.View.{View}

-- the cells and the cursor
abbrev pub shown : {S : Type 0} {b : Ghosts S} → View S b → spec.View
shown {b = b} v = spec.view (b.grid v.screen.now) v.cursor

-- what lies beside them, with the name of the reference to the screen
abbrev pub beside : {S : Type 0} {b : Ghosts S} → View S b → GName × b.Rest
beside {b = b} v = (v.screen.ghost_name, b.rest v.screen.now)
