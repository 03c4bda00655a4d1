use Rattle.std.proofs.Common.{◌≡◌, ◌-◌, true, ◌∷◌, get_or}
use Rattle.std.specs.List.{between}
use Rattle.screen.specs.Cells.{cell, blank, storable}
use Rattle.edit.specs.Shown.{shown}
use Rattle.edit.specs.Parts.{pushed}
use Rattle.edit.proofs.Drawing.{Drawing}
use Rattle.edit.proofs.view.View.insert.Given as goal

abbrev pub invariant-loop-k : goal.invariant-loop-k
invariant-loop-k g l =
    Drawing pushed l.initial.self l.end l.k l.self
    × (cell l.before.0 l.before.1 ≡ get_or (blank ∷ between l.initial.self.cursor l.end (shown l.initial.self).grid.cells) (l.k - l.initial.self.cursor) blank)
    × (storable l.before.0 ≡ true)
