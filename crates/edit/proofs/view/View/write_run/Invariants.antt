use Rattle.std.proofs.Common.{◌≡◌, ◌<◌, take}
use Rattle.edit.specs.View.{size, view}
use Rattle.edit.specs.Writing.{typed_run}
use Rattle.edit.specs.Shown.{shown, beside}
use Rattle.edit.proofs.view.View.write_run.Given as goal

abbrev pub invariant-loop-code : goal.invariant-loop-code
invariant-loop-code g l =
    (beside l.self ≡ beside l.initial.self)
    × (size (g.S.Screen.grid l.self.screen.now) ≡ size (g.S.Screen.grid l.initial.self.screen.now))
    × (l.place < size (g.S.Screen.grid l.initial.self.screen.now))
    × (view (g.S.Screen.grid l.self.screen.now) l.place ≡ typed_run l.protected (take l.code-index l.run) (shown l.initial.self))
