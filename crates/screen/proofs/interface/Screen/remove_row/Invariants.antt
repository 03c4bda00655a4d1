use Rattle.std.proofs.Common.{◌≡◌, ◌*◌}
use Rattle.screen.proofs.Grids.{lifting}
use Rattle.screen.proofs.interface.Screen.remove_row.Given as goal

abbrev pub invariant-loop-to : goal.invariant-loop-to
invariant-loop-to g l =
    let S = g.Self.Screen in
    (S.rest l.self ≡ S.rest l.initial.self) × (S.grid l.self ≡ lifting (S.grid l.initial.self) (l.row * l.columns) l.columns l.to)
