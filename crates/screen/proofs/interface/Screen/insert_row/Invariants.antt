use Rattle.std.proofs.Common.{◌≡◌, ◌-◌, ◌*◌, ◌≤◌}
use Rattle.screen.proofs.Grids.{lowering}
use Rattle.screen.proofs.interface.Screen.insert_row.Given as goal

abbrev pub invariant-loop-from : goal.invariant-loop-from
invariant-loop-from g l =
    let S = g.Self.Screen in
    (l.row * l.columns ≤ l.from)
    × (S.rest l.self ≡ S.rest l.initial.self)
    × (S.grid l.self ≡ lowering (S.grid l.initial.self) l.columns ((l.rows - 1) * l.columns) l.from)
