use Rattle.std.proofs.Common.{◌≡◌}
use Rattle.screen.proofs.Grids.{clearing}
use Rattle.screen.proofs.interface.Screen.clear_row.Given as goal

abbrev pub invariant-loop-place : goal.invariant-loop-place
invariant-loop-place g l =
    let S = g.Self.Screen in
    (S.rest l.self ≡ S.rest l.initial.self) × (S.grid l.self ≡ clearing (S.grid l.initial.self) l.first l.place)
