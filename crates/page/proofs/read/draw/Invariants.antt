use Rattle.std.proofs.Common.{◌≡◌, List}
use Rattle.screen.specs.Cells.{Cell}
use Rattle.page.proofs.Drawing.{Drawing}
use Rattle.page.specs.Walk.{rest_of}
use Rattle.page.proofs.read.draw.Given as goal

abbrev pub invariant-loop-place : goal.invariant-loop-place
invariant-loop-place g l =
    let S = g.S.Screen in
    (S.rest l.screen ≡ S.rest l.initial.screen)
    × ((cs : List Cell) → Drawing (S.grid l.initial.screen) cs l.count (rest_of l.initial.cells) 0 (S.grid l.initial.screen) → Drawing (S.grid l.initial.screen) cs l.count (rest_of l.cells) l.place (S.grid l.screen))
