use Rattle.std.proofs.Common.{◌≡◌}
use Rattle.transmission.specs.Text.{start_at}
use Rattle.transmission.proofs.take.start_at.Given as goal

abbrev pub invariant-loop-place : goal.invariant-loop-place
invariant-loop-place g l = let cells = (g.S.Screen.grid l.screen).cells in start_at cells l.place ≡ start_at cells l.cursor
