use Rattle.transmission.proofs.Trimming.{Trimming}
use Rattle.transmission.proofs.take.trimmed_end.Given as goal

abbrev pub invariant-loop-place : goal.invariant-loop-place
invariant-loop-place g l = Trimming l.kind (g.S.Screen.grid l.screen).cells l.from l.place l.to l.left
