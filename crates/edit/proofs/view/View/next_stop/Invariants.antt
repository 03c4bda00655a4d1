use Rattle.std.proofs.Common.{ℕ, ◌<◌, ◌≤◌, true}
use Rattle.edit.specs.Moves.{no_stop}
use Rattle.edit.proofs.Runs.{Tests}
use Rattle.edit.proofs.view.View.next_stop.Given as goal

abbrev pub invariant-loop-place : goal.invariant-loop-place
invariant-loop-place g l = (k : ℕ) → l.self.cursor ≤ k → k < l.place → Tests no_stop (g.S.Screen.grid l.self.screen.now).cells true k
