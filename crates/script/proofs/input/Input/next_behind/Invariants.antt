use Rattle.std.proofs.Common.{◌≤◌}
use Rattle.script.proofs.input.Input.next_behind.Given as goal

abbrev pub invariant-loop-fits : goal.invariant-loop-fits
invariant-loop-fits g l = l.self ≤ l.fn.self

abbrev pub decreases-loop-fits : goal.decreases-loop-fits
decreases-loop-fits g l = l.self
