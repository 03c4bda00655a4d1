use Rattle.std.proofs.Common.{◌≤◌}
use Rattle.script.proofs.words.take_word.Given as goal

abbrev pub invariant-loop-octet : goal.invariant-loop-octet
invariant-loop-octet g l = l.input ≤ l.fn.input

abbrev pub decreases-loop-octet : goal.decreases-loop-octet
decreases-loop-octet g l = l.input
