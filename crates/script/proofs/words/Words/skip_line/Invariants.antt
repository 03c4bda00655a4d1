use Rattle.script.specs.Words.{left}
use Rattle.script.proofs.words.Words.skip_line.Given as goal

abbrev pub decreases-loop : goal.decreases-loop
decreases-loop g l = left l.self
