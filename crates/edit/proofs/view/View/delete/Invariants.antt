use Rattle.edit.specs.Parts.{deleted}
use Rattle.edit.proofs.Drawing.{Drawing}
use Rattle.edit.proofs.view.View.delete.Given as goal

abbrev pub invariant-loop-k : goal.invariant-loop-k
invariant-loop-k g l = Drawing deleted l.initial.self l.end l.k l.self
