use Rattle.edit.specs.Parts.{erased}
use Rattle.edit.proofs.Drawing.{Drawing}
use Rattle.edit.proofs.view.View.erase.Given as goal

abbrev pub invariant-loop-k : goal.invariant-loop-k
invariant-loop-k g l = Drawing erased l.initial.self l.end l.k l.self
