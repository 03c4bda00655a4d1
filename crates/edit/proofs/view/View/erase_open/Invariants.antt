use Rattle.edit.specs.Parts.{open_erased}
use Rattle.edit.proofs.Drawing.{Drawing}
use Rattle.edit.proofs.view.View.erase_open.Given as goal

abbrev pub invariant-loop-k : goal.invariant-loop-k
invariant-loop-k g l = Drawing open_erased l.initial.self l.end l.k l.self
