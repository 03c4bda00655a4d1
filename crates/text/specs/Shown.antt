-- The steps that the code hands out, and what a reader has still to hand out.
use Rattle.std.specs.Prelude.{List, drop}
use Rattle.text.specs.declared.step.Step as code
use Rattle.text.specs.declared.step.Step.TheVariants.{Run, Address, Escape, Control, Broken}
use Rattle.text.specs.declared.reader.Reader.{Reader}
use Rattle.text.specs.Steps.{Step, run, address, escape, control, broken, steps}

-- the step that a value of the code stands for
abbrev pub shown : code.Step → Step
shown (Run part p) = run part.now p
shown (Address y x) = address y x
shown (Escape c) = escape c
shown (Control c) = control c
shown Broken = broken

-- the steps still to be handed out
abbrev pub unread : Reader → List Step
unread r = steps r.place 0 (drop r.place r.text.now)
