use Rattle.std.proofs.Common.{◌-◌, length}
use Rattle.stack.specs.Choice.{layers_of}
use Rattle.stack.proofs.parse.stack_here.Given as goal

-- the room that is left
abbrev pub decreases-loop-layer : goal.decreases-loop-layer
decreases-loop-layer g l = 4 - length (layers_of l.layers)
