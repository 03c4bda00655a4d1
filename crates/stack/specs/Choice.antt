-- What the layers of a stack are.
use Rattle.std.specs.Prelude.{List, take}
use Rattle.stack.specs.declared.choice.Layer.{Layer}
use Rattle.stack.specs.declared.choice.Layers.{Layers}

-- as many as there are, the outermost first
abbrev pub layers_of : Layers → List Layer
layers_of l = take l.count l.items
