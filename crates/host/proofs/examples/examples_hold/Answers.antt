use Rattle.std.proofs.Common.{refl}
use Rattle.screen.specs.Cells.{storable}
use Rattle.host.proofs.examples.examples_hold.Goals as goal

pub returns : goal.returns
unfolding storable
returns c = record { last = refl; off = refl; rows = (refl, refl) }
