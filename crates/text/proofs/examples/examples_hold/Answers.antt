use Rattle.std.proofs.Common.{refl}
use Rattle.text.proofs.examples.examples_hold.Goals as goal

pub returns : goal.returns
returns c = record { addresses = refl; third = refl; early = refl; twice = refl }
