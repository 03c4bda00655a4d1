use Rattle.transmission.proofs.Plainness.{taken_plain}
use Rattle.transmission.proofs.laws.laws_hold.Goals as goal

pub returns : goal.returns
returns c = taken_plain
