use Rattle.host.proofs.Steps.{drawn_all_on, taken_before}
use Rattle.host.proofs.examples.laws_hold.Goals as goal

pub returns : goal.returns
returns c = record { stay = drawn_all_on; taken = taken_before }
