use mathlib.Core.Path.{refl}
use Rattle.line.specs.Parity.{ones}
use Rattle.examples.proofs.examples_hold.Goals as goal

pub returns : goal.returns
unfolding ones
returns c = record {
  line_octets = record {
    synchronous_soh = refl;
    synchronous_etx = refl;
    asynchronous_soh = refl;
    asynchronous_etx = refl;
  };
  poll_check = refl;
  no_traffic_check = refl;
}
