use Rattle.std.proofs.Common.{refl}
use Rattle.line.specs.Parity.{ones}
use Rattle.screen.specs.Cells.{storable}
use Rattle.settled.proofs.examples_hold.Goals as goal

pub returns : goal.returns
unfolding ones storable
returns c = record {
  synchronous_SOH = refl;
  synchronous_ETX = refl;
  asynchronous_SOH = refl;
  asynchronous_ETX = refl;
  poll_check = refl;
  no_traffic_check = refl;
  last_place = refl;
  no_move = refl;
  keyed_text = refl;
  keyed_check = refl;
  keyed_reply = refl;
  two_rows = refl;
  longer = refl;
  padded = refl;
}
