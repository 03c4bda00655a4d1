use Rattle.std.proofs.Common.{◌≡◌, Ok, rules, ap}
use Rattle.area.specs.Over.{over}
use Rattle.station.specs.Meaning.{station_of}
use Rattle.console.specs.Messages.{carry_out, decide_message}
use Rattle.station.specs.Station.{message_outcome}
use Rattle.terminal.proofs.send.Sender.obey.Goals as goal

-- a text that is carried out, and a message that is refused, get no reply
pub returns-in-Ok-CarryOut-clause-area : goal.returns-in-Ok-CarryOut-clause-area
returns-in-Ok-CarryOut-clause-area g c =
    let e : Ok (carry_out c.in-Ok-CarryOut.text.now) ≡ decide_message c.args.self.now.identity.identifiers c.args.console.now.outstanding c.args.message.now = search rules in
    ap (λ d. over (message_outcome g.L.Line.kind c.args.self.now.identity d (station_of (g.S.Screen.grid c.args.screen.now) c.args.console.now)).reply c.args.area.now) e

pub returns-in-Err-clause-area : goal.returns-in-Err-clause-area
returns-in-Err-clause-area g c =
    ap (λ d. over (message_outcome g.L.Line.kind c.args.self.now.identity d (station_of (g.S.Screen.grid c.args.screen.now) c.args.console.now)).reply c.args.area.now) c.in-Err.ensures
