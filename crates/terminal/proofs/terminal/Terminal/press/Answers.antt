use Rattle.std.proofs.Common.{ap}
use Rattle.station.specs.Meaning.{station_of}
use Rattle.station.specs.Terminal.{with_station}
use Rattle.history.specs.Trace.{key}
use Rattle.history.proofs.Lawful.{follows}
use Rattle.terminal.specs.Meaning.{state_of}
use Rattle.terminal.specs.Seen.{seen_key}
use Rattle.terminal.proofs.Told.{key_seen}
use Rattle.terminal.proofs.terminal.Terminal.press.Goals as goal

pub returns-clause-law : goal.returns-clause-law
returns-clause-law g c =
    let e = c.press.ensures in
    let m = g.met.L.Line in
    let k = g.L.Line.kind in
    let id = c.args.self.now.identity in
    let s = state_of g.L.Line.wants g.S.Screen.grid c.args.self.now in
    let t = with_station s (station_of (g.S.Screen.grid c.press.new.screen) c.press.new.self) in
    follows k m.back m.detects m.range id (key c.args.key) s (seen_key c.press.result t)
    (key_seen k id c.args.key s c.press.result t e.answer (ap (with_station s) e.after))
