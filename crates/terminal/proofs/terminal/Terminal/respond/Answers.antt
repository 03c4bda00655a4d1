use Rattle.std.proofs.Common.{◌≡◌, ℕ, List, Ok, sym, ap, ◌∙◌, subst}
use Rattle.receiver.specs.Meaning.{message_of}
use Rattle.receiver.specs.declared.receive.Event.{Event}
use Rattle.receiver.specs.declared.receive.Event.TheVariants.{Message}
use Rattle.console.specs.declared.fault.OctetRefusal.{OctetRefusal}
use Rattle.station.specs.Meaning.{station_of}
use Rattle.station.specs.Station.{Outcome}
use Rattle.station.specs.Terminal.{State, heard_outcome, with_station}
use Rattle.terminal.specs.Does.{Does}
use Rattle.terminal.specs.Meaning.{state_of}
use Rattle.terminal.proofs.terminal.Terminal.respond.Goals as goal

pub returns-in-Message-clause-does : goal.returns-in-Message-clause-does
returns-in-Message-clause-does g c =
    let was = c.args.self.now in
    let s = state_of g.L.Line.wants g.S.Screen.grid was in
    let t = with_station s (station_of (g.S.Screen.grid c.obey.new.screen) c.obey.new.console) in
    let at : Event → List ℕ → Outcome OctetRefusal State = λ e m. heard_outcome g.L.Line.kind was.identity (Ok e) m s in
    let kept = message_of was.receiver in
    let heard : at (Message c.in-Message.kept) c.message-message.result.now ≡ at c.args.event kept =
    ap (at (Message c.in-Message.kept)) c.message-message.ensures ∙ ap (λ e. at e kept) (sym c.in-Message.is) in
    let e = c.obey.ensures in
    subst (λ o. Does o c.obey.result c.args.area.now c.obey.new.area t) heard (record { answer = e.answer; area = e.area; after = ap (with_station s) e.after })
