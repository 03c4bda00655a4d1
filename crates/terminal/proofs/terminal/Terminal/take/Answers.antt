use Rattle.std.proofs.Common.{◌≡◌, ℕ, List, Ok, refl, ap, ◌∙◌, subst, rules}
use Rattle.receiver.specs.Hearing.{hear}
use Rattle.receiver.specs.Receiving.{Next}
use Rattle.receiver.specs.Meaning.{message_of}
use Rattle.console.specs.declared.fault.OctetRefusal.{OctetRefusal}
use Rattle.station.specs.declared.identity.Identity.{Identity}
use Rattle.station.specs.Station.{Outcome}
use Rattle.station.specs.Terminal.{State, heard_by, heard_outcome, taken}
use Rattle.terminal.specs.Does.{Does}
use Rattle.terminal.specs.Meaning.{state_of}
use Rattle.terminal.proofs.Heard.{outcome_heard, outcome_refused}
use Rattle.terminal.proofs.terminal.Terminal.take.Goals as goal

pub returns-in_err-event-clause-does : goal.returns-in_err-event-clause-does
returns-in_err-event-clause-does g c =
    let was = c.args.self.now in
    let k = g.L.Line.kind in
    let s = state_of g.L.Line.wants g.S.Screen.grid was in
    let t = state_of g.L.Line.wants g.S.Screen.grid c.hear.new.self in
    let n : Next = hear k s.wants s.receiver c.args.octet in
    let h = c.in_err-event.ensures in
    subst (λ o. Does o c.from_residual.result c.args.area.now c.args.area.now t) (outcome_refused k was.identity n.message (heard_by k c.args.octet s) n.answer _ h.answer)
    (record { answer = search rules; area = refl; after = h.after })

pub returns-clause-does : goal.returns-clause-does
returns-clause-does g c =
    let was = c.args.self.now in
    let k = g.L.Line.kind in
    let s = state_of g.L.Line.wants g.S.Screen.grid was in
    let n : Next = hear k s.wants s.receiver c.args.octet in
    let h = c.in_ok-event.ensures in
    let there = c.hear.new.self in
    let at : Identity → List ℕ → State → Outcome OctetRefusal State = λ id kept t. heard_outcome k id (Ok c.in_ok-event.event) kept t in
    let heard : at there.identity (message_of there.receiver) (state_of g.L.Line.wants g.S.Screen.grid there) ≡ taken k was.identity c.args.octet s =
    ap (λ id. at id (message_of there.receiver) (state_of g.L.Line.wants g.S.Screen.grid there)) h.identity
    ∙ ap (λ kept. at was.identity kept (state_of g.L.Line.wants g.S.Screen.grid there)) h.message
    ∙ ap (at was.identity n.message) h.after
    ∙ outcome_heard k was.identity n.message (heard_by k c.args.octet s) n.answer c.in_ok-event.event h.answer in
    subst (λ o. Does o c.respond.result c.args.area.now c.respond.new.area (state_of g.L.Line.wants g.S.Screen.grid c.respond.new.self)) heard c.respond.ensures.does
