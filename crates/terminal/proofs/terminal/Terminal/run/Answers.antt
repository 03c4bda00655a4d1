use Rattle.std.proofs.Common.{◌≡◌, ℕ, ◌+◌, [], ◌∷◌, ◌++◌, map, length, get_or, take, vec_items, ap, ◌∙◌, subst, arith}
use Rattle.std.proofs.lemmas.List.{take_more, take_all, map_push}
use Rattle.station.specs.declared.fault.Refusal.{Refusal}
use Rattle.station.specs.declared.identity.Identity.{Identity}
use Rattle.station.specs.Station.{Outcome}
use Rattle.station.specs.Terminal.{State}
use Rattle.history.specs.Trace.{outcome_of}
use Rattle.history.specs.Runs.{Ran}
use Rattle.history.proofs.Longer.{ran_more, ran_lawfully}
use Rattle.terminal.specs.declared.run.Event.{Event}
use Rattle.terminal.specs.declared.run.Event.TheVariants.{Key}
use Rattle.terminal.specs.Does.{Does}
use Rattle.terminal.specs.Events.{event_of}
use Rattle.terminal.specs.Meaning.{state_of}
use Rattle.terminal.proofs.terminal.Terminal.run.Goals as goal

pub loop-event-preserved : goal.loop-event-preserved
loop-event-preserved g c =
    let k = g.L.Line.kind in
    let id = c.args.self.now.identity in
    let state = state_of g.L.Line.wants g.S.Screen.grid in
    let events = c.args.events.now in
    let i = c.loop-event.event-index in
    let room = length c.args.area.now in
    let event : Event = get_or events i (Key 0) in
    let inv = c.loop-event.invariant in
    let b = state c.loop-event.self in
    let e = c.step.ensures in
    let at : ℕ → Identity → Outcome Refusal State = λ n x. outcome_of k x (event_of n event) b in
    let same : at (length c.loop-event.area) c.loop-event.self.identity ≡ at room id = ap (λ n. at n c.loop-event.self.identity) c.loop-event.auto.area ∙ ap (at room) inv.4 in
    let does = subst (λ o. Does o c.step.result c.loop-event.area c.step.new.area (state c.step.new.self)) same e.does in
    let more : map (event_of room) (take (i + 1) events) ≡ map (event_of room) (take i events) ++ (event_of room event ∷ []) =
    ap (map (event_of room)) (take_more events i (Key 0) c.loop-event-test.true) ∙ map_push (event_of room) (take i events) event in (
      c.push_reserved.ensures.len ∙ ap (λ n. n + 1) inv.0,
      omega (arith, c.push_reserved.ensures.capacity, inv.1),
      e.same.screen ∙ inv.2,
      e.same.rest ∙ inv.3,
      e.same.identity ∙ inv.4,
      ran_more k id _ _ _ _ _ _ _ _ _ _ (event_of room event) c.step.result inv.5
          does.answer
          does.area
          does.after
          more
          c.push_reserved.ensures.items,
    )

pub returns : goal.returns
returns g c =
    let m = g.met.L.Line in
    let inv = c.loop-event.invariant in
    let events = c.args.events.now in
    let f = event_of (length c.args.area.now) in
    let all : map f (take c.loop-event.event-index events) ≡ map f events = ap (map f) (take_all c.loop-event.event-index events c.loop-event-test.false) in
    let state = state_of g.L.Line.wants g.S.Screen.grid in
    let k = g.L.Line.kind in
    let id = c.args.self.now.identity in
    let answers = vec_items c.loop-event.log in
    let s = state c.args.self.now in
    let t = state c.loop-event.self in
    let ran = subst (λ es. Ran k id es answers s t c.args.area.now c.loop-event.area) all inv.5 in
    record {
      same = record { screen = inv.2; rest = inv.3; identity = inv.4 };
      runs = ran_lawfully k id m.back m.detects m.range (map f events) answers s t c.args.area.now c.loop-event.area ran;
    }
