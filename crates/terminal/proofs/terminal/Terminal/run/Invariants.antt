use Rattle.std.proofs.Common.{◌≡◌, ◌≤◌, map, length, take, vec_items, vec_len, vec_capacity}
use Rattle.history.specs.Runs.{Ran}
use Rattle.terminal.specs.Events.{event_of}
use Rattle.terminal.specs.Meaning.{state_of}
use Rattle.terminal.proofs.terminal.Terminal.run.Given as goal

abbrev pub invariant-loop-event : goal.invariant-loop-event
invariant-loop-event g l =
    let state = state_of g.L.Line.wants g.S.Screen.grid in
    (vec_len l.log ≡ l.event-index)
    × (length l.events ≤ vec_capacity l.log)
    × (l.self.screen.ghost_name ≡ l.initial.self.screen.ghost_name)
    × (g.S.Screen.rest l.self.screen.now ≡ g.S.Screen.rest l.initial.self.screen.now)
    × (l.self.identity ≡ l.initial.self.identity)
    × Ran g.L.Line.kind l.initial.self.identity (map (event_of (length l.initial.area)) (take l.event-index l.events)) (vec_items l.log) (state l.initial.self) (state l.self) l.initial.area l.area
