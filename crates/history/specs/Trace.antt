-- Histories of a terminal: what happened to it, what it answered and wrote, and its states.
use Rattle.std.specs.Prelude.{◌≡◌, ℕ, List, [], ◌∷◌, replicate, Ok, Err, Result}
use Rattle.line.specs.Kind.{Kind}
use Rattle.receiver.specs.Receiving.{idle}
use Rattle.screen.specs.Cells.{blank}
use Rattle.screen.specs.Grid.{Sound}
use Rattle.edit.specs.View.{size}
use Rattle.console.specs.declared.answer.Answer.{Answer}
use Rattle.station.specs.declared.fault.Refusal.{Refusal}
use Rattle.station.specs.declared.fault.Refusal.TheVariants.{Key, Octet}
use Rattle.station.specs.declared.identity.Identity.{Identity}
use Rattle.console.specs.Console.{new_console}
use Rattle.station.specs.Station.{Outcome}
use Rattle.station.specs.Terminal.{State, keyed, received}

-- a key, or an octet with an area of so many octets for a reply
pub data Event : Type 0 where
  key : ℕ → Event
  octet : ℕ → ℕ → Event

-- one event as seen from outside: the state before it, the answer, the reply's octets and the state after it
pub record Transition : Type 0 where
  pub event : Event
  pub before : State
  pub outcome : Outcome Refusal State

abbrev pub refused_as : {R : Type 0} → (R → Refusal) → Result Answer R → Result Answer Refusal
refused_as f (Ok a) = Ok a
refused_as f (Err r) = Err (f r)

abbrev pub widened : {R : Type 0} → (R → Refusal) → Outcome R State → Outcome Refusal State
widened f o = record { answer = refused_as f o.answer; reply = o.reply; after = o.after }

-- what a terminal of this kind of line and this identity makes of an event
abbrev pub outcome_of : Kind → Identity → Event → State → Outcome Refusal State
outcome_of k id (key c) s = widened Key (keyed c s)
outcome_of k id (octet o room) s = widened Octet (received k id o room s)

-- the transitions, newest first, lead from one state to another
abbrev pub Leads : Kind → Identity → State → List Transition → State → Type 0
Leads k id s [] t = s ≡ t
Leads k id s (x ∷ past) t =
    Leads k id s past x.before × (outcome_of k id x.event x.before ≡ x.outcome) × (x.outcome.after ≡ t)

-- a new terminal, on a line as it was handed over
pub record New (s : State) : Type 0 where
  pub sound : Sound s.station.view.grid
  pub cells : s.station.view.grid.cells ≡ replicate (size s.station.view.grid) blank
  pub cursor : s.station.view.cursor ≡ 0
  pub console : s.station.console ≡ new_console
  pub receiver : s.receiver ≡ idle

-- a history that leads from a new terminal to a state
pub record Reached (k : Kind) (id : Identity) (h : List Transition) (t : State) : Type 0 where
  pub first : State
  pub new : New first
  pub leads : Leads k id first h t
