-- The law that every history of a terminal keeps.
use Rattle.std.specs.Prelude.{◌≡◌, ℕ, ◌+◌, ◌<◌, ◌≤◌, true, false, List, ◌∷◌, ◌++◌, length, Some}
use Rattle.std.specs.List.{AllByRecursion}
use Rattle.line.specs.Kind.{Kind}
use Rattle.edit.specs.View.{size}
use Rattle.station.specs.declared.fault.Refusal.{Refusal}
use Rattle.station.specs.declared.identity.Identity.{Identity}
use Rattle.station.specs.Station.{Outcome}
use Rattle.station.specs.Terminal.{State}
use Rattle.history.specs.Trace.{Event, Transition, Reached}
use Rattle.history.specs.Words.{takes_up, acknowledges, count, held_count, Every, caption_at, left_by_host, last_taken, characters, text_sent, form_at, is_fresh, carried_since, finds_nothing, Damaged, octets_in, Taken, began, is_awaiting, WithoutEffect}

-- a text in a reply, repeats too, is what the last transmission took
abbrev pub SendsLastTaken : Kind → Transition → List Transition → Type 0
SendsLastTaken k x past = (t : List ℕ) → text_sent (characters k x) ≡ Some t → last_taken past ≡ Some t

-- a poll that is answered with nothing outstanding gets an acknowledgement exactly when one is due
abbrev pub AcknowledgesWhenDue : Kind → Transition → List Transition → Type 0
AcknowledgesWhenDue k x past =
    0 < length x.outcome.reply → finds_nothing (form_at x.before) x.before.station.console.outstanding ≡ true
    → is_fresh k x ≡ carried_since k past

-- a damaged message that began while no check was awaited, and every octet of which was taken, has no effect
abbrev pub IgnoresDamage : Kind → List Transition → State → Type 0
IgnoresDamage k h t =
    (newer message past : List Transition) → h ≡ newer ++ (message ++ past)
    → Damaged k (octets_in message) → AllByRecursion (λ x. Taken x.event) message → is_awaiting (began message t).receiver ≡ false
    → AllByRecursion (λ x. WithoutEffect x.event x.before x.outcome.reply x.outcome.after) message

pub record Lawful (k : Kind) (h : List Transition) (t : State) : Type 0 where
  -- captions: protected is what the last host text left so, and the cursor is on the screen
  pub captions : (p : ℕ) → caption_at t.station.view.grid p ≡ left_by_host h p
  pub on_screen : t.station.view.cursor < size t.station.view.grid
  -- counting: what was taken up is acknowledged or held, at most one is held, and then the keyboard is locked
  pub counted : count takes_up h ≡ count acknowledges h + held_count t.station.console.held
  pub one_ahead : count takes_up h ≤ count acknowledges h + 1
  pub locked : held_count t.station.console.held ≡ 1 → t.station.console.locked ≡ true
  -- texts, acknowledgements and damage
  pub sent : Every (SendsLastTaken k) h
  pub due : Every (AcknowledgesWhenDue k) h
  pub damage : IgnoresDamage k h t

-- every history that leads from a new terminal to a state is lawful
abbrev pub Law : Kind → Identity → Type 0
Law k id = (h : List Transition) (t : State) → Reached k id h t → Lawful k h t

-- an event with this outcome, after any history that led to the state before it, leaves a lawful history
abbrev pub KeepsLaw : Kind → Identity → Event → State → Outcome Refusal State → Type 0
KeepsLaw k id e s o =
    (past : List Transition) → Reached k id past s
    → Lawful k (record { event = e; before = s; outcome = o } ∷ past) o.after
