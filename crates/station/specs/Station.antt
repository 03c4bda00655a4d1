-- A station: what its user sees, and what it holds and owes. What a key and a whole message do to it.
use Rattle.std.specs.Prelude.{ℕ, Bool, true, false, cond, not, ◌&&◌, ◌||◌, List, [], length, Some, None, Ok, Err, Option, Result, ◌==◌, is_some}
use Rattle.std.specs.Option.{option_or}
use Rattle.codes.specs.Ascii.{BEL}
use Rattle.line.specs.Kind.{Kind}
use Rattle.text.specs.Steps.{Step, steps_of}
use Rattle.screen.specs.Grid.{Grid}
use Rattle.edit.specs.View.{View}
use Rattle.edit.specs.Edits.{edited}
use Rattle.edit.specs.Writing.{any_open, stored}
use Rattle.transmission.specs.Text.{taken}
use Rattle.host.specs.Drawing.{drawn_all}
use Rattle.host.specs.Carrying.{is_lock, is_light, some_step, taking}
use Rattle.console.specs.declared.answer.Answer.{Answer}
use Rattle.console.specs.declared.fault.KeyRefusal.{KeyRefusal}
use Rattle.console.specs.declared.fault.MessageFault.{MessageFault}
use Rattle.station.specs.declared.identity.Identity.{Identity}
use Rattle.console.specs.declared.key.KeyAction.{KeyAction}
use Rattle.console.specs.declared.key.KeyAction.TheVariants.{Store, Edit, Transmit, Call, Unlock}
use Rattle.console.specs.Console.{Console, content, framed, polled, acknowledges_text, holding, calling, unlocked}
use Rattle.console.specs.Keys.{decide_key, takes_up}
use Rattle.console.specs.Messages.{MessageAction, answer_poll, repeat, carry_out, decide_message}

pub record Station : Type 0 where
  pub view : View
  pub console : Console

abbrev pub with_view : View → Station → Station
with_view v s = record { view = v; console = s.console }

abbrev pub with_console : Console → Station → Station
with_console d s = record { view = s.view; console = d }

-- the answer or the refusal, the reply's octets, and what is left
pub record Outcome (R S : Type 0) : Type 0 where
  pub answer : Result Answer R
  pub reply : List ℕ
  pub after : S

abbrev pub said : {R : Type 0} → (taken_up acknowledged carried_out : Bool) → Option ℕ → Result Answer R
said t a c n = Ok (record { taken_up = t; acknowledged = a; carried_out = c; reply = n })

-- nothing is written
abbrev pub silent : {R S : Type 0} → Result Answer R → S → Outcome R S
silent a s = record { answer = a; reply = []; after = s }

-- a reply is written
abbrev pub replies : {R S : Type 0} → Bool → List ℕ → S → Outcome R S
replies a octets s = record { answer = said false a false (Some (length octets)); reply = octets; after = s }

-- an accepted key
abbrev pub does_key : KeyAction → Station → Station
does_key (Store c) s = with_view (stored c s.view) s
does_key (Edit e) s = with_view (edited e s.view) s
does_key (Transmit k) s = with_console (holding (taken k s.view) s.console) s
does_key (Call c) s = with_console (calling c (cond (c == BEL) false s.console.light) s.console) s
does_key Unlock s = with_console (unlocked s.console) s

-- an action that stores needs an open cell
abbrev pub can_do : KeyAction → Grid → Bool
can_do (Store c) g = any_open g
can_do (Edit e) g = true
can_do (Transmit k) g = true
can_do (Call c) g = true
can_do Unlock g = true

abbrev pub key_outcome : Result KeyAction KeyRefusal → Station → Outcome KeyRefusal Station
key_outcome (Err r) s = silent (Err r) s
key_outcome (Ok a) s = silent (said (takes_up a) false false None) (does_key a s)

abbrev pub is_called : Option ℕ → Bool
is_called None = false
is_called (Some c) = true

-- what a key does now
abbrev pub action_now : ℕ → Station → Result KeyAction KeyRefusal
action_now c s =
    decide_key s.console.locked (any_open s.view.grid) (is_some s.console.held) (is_called s.console.call) c

-- a key
abbrev pub pressed : ℕ → Station → Outcome KeyRefusal Station
pressed c s = key_outcome (action_now c s) s

-- a host text whose steps are xs, and whose first transmission takes x
abbrev pub carried : List Step → Option (List ℕ) → Console → Console
carried xs x d = record {
  locked = some_step is_lock xs || is_some (option_or d.held x);
  light = d.light || some_step is_light xs;
  held = option_or d.held x;
  call = d.call;
  outstanding = d.outstanding;
  due = true;
}

-- with one held, nothing is taken up
abbrev pub newly_held : Option (List ℕ) → Option (List ℕ) → Bool
newly_held held x = is_some (option_or held x) && not (is_some held)

abbrev pub carries_out : {R : Type 0} → List Step → Station → Outcome R Station
carries_out xs s =
    let x : Option (List ℕ) = taking false xs s.view in
    silent (said (newly_held s.console.held x) false true None)
    (record { view = drawn_all false xs s.view; console = carried xs x s.console })

-- a message that is accepted
abbrev pub does_message : {R : Type 0} → Kind → Identity → MessageAction → Station → Outcome R Station
does_message k id (answer_poll a) s =
    replies (acknowledges_text a s.console.outstanding) (polled k id.identifiers a s.console).octets
    (with_console (polled k id.identifiers a s.console).console s)
does_message k id (repeat q) s = replies false (framed k id.identifiers (content q s.console)) s
does_message k id (carry_out t) s = carries_out (steps_of t) s

abbrev pub message_outcome : Kind → Identity → Result MessageAction MessageFault → Station → Outcome MessageFault Station
message_outcome k id (Err f) s = silent (Err f) s
message_outcome k id (Ok a) s = does_message k id a s

-- a whole message
abbrev pub obeyed : Kind → Identity → List ℕ → Station → Outcome MessageFault Station
obeyed k id kept s = message_outcome k id (decide_message id.identifiers s.console.outstanding kept) s
