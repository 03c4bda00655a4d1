-- What a whole message is to do, and when it is refused.
use Rattle.std.specs.Prelude.{ℕ, Bool, true, false, cond, ◌&&◌, ◌||◌, List, Some, None, Ok, Err, Option, Result, ◌==◌}
use Rattle.message.specs.Forms.{Form, poll, poll_acknowledge, repeat_request, text, Message, message_in}
use Rattle.console.specs.declared.fault.MessageFault.{MessageFault}
use Rattle.console.specs.declared.fault.MessageFault.TheVariants.{UnknownForm, OtherStation, NothingToRepeat}
use Rattle.console.specs.declared.identity.Identity.{Identity}
use Rattle.console.specs.declared.outstanding.Outstanding.{Outstanding}
use Rattle.console.specs.Console.{DID}

-- a poll, with acknowledgement or without; sending the outstanding reply again; carrying a text out
pub data MessageAction : Type 0 where
  answer_poll : Bool → MessageAction
  repeat : Outstanding → MessageAction
  carry_out : List ℕ → MessageAction

-- the general SID, which a poll may carry
abbrev pub ANY : ℕ
ANY = 0x50

abbrev pub is_poll : Form → Bool
is_poll poll = true
is_poll poll_acknowledge = true
is_poll repeat_request = false
is_poll (text t) = false

-- the message is for this station
abbrev pub is_own : Identity → Message → Bool
is_own id m =
    (m.rid == id.rid) && (m.did == DID && (m.sid == id.sid || (is_poll m.form && m.sid == ANY)))

abbrev pub repeat_of : Option Outstanding → Result MessageAction MessageFault
repeat_of None = Err NothingToRepeat
repeat_of (Some q) = Ok (repeat q)

abbrev pub form_action : Form → Option Outstanding → Result MessageAction MessageFault
form_action poll o = Ok (answer_poll false)
form_action poll_acknowledge o = Ok (answer_poll true)
form_action repeat_request o = repeat_of o
form_action (text t) o = Ok (carry_out t)

abbrev pub judged : Identity → Option Outstanding → Option Message → Result MessageAction MessageFault
judged id o None = Err UnknownForm
judged id o (Some m) = cond (is_own id m) (form_action m.form o) (Err OtherStation)

-- what a message does now
abbrev pub decide_message : Identity → Option Outstanding → List ℕ → Result MessageAction MessageFault
decide_message id o kept = judged id o (message_in kept)
