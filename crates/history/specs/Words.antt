-- What can be read off a history, newest transition first.
use Rattle.std.specs.Prelude.{◌≡◌, ℕ, ◌+◌, ◌^◌, ◌<◌, ◌≤◌, Bool, true, false, cond, not, ◌&&◌, ◌||◌, List, [], ◌∷◌, ◌++◌, map, Some, None, Ok, Err, filter, Option, Result, ◌==◌, bit_xor, nat_eq, slice_index, slice_index_or}
use Rattle.std.specs.List.{AllByRecursion}
use Rattle.codes.specs.Ascii.{SOH, STX, ETX, DLE}
use Rattle.codes.specs.Classes.{is_fill}
use Rattle.line.specs.Kind.{Kind}
use Rattle.receiver.specs.Check.{block_check}
use Rattle.receiver.specs.Receiving as receiving
use Rattle.receiver.specs.Receiving.{idle, collecting, awaiting}
use Rattle.message.specs.Forms.{Form, poll, poll_acknowledge, repeat_request, text, Message, message_in}
use Rattle.screen.specs.Cells.{blank}
use Rattle.screen.specs.Grid.{Grid}
use Rattle.text.specs.Steps.{Step, steps_of}
use Rattle.edit.specs.View.{View}
use Rattle.edit.specs.Laws.{caption}
use Rattle.transmission.specs.declared.kind.Kind as sending
use Rattle.transmission.specs.Text.{taken}
use Rattle.host.specs.Drawing.{drawn_all}
use Rattle.host.specs.Carrying.{took}
use Rattle.host.specs.Laws.{steps_before, first_transmission}
use Rattle.reply.specs.Octets.{octets}
use Rattle.console.specs.declared.answer.Answer.{Answer}
use Rattle.station.specs.declared.fault.Refusal.{Refusal}
use Rattle.console.specs.declared.outstanding.Outstanding.{Outstanding}
use Rattle.console.specs.Console.{ONE}
use Rattle.station.specs.Terminal.{State}
use Rattle.history.specs.Trace.{Event, key, octet, Transition}

-- what an accepted event's answer says; a refusal says nothing
abbrev pub answered : (Answer → Bool) → Result Answer Refusal → Bool
answered says (Ok a) = says a
answered says (Err r) = false

abbrev pub takes_up : Transition → Bool
takes_up x = answered (λ a. a.taken_up) x.outcome.answer

abbrev pub acknowledges : Transition → Bool
acknowledges x = answered (λ a. a.acknowledged) x.outcome.answer

abbrev pub carries_out : Transition → Bool
carries_out x = answered (λ a. a.carried_out) x.outcome.answer

abbrev pub count : (Transition → Bool) → List Transition → ℕ
count test [] = 0
count test (x ∷ past) = cond (test x) 1 0 + count test past

abbrev pub held_count : Option (List ℕ) → ℕ
held_count None = 0
held_count (Some t) = 1

-- each transition with those before it
abbrev pub Every : (Transition → List Transition → Type 0) → List Transition → Type 0
Every P [] = Unit {0}
Every P (x ∷ past) = P x past × Every P past

-- the character of the cell at a place, if it is protected
abbrev pub caption_at : Grid → ℕ → Option ℕ
caption_at g p = caption (slice_index_or g.cells p blank)

-- what the last host text carried out left protected at a place; before the first, nothing
abbrev pub left_by_host : List Transition → ℕ → Option ℕ
left_by_host [] p = None
left_by_host (x ∷ past) p = cond (carries_out x) (caption_at x.outcome.after.station.view.grid p) (left_by_host past p)

-- the characters that the receiver has kept
abbrev pub kept_in : receiving.State → List ℕ
kept_in idle = []
kept_in (collecting cs) = cs
kept_in (awaiting cs) = cs

abbrev pub form_in : Option Message → Option Form
form_in None = None
form_in (Some m) = Some m.form

-- the form of the message that the octet after this state ends
abbrev pub form_at : State → Option Form
form_at s = form_in (message_in (kept_in s.receiver))

abbrev pub text_of : Option Form → List ℕ
text_of None = []
text_of (Some poll) = []
text_of (Some poll_acknowledge) = []
text_of (Some repeat_request) = []
text_of (Some (text t)) = t

-- what the first transmission among some steps takes, from the cells and the cursor that the steps before it leave
abbrev pub transmitted : List Step → View → Option (List ℕ)
transmitted ss v = took (first_transmission ss) (drawn_all false (steps_before ss) v)

-- TRANSMIT DISPLAY sends all cells, TRANSMIT the open ones
abbrev pub sent_by_key : ℕ → sending.Kind
sent_by_key c = cond (c == 0x91) sending.TheVariants.Display sending.TheVariants.Open

-- what a transmission takes: a key, from the cells and the cursor before it; a host text, as its steps leave them
abbrev pub took_by : Event → State → Option (List ℕ)
took_by (key c) s = Some (taken (sent_by_key c) s.station.view)
took_by (octet o room) s = transmitted (steps_of (text_of (form_at s))) s.station.view

-- what the last transmission took
abbrev pub last_taken : List Transition → Option (List ℕ)
last_taken [] = None
last_taken (x ∷ past) = cond (takes_up x) (took_by x.event x.before) (last_taken past)

-- the characters of a reply, as a line of its kind gives them
abbrev pub characters : Kind → Transition → List ℕ
characters k x = map k.character x.outcome.reply

abbrev pub put_before : ℕ → Option (List ℕ) → Option (List ℕ)
put_before c None = None
put_before c (Some cs) = Some (c ∷ cs)

-- what stands before the first ETX
abbrev pub up_to_ETX : List ℕ → Option (List ℕ)
up_to_ETX [] = None
up_to_ETX (c ∷ cs) = cond (c == ETX) (Some []) (put_before c (up_to_ETX cs))

-- what stands between STX and ETX
abbrev pub text_sent : List ℕ → Option (List ℕ)
text_sent [] = None
text_sent (c ∷ cs) = cond (c == STX) (up_to_ETX cs) (text_sent cs)

-- DLE 31 stands among the characters
abbrev pub has_acknowledgement : List ℕ → Bool
has_acknowledgement [] = false
has_acknowledgement (c ∷ cs) = (c == DLE && slice_index cs 0 == ONE) || has_acknowledgement cs

abbrev pub is_poll : Option Form → Bool
is_poll None = false
is_poll (Some poll) = true
is_poll (Some poll_acknowledge) = true
is_poll (Some repeat_request) = false
is_poll (Some (text t)) = false

-- a fresh acknowledgement: DLE 31 in the reply to a poll, and not in a repeat
abbrev pub is_fresh : Kind → Transition → Bool
is_fresh k x = has_acknowledgement (characters k x) && is_poll (form_at x.before)

-- a host text was carried out since the last fresh acknowledgement
abbrev pub carried_since : Kind → List Transition → Bool
carried_since k [] = false
carried_since k (x ∷ past) = carries_out x || (not (is_fresh k x) && carried_since k past)

-- a poll finds nothing outstanding; one with acknowledgement settles first
abbrev pub finds_nothing : Option Form → Option Outstanding → Bool
finds_nothing None o = false
finds_nothing (Some poll) None = true
finds_nothing (Some poll) (Some q) = false
finds_nothing (Some poll_acknowledge) o = true
finds_nothing (Some repeat_request) o = false
finds_nothing (Some (text t)) o = false

-- a character that can stand between SOH and ETX
pub record Inner (c : ℕ) : Type 0 where
  pub seven : c < 128
  pub no_SOH : nat_eq c SOH ≡ false
  pub no_ETX : nat_eq c ETX ≡ false

-- a message on the way: SOH, its characters with any fill among them, ETX and the check of what is no fill
abbrev pub on_the_way : Kind → List ℕ → List ℕ
on_the_way k cs =
    octets k (SOH ∷ (cs ++ (ETX ∷ (block_check (filter (λ c. not (is_fill c)) cs ++ (ETX ∷ [])) ∷ []))))

-- octets that are a message but for one bit
pub record Damaged (k : Kind) (received : List ℕ) : Type 0 where
  pub body : List ℕ
  pub inner : AllByRecursion Inner body
  pub front : List ℕ
  pub hit : ℕ
  pub back : List ℕ
  pub bit : ℕ
  pub in_octet : bit < 8
  pub sent : on_the_way k body ≡ front ++ (hit ∷ back)
  pub damaged : received ≡ front ++ (bit_xor hit (2 ^ bit) ∷ back)

abbrev pub octet_in : Event → List ℕ
octet_in (key c) = []
octet_in (octet o room) = o ∷ []

-- the octets of some transitions, in the order of time
abbrev pub octets_in : List Transition → List ℕ
octets_in [] = []
octets_in (x ∷ past) = octets_in past ++ octet_in x.event

-- an octet that is taken has an area that is long enough
abbrev pub Taken : Event → Type 0
Taken (key c) = Unit {0}
Taken (octet o room) = 5800 ≤ room

-- the state in which some transitions began, where the last of them left t
abbrev pub began : List Transition → State → State
began [] t = t
began (x ∷ past) t = began past x.before

abbrev pub is_awaiting : receiving.State → Bool
is_awaiting idle = false
is_awaiting (collecting cs) = false
is_awaiting (awaiting cs) = true

-- an octet without effect: no reply, and nothing changed but line and receiver; of keys nothing is said
abbrev pub WithoutEffect : Event → State → List ℕ → State → Type 0
WithoutEffect (key c) s reply t = Unit {0}
WithoutEffect (octet o room) s reply t = (reply ≡ []) × (t.station ≡ s.station)
