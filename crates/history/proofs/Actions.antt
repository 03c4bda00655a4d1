-- What the guards let through: what is known of an event whose action is accepted.
use Rattle.std.proofs.Common.{◌≡◌, ℕ, zero, suc, ◌+◌, ◌-◌, ◌≤◌, true, false, cond, List, [], ◌∷◌, get_or, IfOk, Some, Ok, arith}
use Rattle.line.specs.Kind.{Kind}
use Rattle.receiver.specs.declared.receive.Event.TheVariants.{Message}
use Rattle.receiver.specs.Receiving as receiving
use Rattle.receiver.specs.Hearing.{hear}
use Rattle.message.specs.Forms.{poll, poll_acknowledge, repeat_request, text}
use Rattle.edit.specs.Writing.{any_open}
use Rattle.edit.specs.Laws.{is_key}
use Rattle.transmission.specs.Laws.{Plain}
use Rattle.std.specs.Prelude.{is_some}
use Rattle.station.specs.declared.identity.Identity.{Identity}
use Rattle.console.specs.declared.key.KeyAction.{KeyAction}
use Rattle.console.specs.declared.key.KeyAction.TheVariants.{Store, Edit, Transmit, Call, Unlock}
use Rattle.console.specs.Keys.{keys}
use Rattle.console.specs.Messages.{MessageAction, answer_poll, repeat, carry_out, decide_message}
use Rattle.station.specs.Station.{Station, action_now}
use Rattle.station.specs.Terminal.{State}
use Rattle.history.specs.Words.{kept_in, form_at, sent_by_key}

-- the action of the key c, before the guards
abbrev OfKey : ℕ → KeyAction → Type 0
OfKey c (Store x) = Unit {0}
OfKey c (Edit e) = is_key e ≡ true
OfKey c (Transmit k) = sent_by_key c ≡ k
OfKey c (Call x) = Plain x
OfKey c Unlock = Unit {0}

-- the actions of the keys from c on
abbrev OfKeys : ℕ → List KeyAction → Type 0
OfKeys c [] = Unit {0}
OfKeys c (a ∷ more) = OfKey c a × OfKeys (suc c) more

-- the table of keys, with the codes of the five calls
all_keys : OfKeys 0x80 keys
all_keys =
    let calls : Plain 0x07 × Plain 0x37 × Plain 0x47 × Plain 0x57 × Plain 0x67 = omega arith in
    search calls

of_key_at : (actions : List KeyAction) (c : ℕ) → OfKeys c actions → (i n : ℕ) → c + i ≡ n → OfKey n (get_or actions i Unlock)
of_key_at [] c a i n e = tt
of_key_at (x ∷ more) c a zero n e = let same : n ≡ c = omega arith in rw same a.0
of_key_at (x ∷ more) c a (suc i) n e = of_key_at more (suc c) a.1 i n (omega arith)

-- an action of the key c that the guards let through
abbrev pub KeyAccepted : ℕ → Station → KeyAction → Type 0
KeyAccepted c s (Store x) = any_open s.view.grid ≡ true
KeyAccepted c s (Edit e) = is_key e ≡ true
KeyAccepted c s (Transmit k) = (s.console.locked ≡ false) × (sent_by_key c ≡ k)
KeyAccepted c s (Call x) = Plain x
KeyAccepted c s Unlock = is_some s.console.held ≡ false

pub key_accepted : (c : ℕ) (s : Station) → IfOk (action_now c s) (KeyAccepted c s)
key_accepted c s =
    let table = λ (h : 0x80 ≤ c). of_key_at keys 0x80 all_keys (c - 0x80) c (omega arith) in
    grind arith

-- an action of the message that the octet after the state s ends
abbrev pub MessageAccepted : State → MessageAction → Type 0
MessageAccepted s (answer_poll a) = form_at s ≡ Some (cond a poll_acknowledge poll)
MessageAccepted s (repeat q) = (form_at s ≡ Some repeat_request) × (s.station.console.outstanding ≡ Some q)
MessageAccepted s (carry_out t) = form_at s ≡ Some (text t)

pub message_accepted : (id : Identity) (s : State) (kept : List ℕ) → kept ≡ kept_in s.receiver
    → IfOk (decide_message id.identifiers s.station.console.outstanding kept) (MessageAccepted s)
message_accepted id s kept e = grind arith

-- a whole message is what the receiver had kept
pub heard_kept : (k : Kind) (w : ℕ) (r : receiving.State) (o n : ℕ) → (hear k w r o).answer ≡ Ok (Message n) → (hear k w r o).message ≡ kept_in r
heard_kept k w r o n e = grind arith
