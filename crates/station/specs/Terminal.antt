-- A terminal: a station behind a receiver and a line. What a key and an octet answer, write and leave.
use Rattle.std.specs.Prelude.{ℕ, false, cond, List, None, Ok, Err, Result, nat_lt}
use Rattle.area.specs.declared.Refusal.TheVariants.{ShortArea}
use Rattle.line.specs.Kind.{Kind}
use Rattle.line.specs.Octet.{wanted}
use Rattle.receiver.specs.declared.fault.Fault as below
use Rattle.receiver.specs.declared.receive.Event.{Event}
use Rattle.receiver.specs.declared.receive.Event.TheVariants as event
use Rattle.receiver.specs.Receiving as receiving
use Rattle.receiver.specs.Hearing.{hear}
use Rattle.console.specs.declared.answer.Answer.{Answer}
use Rattle.console.specs.declared.fault.KeyRefusal.{KeyRefusal}
use Rattle.console.specs.declared.fault.MessageFault.{MessageFault}
use Rattle.console.specs.declared.fault.Cause.TheVariants as cause
use Rattle.console.specs.declared.fault.Fault.{Fault}
use Rattle.console.specs.declared.fault.OctetRefusal.{OctetRefusal}
use Rattle.console.specs.declared.fault.OctetRefusal.TheVariants as refusal
use Rattle.station.specs.declared.identity.Identity.{Identity}
use Rattle.station.specs.Station.{Station, Outcome, said, silent, pressed, obeyed}

pub record State : Type 0 where
  -- how many lead octets the line still wants
  pub wants : ℕ
  pub receiver : receiving.State
  pub station : Station

abbrev pub with_station : State → Station → State
with_station s x = record { wants = s.wants; receiver = s.receiver; station = x }

-- a key gets no reply, and leaves line and receiver
abbrev pub keyed : ℕ → State → Outcome KeyRefusal State
keyed c s =
    let o : Outcome KeyRefusal Station = pressed c s.station in
    silent o.answer (with_station s o.after)

-- the octet has gone through line and receiver
abbrev pub heard_by : Kind → ℕ → State → State
heard_by k octet s = record {
  wants = wanted k s.wants octet;
  receiver = (hear k s.wants s.receiver octet).state;
  station = s.station;
}

-- a fault of line or receiver, as the terminal tells it
abbrev pub heard_fault : Result Event below.Fault → Result Event Fault
heard_fault (Ok e) = Ok e
heard_fault (Err f) = Err (record { cause = cause.Below f.cause; kept = f.kept })

-- a message of n characters is refused by the terminal's layer
abbrev pub told : ℕ → Result Answer MessageFault → Result Answer OctetRefusal
told n (Ok a) = Ok a
told n (Err f) = Err (refusal.Fault (record { cause = cause.Terminal f; kept = n }))

-- what line and receiver make of an octet: nothing yet, a fault, or a whole message
abbrev pub heard_outcome : Kind → Identity → Result Event below.Fault → List ℕ → State → Outcome OctetRefusal State
heard_outcome k id (Ok event.Nothing) kept s = silent (said false false false None) s
heard_outcome k id (Ok event.Begun) kept s = silent (said false false false None) s
heard_outcome k id (Ok (event.Message n)) kept s =
    let o : Outcome MessageFault Station = obeyed k id kept s.station in
    record { answer = told n o.answer; reply = o.reply; after = with_station s o.after }
heard_outcome k id (Err f) kept s = silent (Err (refusal.Fault (record { cause = cause.Below f.cause; kept = f.kept }))) s

-- an octet that is taken
abbrev pub taken : Kind → Identity → ℕ → State → Outcome OctetRefusal State
taken k id octet s =
    heard_outcome k id (hear k s.wants s.receiver octet).answer (hear k s.wants s.receiver octet).message (heard_by k octet s)

-- an octet, with an area of so many octets for the reply
abbrev pub received : Kind → Identity → (octet room : ℕ) → State → Outcome OctetRefusal State
received k id octet room s = cond (nat_lt room 5800) (silent (Err (refusal.Area ShortArea)) s) (taken k id octet s)
