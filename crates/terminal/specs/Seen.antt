-- What a caller of a terminal sees of an event.
use Rattle.std.specs.Prelude.{ℕ, List, [], take, unwrap_or, Ok, Err, Result}
use Rattle.console.specs.declared.answer.Answer.{Answer}
use Rattle.console.specs.declared.fault.KeyRefusal.{KeyRefusal}
use Rattle.console.specs.declared.fault.OctetRefusal.{OctetRefusal}
use Rattle.station.specs.declared.fault.Refusal.{Refusal}
use Rattle.station.specs.declared.fault.Refusal.TheVariants.{Key, Octet}
use Rattle.station.specs.Station.{Outcome}
use Rattle.station.specs.Terminal.{State}
use Rattle.history.specs.Trace.{refused_as}

-- how many octets an answer says the reply has
abbrev pub reply_length : {R : Type 0} → Result Answer R → ℕ
reply_length (Ok a) = unwrap_or a.reply 0
reply_length (Err r) = 0

-- a key: its answer, and the state after it
abbrev pub seen_key : Result Answer KeyRefusal → State → Outcome Refusal State
seen_key r t = record { answer = refused_as Key r; reply = []; after = t }

-- an octet: its answer, the reply as it stands in the area, and the state after it
abbrev pub seen_octet : Result Answer OctetRefusal → List ℕ → State → Outcome Refusal State
seen_octet r area t = record { answer = refused_as Octet r; reply = take (reply_length r) area; after = t }
