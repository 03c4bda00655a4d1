-- Where the messages of a capture stand.
use Rattle.std.specs.Prelude.{ℕ, ◌+◌, ◌-◌, ◌^◌, min, Some, None, Ok, Err, Option, Result}
use Rattle.capture.specs.declared.watch.Standing.{Standing}
use Rattle.capture.specs.declared.watch.Standing.TheVariants.{Between, UnderWay, Over}
use Rattle.receiver.specs.declared.fault.Fault.{Fault}
use Rattle.receiver.specs.declared.receive.Event.{Event}
use Rattle.receiver.specs.declared.receive.Event.TheVariants.{Nothing, Begun, Message}

-- how many octets there were, and the message of the last one
pub record Place : Type 0 where
  pub octets : ℕ
  pub message : Standing

abbrev pub new_place : Place
new_place = record { octets = 0; message = Between }

-- the count, which stops at the largest number that it can have
abbrev pub one_more : ℕ → ℕ
one_more n = min (n + 1) (2 ^ 64 - 1)

-- the offset of the SOH of the message to which the last octet belongs, if any
abbrev pub begun : Standing → Option ℕ
begun Between = None
begun (UnderWay at) = Some at
begun (Over at) = Some at

-- that of the message that is not over
abbrev pub under_way : Standing → Option ℕ
under_way Between = None
under_way (UnderWay at) = Some at
under_way (Over at) = None

-- a message that is under way is over; else there is none
abbrev pub ended : Standing → Standing
ended Between = Between
ended (UnderWay at) = Over at
ended (Over at) = Between

-- a message that is under way goes on; else there is none
abbrev pub goes_on : Standing → Standing
goes_on Between = Between
goes_on (UnderWay at) = UnderWay at
goes_on (Over at) = Between

-- after an octet that was answered so
abbrev pub placed : Result Event Fault → Place → Place
placed (Ok Nothing) p = record { octets = one_more p.octets; message = goes_on p.message }
placed (Ok Begun) p = record { octets = one_more p.octets; message = UnderWay p.octets }
placed (Ok (Message n)) p = record { octets = one_more p.octets; message = ended p.message }
placed (Err f) p = record { octets = one_more p.octets; message = ended p.message }
