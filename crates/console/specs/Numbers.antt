-- The numbers of the refusals.
use Rattle.std.specs.Prelude.{ℕ}
use Rattle.area.specs.Numbers as area
use Rattle.receiver.specs.Numbers as receiver
use Rattle.console.specs.declared.fault.KeyRefusal.{KeyRefusal}
use Rattle.console.specs.declared.fault.KeyRefusal.TheVariants.{Locked, NoSuchKey, NoOpenCell, StillHeld, CallHeld}
use Rattle.console.specs.declared.fault.MessageFault.{MessageFault}
use Rattle.console.specs.declared.fault.MessageFault.TheVariants.{UnknownForm, OtherStation, NothingToRepeat}
use Rattle.console.specs.declared.fault.Cause.{Cause}
use Rattle.console.specs.declared.fault.Cause.TheVariants.{Below, Terminal}
use Rattle.console.specs.declared.fault.OctetRefusal.{OctetRefusal}
use Rattle.console.specs.declared.fault.OctetRefusal.TheVariants.{Area, Fault}

-- 1 locked, 2 no such key, 3 no open cell, 4 still held, 5 call held
abbrev pub key_number : KeyRefusal → ℕ
key_number Locked = 1
key_number NoSuchKey = 2
key_number NoOpenCell = 3
key_number StillHeld = 4
key_number CallHeld = 5

-- 10 unknown form, 11 other station, 12 nothing to repeat
abbrev pub message_number : MessageFault → ℕ
message_number UnknownForm = 10
message_number OtherStation = 11
message_number NothingToRepeat = 12

-- 7 to 9 of line and receiver, 10 to 12 of the terminal
abbrev pub cause_number : Cause → ℕ
cause_number (Below cause) = receiver.number_of cause
cause_number (Terminal fault) = message_number fault

-- 6 of the area, 7 to 12 of an octet that was taken
abbrev pub octet_number : OctetRefusal → ℕ
octet_number (Area refusal) = area.number_of refusal
octet_number (Fault fault) = cause_number fault.cause
